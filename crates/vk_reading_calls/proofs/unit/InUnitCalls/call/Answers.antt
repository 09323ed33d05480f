use Rattle.std.proofs.Common.{sym, ◌∙◌}
use Rattle.vk_meaning.specs.Programs.{arrays_of}
use Rattle.vk_rules_book.specs.Scopes.{is_print, text_of}
use Rattle.vk_reading_steps.specs.Settings.{data_of}
use Rattle.vk_reading_calls.specs.Views.{calls_in, units_in}
use Rattle.vk_reading_calls.proofs.Names.{prints, calls_other, calls_there}
use Rattle.vk_reading_calls.proofs.unit.InUnitCalls.call.Goals as goal

pub returns-then-is_print-clause-does : goal.returns-then-is_print-clause-does
returns-then-is_print-clause-does g c =
    let u = c.args.self.now in
    prints (calls_in (g.F.Functions.depth u.functions.now) u.program.now) (text_of u.unit.now.names.now c.args.id) (data_of c.args.arguments.now) (is_print u.unit.now.names.now c.args.id)
    (sym c.is_print.ensures ∙ c.if-is_print.true) (c.print_first.ensures.does (arrays_of (units_in u.program.now)) c.args.cells.now.rows.items)

pub returns-clause-does : goal.returns-clause-does
returns-clause-does g c =
    let u = c.args.self.now in
    let text = text_of u.unit.now.names.now c.args.id in
    calls_other (calls_in (g.F.Functions.depth u.functions.now) u.program.now) text (data_of c.args.arguments.now) (is_print u.unit.now.names.now c.args.id)
    (sym c.is_print.ensures ∙ c.if-is_print.false)
    (calls_there (arrays_of (units_in u.program.now)) _ _ _ (g.F.Functions.depth u.functions.now) u.program.now text (data_of c.args.arguments.now) c.function_place-at.result
    (c.function_place-at.ensures ∙ u.unit_right.functions c.args.id) c.call.ensures.does)
