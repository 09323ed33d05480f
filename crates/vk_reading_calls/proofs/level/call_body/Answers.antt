use Rattle.std.proofs.Common.{◌≡◌, ℕ, ◌+◌, List, ap, sym, ◌∙◌, rules, true}
use Rattle.vk_ast.specs.Statements.{stmt_of}
use Rattle.vk_ast.specs.Units.{function_of}
use Rattle.vk_rules_book.specs.Scopes.{Scope, text_of}
use Rattle.vk_meaning.specs.Points.{Point}
use Rattle.vk_meaning.specs.Programs.{first_point}
use Rattle.vk_reading_steps.specs.Settings.{data_of}
use Rattle.vk_reading_steps.proofs.Steps.{does_want}
use Rattle.vk_reading_calls.specs.Inner.Adding.{adds_defined, adds_within}
use Rattle.vk_reading_calls.specs.Views.{calls_in, definition_with, units_in}
use Rattle.vk_reading_calls.proofs.Bodies.{context_is, does_given, does_halt}
use Rattle.vk_reading_calls.proofs.Scopes.{first_scope}
use Rattle.vk_reading_calls.proofs.level.call_body.Goals as goal

pub returns-in_default-clause-does : goal.returns-in_default-clause-does
returns-in_default-clause-does g c =
    let program = c.args.program.now in
    let depth = g.F.Functions.depth c.args.functions.now in
    does_want _ _ (adds_defined (units_in program) program.turns (calls_in depth program) (adds_within (units_in program) program.turns depth)
    (definition_with c.args.unit.now c.args.item (function_of c.args.f.now) (stmt_of c.args.body.now)) (data_of c.args.arguments.now))

pub returns-in-Ok-run_stmt-clause-does : goal.returns-in-Ok-run_stmt-clause-does
returns-in-Ok-run_stmt-clause-does g c =
    let program = c.args.program.now in
    let unit = c.args.unit.now in
    let calls = calls_in (g.F.Functions.depth c.args.functions.now) program in
    let d = definition_with unit c.args.item (function_of c.args.f.now) (stmt_of c.args.body.now) in
    let file = c.place-file.result in
    let text = c.text.ensures ∙ ap (λ (names : List (List ℕ)). text_of names c.args.f.now.name) (c.with-scopes.ensures.names ∙ c.place-file.ensures.names) in
    let scope = first_scope unit.names.now unit.items.now unit.first.items (c.args.item + 1) file c.in-Ok.locals.bindings.items c.deref-2.result.now c.args.f.now.params.items
    c.requires.unit.first c.place-file.ensures.names c.place-file.ensures.items c.place-file.ensures.first c.deref-2.ensures.value (c.in-Ok.ensures.scope file) in
    does_given (units_in program) program.turns calls d _ _ c.in-Ok.locals.values.items c.args.arguments.now c.run_stmt.new.locals.values.items _ _
    (context_is (units_in program) program.turns calls d c.deref.result.now unit.numbers.items c.text.result.now c.deref.ensures.value c.requires.unit.numbers text)
    (ap (λ (s : Scope). record { scope = s; shares = true; loops = 0 }) scope) c.in-Ok.ensures.values c.in-Ok-run_stmt.flow c.given_by.result c.given_by.ensures.value (c.in-Ok-run_stmt.ensures.acts 0)

pub returns-clause-does : goal.returns-clause-does
returns-clause-does g c =
    let program = c.args.program.now in
    let unit = c.args.unit.now in
    let calls = calls_in (g.F.Functions.depth c.args.functions.now) program in
    let d = definition_with unit c.args.item (function_of c.args.f.now) (stmt_of c.args.body.now) in
    let file = c.place-file.result in
    let text = c.text.ensures ∙ ap (λ (names : List (List ℕ)). text_of names c.args.f.now.name) (c.with-scopes.ensures.names ∙ c.place-file.ensures.names) in
    let scope = first_scope unit.names.now unit.items.now unit.first.items (c.args.item + 1) file c.in-Ok.locals.bindings.items c.deref-2.result.now c.args.f.now.params.items
    c.requires.unit.first c.place-file.ensures.names c.place-file.ensures.items c.place-file.ensures.first c.deref-2.ensures.value (c.in-Ok.ensures.scope file) in
    does_halt (units_in program) program.turns calls d _ _ c.in-Ok.locals.values.items c.args.arguments.now c.run_stmt.new.locals.values.items _ _
    (context_is (units_in program) program.turns calls d c.deref.result.now unit.numbers.items c.text.result.now c.deref.ensures.value c.requires.unit.numbers text)
    (ap (λ (s : Scope). record { scope = s; shares = true; loops = 0 }) scope) c.in-Ok.ensures.values c.in-Err.halt (c.in-Err.ensures.acts 0)
