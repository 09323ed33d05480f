use Rattle.std.proofs.Common.{ap, sym, ◌∙◌, Bool, true, Some}
use Rattle.vk_meaning.specs.Expressions.{object_value}
use Rattle.vk_reading.specs.Cells.{memory_in}
use Rattle.vk_rules_book.specs.Scopes.{an_object}
use Rattle.vk_rules_names.specs.Seen.{meaning_seen}
use Rattle.vk_rules_names.specs.declared.known.Known.{Known}
use Rattle.vk_reading_steps.proofs.names.object_of.Goals as goal

pub returns-else-is_array-clause-value : goal.returns-else-is_array-clause-value
returns-else-is_array-clause-value c arrays events rows =
    c.load.ensures.value arrays events rows
    ∙ sym (ap (λ (k : Known). object_value arrays c.args.array (meaning_seen k) (record { memory = memory_in c.args.cells.now.rows.items; events = events })) c.in-Object.is
    ∙ ap (λ (b : Bool). object_value arrays c.args.array (Some (an_object c.in-Object.ty b true)) (record { memory = memory_in c.args.cells.now.rows.items; events = events })) c.if-is_array.false)
