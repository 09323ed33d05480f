use Rattle.std.proofs.Common.{ap, ◌∙◌, ℕ, Option}
use Rattle.vk_meaning.specs.Expressions.{object_value}
use Rattle.vk_reading.specs.Cells.{memory_in}
use Rattle.vk_rules_book.specs.Scopes.{Meaning}
use Rattle.vk_rules_names.specs.Seen.{meaning_seen}
use Rattle.vk_reading_steps.specs.Settings.{number_in_table}
use Rattle.vk_reading_steps.proofs.names.object_named.Goals as goal

pub returns-clause-value : goal.returns-clause-value
returns-clause-value c arrays events rows =
    c.object_of.ensures.value arrays events rows
    ∙ ap (λ (a : ℕ). object_value arrays a (meaning_seen c.meaning-known.result) (record { memory = memory_in c.args.cells.now.rows.items; events = events })) c.number_of-array.ensures
    ∙ ap (λ (m : Option Meaning). object_value arrays (number_in_table c.args.place.now.setting.numbers.now c.args.id) m (record { memory = memory_in c.args.cells.now.rows.items; events = events })) c.meaning-known.ensures
