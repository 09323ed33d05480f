use Rattle.std.proofs.Common.{ap, ◌∙◌, Option}
use Rattle.vk_meaning.specs.Expressions.{name_value}
use Rattle.vk_meaning.specs.Points.{Variable}
use Rattle.vk_reading.specs.Cells.{memory_in}
use Rattle.vk_rules_names.specs.Seen.{scope_of}
use Rattle.vk_reading_steps.specs.Settings.{context_in, variables_in}
use Rattle.vk_reading_steps.proofs.names.name_held.Goals as goal

pub returns-in-None-clause-value : goal.returns-in-None-clause-value
returns-in-None-clause-value c arrays call events rows =
    c.object_named.ensures.value arrays events rows
    ∙ ap (λ (v : Option Variable). name_value (context_in arrays call c.args.place.now.setting) (scope_of c.args.place.now.scopes) (variables_in c.args.place.now.values.now) v c.args.id
    (record { memory = memory_in c.args.cells.now.rows.items; events = events })) c.in-None.ensures
