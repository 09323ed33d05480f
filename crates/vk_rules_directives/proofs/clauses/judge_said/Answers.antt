use Rattle.std.proofs.Common.{is_none, ap, ◌∙◌}
use Rattle.vk_rules_directives.proofs.Firsts.{none_among}
use Rattle.vk_rules_directives.proofs.clauses.judge_said.Goals as goal

pub returns-clause-sound : goal.returns-clause-sound
returns-clause-sound c = c.is_clear.ensures ∙ ap is_none c.judge_form.ensures ∙ none_among _
