use Rattle.std.proofs.Common.{ap, rules, ◌∙◌}
use Rattle.std.proofs.lemmas.Int.{to_z-of_z}
use mir.Syntax.{w128}
use Rattle.vk_rules_directives.specs.Inner.Tests.{is_wrong_constant}
use Rattle.vk_rules_directives.proofs.Constants.{constant_by}
use Rattle.vk_rules_directives.proofs.steps.is_wrong_number.Goals as goal

pub returns : goal.returns
returns c = c.is_wrong_constant.ensures ∙ ap (is_wrong_constant c.args.at.now.types.now c.args.names.now) (to_z-of_z w128 c.args.z (search rules)) ∙ constant_by c.args.at.now.f.now.params.items c.args.at.now.types.now c.args.names.now c.args.z c.requires
