use Rattle.vk_ast.specs.Directives.{directive_of}
use Rattle.vk_ast.specs.Units.{function_of}
use Rattle.vk_rules_names.specs.Seen.{unit_of}
use Rattle.vk_rules_directives.proofs.Lists.{directive_noted}
use Rattle.vk_rules_directives.proofs.directives.judge_directive.Goals as goal

pub returns-clause-noted : goal.returns-clause-noted
returns-clause-noted c =
    λ before same. directive_noted (unit_of c.args.at.now.place.now) (function_of c.args.at.now.f.now) before (directive_of c.args.at.now.d.now) _ _ _ _ _ _
    c.join.ensures c.judge_whole.ensures c.in_ok-sound.ensures.noted same c.sign-signature.ensures
