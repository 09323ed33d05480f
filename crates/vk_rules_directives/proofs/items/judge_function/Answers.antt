use Rattle.vk_ast.specs.Units.{function_of}
use Rattle.vk_rules_names.specs.Seen.{item_at, unit_of}
use Rattle.vk_rules_directives.proofs.Lists.{function_noted}
use Rattle.vk_rules_directives.proofs.items.judge_function.Goals as goal

pub returns-clause-noted : goal.returns-clause-noted
returns-clause-noted c =
    λ before same. function_noted (unit_of c.args.place.now) (function_of c.args.f.now) before (item_at c.args.place.now.items.now c.args.place.now.first.now c.args.f.now.name) _ _ _ _
    c.join.ensures c.judge_redeclaration.ensures c.in_ok-own.ensures.noted same
