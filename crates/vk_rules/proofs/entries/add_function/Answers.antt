use Rattle.vk_ast.specs.Units.{function_of}
use Rattle.vk_rules.proofs.Listed.{added}
use Rattle.vk_rules.proofs.entries.add_function.Goals as goal

pub returns : goal.returns
returns c = λ fs are. added fs _ _ (function_of c.args.f.now) _ c.args.known c.if-known.false are c.in_ok-entry.ensures c.in_ok-push.ensures.items
