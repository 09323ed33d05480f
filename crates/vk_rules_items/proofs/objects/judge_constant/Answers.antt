use Rattle.vk_ast.specs.Units.{object_of}
use Rattle.vk_rules_items.proofs.Initials.{judged_initial}
use Rattle.vk_rules_items.proofs.objects.judge_constant.Goals as goal

pub returns : goal.returns
returns c = judged_initial (object_of c.args.o.now) c.args.number c.args.e.now _ _ _ _ _ c.requires c.is_wrong_initial.ensures c.fault_at.ensures c.add.ensures
