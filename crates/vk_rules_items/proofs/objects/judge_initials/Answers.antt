use Rattle.std.proofs.Common.{sym}
use Rattle.vk_ast.specs.Units.{object_of}
use Rattle.vk_rules_book.proofs.Noting.{found_none}
use Rattle.vk_rules_names.specs.Seen.{scope_of, unit_in}
use Rattle.vk_rules_items.proofs.Initials.{all_initials, next_initial}
use Rattle.vk_rules_items.proofs.objects.judge_initials.Goals as goal

pub loop-number-init : goal.loop-number-init
loop-number-init c = sym (found_none _ _)

pub loop-number-preserved : goal.loop-number-preserved
loop-number-preserved c =
    next_initial (unit_in c.args.scope.now) (scope_of c.args.scope.now) (object_of c.args.o.now) c.args.es.now c.loop-number.number _ _ _ _ _ c.loop-number-test.true c.index-es-number.is c.loop-number.invariant c.judge_constant.ensures c.judge_number.ensures

pub returns : goal.returns
returns c = all_initials (unit_in c.args.scope.now) (scope_of c.args.scope.now) (object_of c.args.o.now) c.args.es.now c.loop-number.number _ _ c.loop-number-test.false c.loop-number.invariant
