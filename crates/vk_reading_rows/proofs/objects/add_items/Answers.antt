use Rattle.std.proofs.Common.{map}
use Rattle.vk_ast.specs.Units.{item_of}
use Rattle.vk_meaning.specs.Programs.{array_defined}
use Rattle.vk_rules.specs.Verdicts.{judged}
use Rattle.vk_reading_rows.specs.Objects.{array_seen}
use Rattle.vk_reading_rows.proofs.More.{one_kept}
use Rattle.vk_reading_rows.proofs.objects.add_items.Goals as goal

pub loop-item-preserved : goal.loop-item-preserved
loop-item-preserved c =
    one_kept c.args.items.now c.loop-item.item-index c.item-item.result c.loop-item-test.true c.item-item.is (array_defined (judged c.args.checked.now)) item_of
    (map array_seen c.args.list.now.items) (map array_seen c.loop-item.list.items) (map array_seen c.add_object.new.list.items) c.loop-item.invariant c.in_ok-add_object.ensures
