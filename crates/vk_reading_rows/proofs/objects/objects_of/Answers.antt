use Rattle.std.proofs.Common.{map}
use Rattle.vk_rules.specs.Verdicts.{judged}
use Rattle.vk_reading_rows.specs.Objects.{array_seen}
use Rattle.vk_reading_rows.specs.Inner.Collected.{objects_of_unit}
use Rattle.vk_reading_rows.proofs.More.{one_joined}
use Rattle.vk_reading_rows.proofs.objects.objects_of.Goals as goal

pub loop-checked-preserved : goal.loop-checked-preserved
loop-checked-preserved c =
    one_joined c.args.units.now c.loop-checked.checked-index c.checked-item.result c.loop-checked-test.true c.checked-item.is objects_of_unit judged
    (map array_seen c.loop-checked.list.items) (map array_seen c.add_objects.new.list.items) c.loop-checked.invariant c.in_ok-add_objects.ensures
