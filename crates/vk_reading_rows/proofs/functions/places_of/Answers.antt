use Rattle.vk_rules.specs.Verdicts.{judged}
use Rattle.vk_reading_rows.specs.Inner.Noted.{noted}
use Rattle.vk_reading_rows.proofs.Placing.{one_unit_placed}
use Rattle.vk_reading_rows.proofs.functions.places_of.Goals as goal

pub loop-number-preserved : goal.loop-number-preserved
loop-number-preserved c = λ t.
    one_unit_placed judged t c.args.units.now c.loop-number.number c.index-units-number.result c.loop-number-test.true c.index-units-number.is (noted c.loop-number.table t) (noted c.note_unit.new.table t)
    (c.loop-number.invariant t) (c.in_ok-note_unit.ensures t)
