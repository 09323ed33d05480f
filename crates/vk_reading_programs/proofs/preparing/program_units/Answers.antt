use Rattle.std.proofs.Common.{◌∙◌, ap, subst, sym}
use Rattle.vk_rules.specs.Verdicts.{judged}
use Rattle.vk_reading_calls.specs.Right.{AreRightIn, subjects_of}
use Rattle.vk_reading_programs.proofs.Naming.{one_right_more, one_unit_more}
use Rattle.vk_reading_programs.proofs.preparing.program_units.Goals as goal

pub loop-checked-preserved : goal.loop-checked-preserved
loop-checked-preserved c =
    let old = c.loop-checked.list.items in
    let unit = c.in_ok-program_unit.field-0 in
    record {
      units = ap subjects_of c.in_ok-push.ensures.items
          ∙ one_unit_more judged c.args.units.now c.loop-checked.checked-index c.checked-item.result old unit c.loop-checked-test.true c.checked-item.is c.loop-checked.invariant.units
          c.in_ok-program_unit.ensures.unit;
      right = λ program numbering places. subst (AreRightIn program) (sym c.in_ok-push.ensures.items)
          (one_right_more program old unit (c.loop-checked.invariant.right program numbering places) (c.in_ok-program_unit.ensures.right program numbering places));
    }
