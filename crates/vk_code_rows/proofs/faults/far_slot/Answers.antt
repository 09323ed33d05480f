use Rattle.std.proofs.Common.{◌∙◌, ap, sym, arith}
use Rattle.std.proofs.lemmas.List.{take_all}
use Rattle.std.specs.List.{list_all}
use Rattle.vk_code_rows.specs.Made.{is_near_call}
use Rattle.vk_code_rows.proofs.SameFault.{first_at, first_nowhere}
use Rattle.vk_code_rows.proofs.faults.far_slot.Goals as goal

pub returns-then-not-is_near_call-clause-first : goal.returns-then-not-is_near_call-clause-first
returns-then-not-is_near_call-clause-first c =
    sym (first_at is_near_call c.args.rows.now c.loop-at.at c.index-rows-at.result (omega arith) c.loop-at.invariant
    (ap is_near_call (sym c.index-rows-at.is) ∙ (sym c.is_near_call.ensures ∙ c.if-not-is_near_call.true)))

pub returns-clause-first : goal.returns-clause-first
returns-clause-first c =
    sym (first_nowhere is_near_call c.args.rows.now (ap (list_all is_near_call) (sym (take_all c.loop-at.at c.args.rows.now (omega arith))) ∙ c.loop-at.invariant))
