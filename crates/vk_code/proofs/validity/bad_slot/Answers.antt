use Rattle.std.proofs.Common.{◌∙◌, ap, sym, arith}
use Rattle.std.proofs.lemmas.List.{take_all}
use Rattle.std.specs.List.{list_all}
use Rattle.vk_code.specs.Listing.{call_site_of, routine_of}
use Rattle.vk_code.specs.Valid.{environment_of, is_good_slot}
use Rattle.vk_code.proofs.Faults.{bad_at, bad_nowhere}
use Rattle.vk_code.proofs.validity.bad_slot.Goals as goal

pub returns-then-not-is_good_slot : goal.returns-then-not-is_good_slot
returns-then-not-is_good_slot c =
    let f = is_good_slot (environment_of c.args.env.now) (routine_of c.args.code.now) in
    sym (bad_at f call_site_of c.args.slots.now c.loop-at.at c.index-slots-at.result (omega arith) c.loop-at.invariant
    (ap (λ s. f (call_site_of s)) (sym c.index-slots-at.is) ∙ (sym c.is_good_slot.ensures ∙ c.if-not-is_good_slot.true)))

pub returns : goal.returns
returns c =
    let f = is_good_slot (environment_of c.args.env.now) (routine_of c.args.code.now) in
    sym (bad_nowhere f call_site_of c.args.slots.now
    (ap (list_all (λ s. f (call_site_of s))) (sym (take_all c.loop-at.at c.args.slots.now (omega arith))) ∙ c.loop-at.invariant))
