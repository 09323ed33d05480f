use Rattle.std.proofs.Common.{◌≡◌, ◌∙◌, ◌<◌, ◌^◌, ℕ, nat_lt, None, [], ap, arith, get_or, length, rules, subst, sym, true}
use Rattle.vk_lanes.specs.declared.mask.LaneMask.{LaneMask}
use Rattle.vk_lanes.specs.Masks.{is_on, lane_count}
use Rattle.vk_object.specs.declared.image.Image.{Image}
use Rattle.vk_object.specs.Machine.{Given}
use Rattle.vk_steps.specs.Places.{image_tables}
use Rattle.vk_access.specs.Outer.{Outer, outer_of}
use Rattle.vk_access.specs.Stores.{FitsStore}
use Rattle.vk_fresh.specs.Room.{longest_chain}
use Rattle.vk_direct.specs.Calls.{entered}
use Rattle.vk_direct.specs.Given.{Calls}
use Rattle.vk_direct.specs.Taking.{takes_call}
use Rattle.vk_machine.specs.Ends.{Ends, program}
use Rattle.vk_machine.specs.Machines.{cells, outer, tables}
use Rattle.vk_machine.proofs.Ending.{ends_by, main_call}
use Rattle.vk_machine.proofs.Programs.{call_room, frames_kept, main_takes}
use Rattle.vk_machine.proofs.machine.Machine.run.Goals as goal

pub direct_call-call-requires : goal.direct_call-call-requires
direct_call-call-requires g c =
    let image = c.args.self.now.image in
    let small : c.in-Some.main < 2 ^ 32 = search rules in
    subst (λ n. takes_call (image_tables image) c.in-Some.main n [] ≡ true) (sym c.all-mask.ensures.len) (main_takes (image_tables image) image.valid c.in-Some.main c.in-Some.is small)

pub call_entry-ran-requires-clause-room : goal.call_entry-ran-requires-clause-room
call_entry-ran-requires-clause-room g c =
    let m = c.args.self.now in
    let d = c.direct_call-call in
    call_room d.result.place m.image (length c.deref_mut.result.now) d.ensures.entry.place d.ensures.image (ap length c.deref_mut.ensures.value ∙ m.roomy)

pub invariant_of-self-clause-fits : goal.invariant_of-self-clause-fits
invariant_of-self-clause-fits g c = subst (λ (i : Image). FitsStore i c.call_entry-ran.new.memory) c.direct_call-call.ensures.image c.call_entry-ran.ensures.store

pub invariant_of-self-clause-roomy : goal.invariant_of-self-clause-roomy
invariant_of-self-clause-roomy g c = frames_kept c.args.self.now.frames c.call_entry-ran.new.frames (longest_chain (image_tables c.args.self.now.image)) c.args.self.now.roomy

pub returns-clause-ends : goal.returns-clause-ends
returns-clause-ends g c =
    let m = c.args.self.now in
    let d = c.direct_call-call in
    let r = c.call_entry-ran in
    let run : Given = program (tables m) c.args.turns in
    let a : Outer = outer m (g.O.Sink.state c.args.out.now) in
    let b : Outer = outer_of r.new.memory (g.O.Sink.state r.new.out) in
    let on : (j : ℕ) → is_on d.result.mask.now j ≡ nat_lt j 1 = λ j. ap (λ (k : LaneMask). is_on k j) d.ensures.mask ∙ c.all-mask.ensures.on j in
    let is : entered d.result (cells m) ≡ run = main_call m.image c.in-Some.main c.args.turns d.result (cells m) d.ensures.image d.ensures.number d.ensures.turns c.in-Some.is d.ensures.words on c.requires.fresh.cells_first in
    let some : 0 < lane_count d.result.mask.now = subst (λ (k : LaneMask). 0 < lane_count k) (sym d.ensures.mask) (subst (λ n. 0 < n) (sym c.all-mask.ensures.len) (omega arith)) in
    subst (λ e. Ends e run a b) (sym c.ending.ensures)
    (ends_by r.result (get_or r.new.stops 0 None) run a b (subst (λ (f : Given). Calls r.result f a b) is r.ensures.calls)
    (λ ok. r.ensures.stops ok 0 some ∙ ap (λ (f : Given). f.stop 0) is))
