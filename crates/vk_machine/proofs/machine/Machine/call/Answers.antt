use Rattle.std.proofs.Common.{◌∙◌, ◌+◌, ◌<◌, ap, length, subst, sym}
use Rattle.vk_lanes.specs.declared.mask.LaneMask.{LaneMask}
use Rattle.vk_lanes.specs.Masks.{lane_count}
use Rattle.vk_object.specs.declared.image.Image.{Image}
use Rattle.vk_object.specs.Machine.{Given}
use Rattle.vk_object.specs.Memory.{calls_of}
use Rattle.vk_access.specs.Outer.{told}
use Rattle.vk_access.specs.Stores.{FitsStore}
use Rattle.vk_steps.specs.Places.{image_tables}
use Rattle.vk_fresh.specs.Room.{longest_chain}
use Rattle.vk_direct.specs.Calls.{entered}
use Rattle.vk_machine.specs.Machines.{called, cells, count}
use Rattle.vk_machine.proofs.Gives.{called_is, results_called}
use Rattle.vk_machine.proofs.Programs.{call_room, frames_kept}
use Rattle.vk_machine.proofs.machine.Machine.call.Goals as goal

pub call_silently-requires-clause-room : goal.call_silently-requires-clause-room
call_silently-requires-clause-room c =
    let m = c.args.self.now in
    let d = c.direct_call-call in
    call_room d.result.place m.image (length c.deref_mut.result.now) d.ensures.entry.place d.ensures.image (ap length c.deref_mut.ensures.value ∙ m.roomy)

pub invariant_of-self-clause-fits : goal.invariant_of-self-clause-fits
invariant_of-self-clause-fits c = subst (λ (i : Image). FitsStore i c.call_silently.new.memory) c.direct_call-call.ensures.image c.call_silently.ensures.store

pub invariant_of-self-clause-roomy : goal.invariant_of-self-clause-roomy
invariant_of-self-clause-roomy c = frames_kept c.args.self.now.frames c.call_silently.new.frames (longest_chain (image_tables c.args.self.now.image)) c.args.self.now.roomy

pub returns-clause-cells : goal.returns-clause-cells
returns-clause-cells c =
    let d = c.direct_call-call in
    let is = called_is c.args.self.now c.args.turns c.args.entry c.args.mask.now c.args.args.now d.result d.ensures.image d.ensures.number d.ensures.turns d.ensures.mask d.ensures.words in
    c.call_silently.ensures.cells ∙ ap (λ (g : Given). g.mem.cells) is

pub returns-clause-counts : goal.returns-clause-counts
returns-clause-counts c = λ e.
    let d = c.direct_call-call in
    let is = called_is c.args.self.now c.args.turns c.args.entry c.args.mask.now c.args.args.now d.result d.ensures.image d.ensures.number d.ensures.turns d.ensures.mask d.ensures.words in
    c.call_silently.ensures.counts e ∙ ap (λ (g : Given). told (count c.args.self.now e + calls_of e g.mem.log)) is

pub returns-clause-results : goal.returns-clause-results
returns-clause-results c =
    let d = c.direct_call-call in
    let is = called_is c.args.self.now c.args.turns c.args.entry c.args.mask.now c.args.args.now d.result d.ensures.image d.ensures.number d.ensures.turns d.ensures.mask d.ensures.words in
    results_called c.args.mask.now (entered d.result (cells c.args.self.now)) (called c.args.self.now c.args.turns c.args.entry c.args.mask.now c.args.args.now) d.result c.args.results.now c.call_silently.new.results d.ensures.mask is c.call_silently.ensures.results

pub returns-clause-stops : goal.returns-clause-stops
returns-clause-stops c = λ j l.
    let d = c.direct_call-call in
    let is = called_is c.args.self.now c.args.turns c.args.entry c.args.mask.now c.args.args.now d.result d.ensures.image d.ensures.number d.ensures.turns d.ensures.mask d.ensures.words in
    c.call_silently.ensures.stops j (subst (λ (k : LaneMask). j < lane_count k) (sym d.ensures.mask) l) ∙ ap (λ (g : Given). g.stop j) is
