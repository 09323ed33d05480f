use Rattle.std.proofs.Common.{◌≡◌, ◌<◌, ◌==◌, List, Some, get_or, length, not, subst, sym, true, ◌∙◌}
use Rattle.std.specs.Prelude.{slice_get}
use Rattle.vk_object.specs.Memory.{array_of}
use Rattle.vk_code.specs.declared.code.Guard.{Guard}
use Rattle.vk_code.specs.Listing.{simd_site_of}
use Rattle.vk_object.specs.Images.{names_of}
use Rattle.vk_frames.specs.Frames.{lanes_of}
use Rattle.vk_steps.specs.Places.{listing, tables}
use Rattle.vk_args.proofs.Loops.{guard_next, guard_there, loop_registers}
use Rattle.vk_args.proofs.bounds.guard_holds.Goals as goal

abbrev none : Guard
none = record { first = 0; second = 0 }

pub loop-guard-preserved : goal.loop-guard-preserved
loop-guard-preserved c =
    guard_next (lanes_of c.args.frame.now 0) c.args.site.now.guards.items c.loop-guard.guard-index none
    (subst (λ (x : List Guard). c.loop-guard.guard-index < length x) c.deref-guard-items.ensures.value c.loop-guard-test.true)
    (subst (λ (x : List Guard). not (array_of ((lanes_of c.args.frame.now 0).reg (get_or x c.loop-guard.guard-index none).first) == array_of ((lanes_of c.args.frame.now 0).reg (get_or x c.loop-guard.guard-index none).second)) ≡ true) c.deref-guard-items.ensures.value (sym c.are_apart.ensures ∙ c.if-not-are_apart.false))
    ∙ c.loop-guard.invariant

pub are_apart-requires-clause-first : goal.are_apart-requires-clause-first
are_apart-requires-clause-first c =
    let r = loop_registers (names_of (tables c.args.place.now)) (listing c.args.place.now).routine (simd_site_of c.args.site.now) c.requires.good in
    let g = guard_there c.deref-guard-items.result.now c.loop-guard.guard-index none c.loop-guard-test.true in
    let both = r.guards c.loop-guard.guard-index (get_or c.deref-guard-items.result.now c.loop-guard.guard-index none) (subst (λ (x : List Guard). slice_get x c.loop-guard.guard-index ≡ Some (get_or c.deref-guard-items.result.now c.loop-guard.guard-index none)) c.deref-guard-items.ensures.value g) in
    subst (λ k. (get_or c.deref-guard-items.result.now c.loop-guard.guard-index none).first < k) (sym c.requires.fits.shape.registers_are) both.0

pub are_apart-requires-clause-second : goal.are_apart-requires-clause-second
are_apart-requires-clause-second c =
    let r = loop_registers (names_of (tables c.args.place.now)) (listing c.args.place.now).routine (simd_site_of c.args.site.now) c.requires.good in
    let g = guard_there c.deref-guard-items.result.now c.loop-guard.guard-index none c.loop-guard-test.true in
    let both = r.guards c.loop-guard.guard-index (get_or c.deref-guard-items.result.now c.loop-guard.guard-index none) (subst (λ (x : List Guard). slice_get x c.loop-guard.guard-index ≡ Some (get_or c.deref-guard-items.result.now c.loop-guard.guard-index none)) c.deref-guard-items.ensures.value g) in
    subst (λ k. (get_or c.deref-guard-items.result.now c.loop-guard.guard-index none).second < k) (sym c.requires.fits.shape.registers_are) both.1
