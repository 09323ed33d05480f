use Rattle.std.proofs.Common.{◌<◌, length, arith, refl, rules, subst}
use Rattle.std.proofs.lemmas.Option.{slice_get_read}
use Rattle.std.proofs.lemmas.List.{length-map}
use Rattle.vk_code.specs.Listing.{call_site_of}
use Rattle.vk_object.specs.Images.{is_within}
use Rattle.vk_runs.proofs.Reached.{slots_linked}
use Rattle.vk_steps.specs.Places.{entry, listing, tables}
use Rattle.vk_calls.proofs.Callees.{called_within, mapped, pairs_length, target_at, target_types_at, within_there}
use Rattle.vk_calls.proofs.found.find.Goals as goal

pub index-requires-2 : goal.index-requires-2
index-requires-2 c =
    let p = c.args.place.now in
    let same = pairs_length _ (listing p).routine.slots (entry p).targets (slots_linked (tables p) c.requires.sound.valid p.number (entry p) (listing p) c.requires.sound.placed c.requires.sound.coded) in
    let inside : c.args.slot < length (entry p).targets = omega (arith, same, c.requires.slot) in
    search rules

pub callee-requires-clause-called : goal.callee-requires-clause-called
callee-requires-clause-called c =
    let p = c.args.place.now in
    let same = pairs_length _ (listing p).routine.slots (entry p).targets (slots_linked (tables p) c.requires.sound.valid p.number (entry p) (listing p) c.requires.sound.placed c.requires.sound.coded) in
    let inside : c.args.slot < length (entry p).targets = omega (arith, same, c.requires.slot) in
    let got = slice_get_read (entry p).targets (length (entry p).targets) c.args.slot c.index-2.result.now refl inside (search rules) in
    let within = called_within (is_within (tables p) p.depth) (entry p) c.args.slot c.index-2.result.now c.requires.sound.within got in
    record { there = within_there (tables p) p.depth c.index-2.result.now within; within = within }

pub returns : goal.returns
returns c =
    let p = c.args.place.now in
    let same = pairs_length _ (listing p).routine.slots (entry p).targets (slots_linked (tables p) c.requires.sound.valid p.number (entry p) (listing p) c.requires.sound.placed c.requires.sound.coded) in
    let inside : c.args.slot < length (entry p).targets = omega (arith, same, c.requires.slot) in
    let got = slice_get_read (entry p).targets (length (entry p).targets) c.args.slot c.index-2.result.now refl inside (search rules) in
    let slots = (Rattle.vk_code.specs.declared.code.Code.out-Code p.code.now).slots.items in
    let below : c.args.slot < length slots = subst (λ k. c.args.slot < k) (length-map slots call_site_of) c.requires.slot in
    let site = mapped call_site_of slots c.args.slot c.index.result.now (slice_get_read slots (length slots) c.args.slot c.index.result.now refl below (search rules)) in
    record {
      target = target_at p c.callee.result c.args.slot c.index-2.result.now (call_site_of c.index.result.now) c.callee.ensures.callee c.callee.ensures.number site got;
      callee = c.callee.ensures.callee;
      types = target_types_at p c.callee.result c.args.slot c.index-2.result.now (call_site_of c.index.result.now) c.requires.sound c.callee.ensures.callee c.callee.ensures.number site got;
    }
