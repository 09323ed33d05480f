use Rattle.std.proofs.Common.{◌<◌, subst}
use Rattle.std.proofs.lemmas.List.{length-map}
use Rattle.vk_lanes.specs.Masks.{lane_count}
use Rattle.vk_object.specs.Tables.{entry_list_of}
use Rattle.vk_steps.specs.Places.{image_tables}
use Rattle.vk_direct.proofs.Words.{taken_at, taken_there}
use Rattle.vk_direct.proofs.call.direct_call.Goals as goal

pub place_of-requires : goal.place_of-requires
place_of-requires c =
    let image = c.args.image.now in
    subst (λ k. c.args.entry < k) (length-map image.entries.items entry_list_of) (taken_there (image_tables image) c.args.entry (lane_count c.args.mask.now) c.args.words.now c.requires)

pub returns-clause-entry : goal.returns-clause-entry
returns-clause-entry c =
    let p = c.place_of.result in
    let t = taken_at p c.args.image.now c.args.entry (lane_count c.args.mask.now) c.args.words.now c.place_of.ensures.outermost.sound c.place_of.ensures.image c.place_of.ensures.number c.requires in
    record { place = c.place_of.ensures.outermost; lanes = t.lanes_are; words = t.count; typed = t.words_typed }
