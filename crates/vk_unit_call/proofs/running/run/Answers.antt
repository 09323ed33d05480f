-- What the machine gives is what the code does.
use Rattle.std.proofs.Common.{rules, ap, ◌∙◌, length, drop}
use Rattle.vk_lanes.specs.Masks.{is_on}
use Rattle.vk_lanes.specs.Words.{word_in}
use Rattle.vk_code.specs.Listing.{listing_of}
use Rattle.vk_lane_lines.specs.Lines.{stops_in}
use Rattle.vk_object.specs.Machine.{Given}
use Rattle.vk_steps.specs.Places.{image_tables}
use Rattle.vk_unit_call.proofs.Ran.{called_is, front_is, given_word}
use Rattle.vk_unit_call.proofs.running.run.Goals as goal

pub returns-clause-words : goal.returns-clause-words
returns-clause-words c = λ lane.
    let same = called_is c.in_ok-machine.machine c.args.turns c.args.mask.now c.args.words.now c.len-lanes.result (listing_of c.args.code) (ap image_tables c.in_ok-machine.ensures.image ∙ c.in_ok-image.ensures) c.len-lanes.ensures.len c.in_ok-machine.ensures.fresh in
    ap (λ l. word_in l lane) (front_is c.in_ok-results.results.len c.call.new.results (drop (length c.call.new.results) c.in_ok-results.results.items) (search rules))
    ∙ (c.call.ensures.results lane
    ∙ given_word (is_on c.args.mask.now) _ _ c.len-lanes.result lane c.deref_mut.result.now same (search rules))

pub returns-clause-stops : goal.returns-clause-stops
returns-clause-stops c = λ lane below.
    let same = called_is c.in_ok-machine.machine c.args.turns c.args.mask.now c.args.words.now c.len-lanes.result (listing_of c.args.code) (ap image_tables c.in_ok-machine.ensures.image ∙ c.in_ok-image.ensures) c.len-lanes.ensures.len c.in_ok-machine.ensures.fresh in
    ap (λ l. stops_in l lane) (front_is c.in_ok-stops.stops.len c.call.new.stops (drop (length c.call.new.stops) c.in_ok-stops.stops.items) (search rules))
    ∙ (c.call.ensures.stops lane below ∙ ap (λ (g : Given). g.stop lane) same)
