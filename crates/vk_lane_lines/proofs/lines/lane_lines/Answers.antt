-- One more lane.
use Rattle.std.proofs.Common.{◌≡◌, ◌∙◌, ℕ, List, sym, ap₂, ◌++◌, ◌∷◌, [], arith, rules}
use Rattle.std.proofs.lemmas.List.FromFn.{map-range_with_len_more}
use Rattle.vk_lanes.specs.Masks.{is_on}
use Rattle.vk_lanes.specs.Words.{word_in}
use Rattle.vk_lane_lines.specs.Lines.{line, stops_in, told_of}
use Rattle.vk_lane_lines.proofs.lines.lane_lines.Goals as goal

pub loop-lane-preserved : goal.loop-lane-preserved
loop-lane-preserved c =
    let of_lane : ℕ → List ℕ = λ lane. line lane (told_of c.args.ty (is_on c.args.mask.now lane) (word_in c.args.words.now lane) (stops_in c.args.stops.now lane)) in
    let text : c.as_bytes.result.now ≡ of_lane c.loop-lane.lane = search rules in
    c.in_ok-push.ensures.ok ∙ ap₂ (λ xs x. xs ++ x ∷ []) c.loop-lane.invariant text
    ∙ sym (map-range_with_len_more of_lane 0 c.loop-lane.lane c.loop-lane.lane (omega arith))
