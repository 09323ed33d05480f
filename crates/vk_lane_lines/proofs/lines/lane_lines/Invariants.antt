-- The lines of the lanes below the index.
use Rattle.std.proofs.Common.{◌≡◌}
use Rattle.vk_lanes.specs.Masks.{is_on}
use Rattle.vk_lanes.specs.Words.{word_in}
use Rattle.vk_lane_lines.specs.Lines.{lane_lines, stops_in}
use Rattle.vk_lane_lines.proofs.lines.lane_lines.Given as goal

abbrev pub invariant-loop-lane : goal.invariant-loop-lane
invariant-loop-lane l = l.lines ≡ lane_lines l.fn.ty l.lane (is_on l.fn.mask) (word_in l.fn.words) (stops_in l.fn.stops)
