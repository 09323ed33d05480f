use Rattle.std.proofs.Common.{◌*◌, ap, arith, ◌∙◌}
use Rattle.vk_frames.proofs.Given.{row_gets}
use Rattle.vk_lanes.specs.Masks.{is_on, lane_count}
use Rattle.vk_frames.proofs.Patterns.{patterns_kept}
use Rattle.vk_frames.proofs.rows.number_row.Goals as goal

pub returns-clause-lanes : goal.returns-clause-lanes
returns-clause-lanes c = row_gets c.args.frame.now.lanes c.args.frame.now.registers c.args.live.now c.requires.live c.args.frame.now.words.now c.args.frame.now.stops (λ j. j) c.args.d c.start-written.result c.rows_number.new.rows c.requires.d
    (c.start-written.ensures.start ∙ ap (λ n. n * c.args.frame.now.lanes) c.from.ensures) c.rows_number.ensures

pub invariant_of-frame-clause-patterns : goal.invariant_of-frame-clause-patterns
invariant_of-frame-clause-patterns c = patterns_kept (lane_count c.args.live.now) c.start-written.result (is_on c.args.live.now) (λ i. i) c.args.frame.now.words.now c.rows_number.new.rows c.rows_number.ensures c.args.frame.now.patterns (λ i l. omega (arith, l, c.requires.live, c.requires.fits.few))
