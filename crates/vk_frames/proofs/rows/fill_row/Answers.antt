use Rattle.std.proofs.Common.{◌*◌, ap, rules, ◌∙◌}
use Rattle.vk_frames.proofs.Given.{row_gets}
use Rattle.vk_lanes.specs.Masks.{is_on, lane_count}
use Rattle.vk_frames.proofs.Patterns.{patterns_kept}
use Rattle.vk_frames.proofs.rows.fill_row.Goals as goal

pub returns-clause-lanes : goal.returns-clause-lanes
returns-clause-lanes c = row_gets c.args.frame.now.lanes c.args.frame.now.registers c.args.live.now c.requires.live c.args.frame.now.words.now c.args.frame.now.stops (λ j. c.args.word.0) c.args.d c.start-written.result c.rows_fill.new.rows c.requires.d
    (c.start-written.ensures.start ∙ ap (λ n. n * c.args.frame.now.lanes) c.from.ensures) c.rows_fill.ensures

pub invariant_of-frame-clause-patterns : goal.invariant_of-frame-clause-patterns
invariant_of-frame-clause-patterns c = patterns_kept (lane_count c.args.live.now) c.start-written.result (is_on c.args.live.now) (λ i. c.args.word.0) c.args.frame.now.words.now c.rows_fill.new.rows c.rows_fill.ensures (c.args.frame.now.patterns) (λ i l. search rules)
