use Rattle.std.proofs.Common.{◌+◌, ◌*◌, ap, arith, ◌∙◌}
use Rattle.vk_frames.proofs.Given.{mask_filled}
use Rattle.vk_lanes.specs.Masks.{is_on, lane_count}
use Rattle.vk_frames.proofs.Patterns.{patterns_kept}
use Rattle.vk_frames.proofs.masks.set_mask.Goals as goal

pub returns-clause-lanes : goal.returns-clause-lanes
returns-clause-lanes c =
    let f = c.args.frame.now in
    mask_filled f.lanes f.registers c.args.mask c.start-first.result c.all-all.result c.args.on.now f.words.now c.rows_fill.new.rows c.rows_fill-2.new.rows f.stops
    c.all-all.ensures.len c.requires.on (c.start-first.ensures.start ∙ ap (λ n. (f.registers + n) * f.lanes) c.from.ensures) c.all-all.ensures.on c.rows_fill.ensures c.rows_fill-2.ensures

pub invariant_of-frame-clause-patterns : goal.invariant_of-frame-clause-patterns
invariant_of-frame-clause-patterns c = patterns_kept (lane_count c.all-all.result) c.start-first.result (is_on c.all-all.result) (λ i. 0) c.args.frame.now.words.now c.rows_fill.new.rows c.rows_fill.ensures (c.args.frame.now.patterns) (λ i l. omega arith)

pub invariant_of-frame-2-clause-patterns : goal.invariant_of-frame-2-clause-patterns
invariant_of-frame-2-clause-patterns c = patterns_kept (lane_count c.args.on.now) c.start-first.result (is_on c.args.on.now) (λ i. 1) c.rows_fill.new.rows c.rows_fill-2.new.rows c.rows_fill-2.ensures (patterns_kept (lane_count c.all-all.result) c.start-first.result (is_on c.all-all.result) (λ i. 0) c.args.frame.now.words.now c.rows_fill.new.rows c.rows_fill.ensures (c.args.frame.now.patterns) (λ i l. omega arith)) (λ i l. omega arith)
