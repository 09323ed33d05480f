use Rattle.std.proofs.Common.{◌+◌, ◌*◌, ap, ap₂, sym, ◌∙◌}
use Rattle.vk_lanes.specs.Masks.{is_on, lane_count}
use Rattle.vk_frames.proofs.Given.{row_of, rows_apart}
use Rattle.vk_lanes.specs.Words.{word_in}
use Rattle.vk_frames.proofs.Patterns.{patterns_kept}
use Rattle.vk_frames.proofs.rows.copy_row.Goals as goal

pub rows_copy-requires-clause-row : goal.rows_copy-requires-clause-row
rows_copy-requires-clause-row c = rows_apart (lane_count c.args.live.now) c.args.a c.args.d c.start-operand.result c.start-written.result
    (c.start-operand.ensures.start ∙ ap₂ (λ m n. m * n) c.from.ensures (sym c.requires.live)) (c.start-written.ensures.start ∙ ap₂ (λ m n. m * n) c.from-2.ensures (sym c.requires.live))

pub returns-clause-lanes : goal.returns-clause-lanes
returns-clause-lanes c = row_of c.args.frame.now.lanes c.args.frame.now.registers c.args.live.now c.requires.live c.args.frame.now.words.now c.args.frame.now.stops (λ x y z. x) c.args.a c.args.a c.args.d c.start-operand.result c.start-operand.result c.start-written.result c.rows_copy.new.rows c.requires.a c.requires.a c.requires.d
    (c.start-operand.ensures.start ∙ ap (λ n. n * c.args.frame.now.lanes) c.from.ensures) (c.start-operand.ensures.start ∙ ap (λ n. n * c.args.frame.now.lanes) c.from.ensures) (c.start-written.ensures.start ∙ ap (λ n. n * c.args.frame.now.lanes) c.from-2.ensures) c.rows_copy.ensures

pub invariant_of-frame-clause-patterns : goal.invariant_of-frame-clause-patterns
invariant_of-frame-clause-patterns c = patterns_kept (lane_count c.args.live.now) c.start-written.result (is_on c.args.live.now) (λ i. word_in c.args.frame.now.words.now (c.start-operand.result + i)) c.args.frame.now.words.now c.rows_copy.new.rows c.rows_copy.ensures (c.args.frame.now.patterns) (λ i l. c.args.frame.now.patterns (c.start-operand.result + i))
