use Rattle.std.proofs.Common.{◌+◌, ◌*◌, ap, ap₂, sym, ◌∙◌}
use Rattle.vk_types.specs.Numbers.{number_of}
use Rattle.vk_types.specs.Operators.{divides_by_0}
use Rattle.vk_lanes.specs.Kernels.{op2_word}
use Rattle.vk_lanes.specs.Masks.{is_on, lane_count}
use Rattle.vk_frames.proofs.Given.{row_of, rows_apart, tested_row, typed_row}
use Rattle.vk_lanes.specs.Words.{word_in}
use Rattle.vk_frames.proofs.Patterns.{op2_small, patterns_kept}
use Rattle.vk_frames.proofs.rows.binary_row.Goals as goal

pub rows2-requires-clause-left_row : goal.rows2-requires-clause-left_row
rows2-requires-clause-left_row c = rows_apart (lane_count c.args.live.now) c.args.a c.args.d c.start-left.result c.start-written.result
    (c.start-left.ensures.start ∙ ap₂ (λ m n. m * n) c.from.ensures (sym c.requires.live)) (c.start-written.ensures.start ∙ ap₂ (λ m n. m * n) c.from-3.ensures (sym c.requires.live))

pub rows2-requires-clause-right_row : goal.rows2-requires-clause-right_row
rows2-requires-clause-right_row c = rows_apart (lane_count c.args.live.now) c.args.b c.args.d c.start-right.result c.start-written.result
    (c.start-right.ensures.start ∙ ap₂ (λ m n. m * n) c.from-2.ensures (sym c.requires.live)) (c.start-written.ensures.start ∙ ap₂ (λ m n. m * n) c.from-3.ensures (sym c.requires.live))

pub rows2-requires-clause-left_words : goal.rows2-requires-clause-left_words
rows2-requires-clause-left_words c = typed_row c.args.frame.now.lanes c.args.frame.now.registers c.args.live.now c.requires.live c.args.frame.now.words.now c.args.frame.now.stops c.args.t c.args.a c.start-left.result c.requires.a (c.start-left.ensures.start ∙ ap (λ n. n * c.args.frame.now.lanes) c.from.ensures) c.requires.left

pub rows2-requires-clause-right_words : goal.rows2-requires-clause-right_words
rows2-requires-clause-right_words c = typed_row c.args.frame.now.lanes c.args.frame.now.registers c.args.live.now c.requires.live c.args.frame.now.words.now c.args.frame.now.stops c.args.bt c.args.b c.start-right.result c.requires.b (c.start-right.ensures.start ∙ ap (λ n. n * c.args.frame.now.lanes) c.from-2.ensures) c.requires.right

pub returns-clause-lanes : goal.returns-clause-lanes
returns-clause-lanes c = row_of c.args.frame.now.lanes c.args.frame.now.registers c.args.live.now c.requires.live c.args.frame.now.words.now c.args.frame.now.stops (op2_word c.args.op c.args.t c.args.bt) c.args.a c.args.b c.args.d c.start-left.result c.start-right.result c.start-written.result c.rows2.new.rows c.requires.a c.requires.b c.requires.d
    (c.start-left.ensures.start ∙ ap (λ n. n * c.args.frame.now.lanes) c.from.ensures) (c.start-right.ensures.start ∙ ap (λ n. n * c.args.frame.now.lanes) c.from-2.ensures) (c.start-written.ensures.start ∙ ap (λ n. n * c.args.frame.now.lanes) c.from-3.ensures) c.rows2.ensures.words

pub returns-clause-zero : goal.returns-clause-zero
returns-clause-zero c j = c.rows2.ensures.zero j ∙ tested_row c.args.frame.now.lanes c.args.frame.now.registers c.args.live.now c.requires.live c.args.frame.now.words.now c.args.frame.now.stops (λ x. divides_by_0 c.args.op (number_of c.args.bt x)) c.args.b c.start-right.result j c.requires.b (c.start-right.ensures.start ∙ ap (λ n. n * c.args.frame.now.lanes) c.from-2.ensures)

pub invariant_of-frame-clause-patterns : goal.invariant_of-frame-clause-patterns
invariant_of-frame-clause-patterns c = patterns_kept (lane_count c.args.live.now) c.start-written.result (is_on c.args.live.now) (λ i. op2_word c.args.op c.args.t c.args.bt (word_in c.args.frame.now.words.now (c.start-left.result + i)) (word_in c.args.frame.now.words.now (c.start-right.result + i)) (word_in c.args.frame.now.words.now (c.start-written.result + i))) c.args.frame.now.words.now c.rows2.new.rows c.rows2.ensures.words (c.args.frame.now.patterns) (λ i l. op2_small c.args.op c.args.t c.args.bt (word_in c.args.frame.now.words.now (c.start-left.result + i)) (word_in c.args.frame.now.words.now (c.start-right.result + i)) (word_in c.args.frame.now.words.now (c.start-written.result + i)) (c.args.frame.now.patterns (c.start-written.result + i)))
