use Rattle.std.proofs.Common.{◌+◌, ◌*◌, ap, ap₂, sym, ◌∙◌}
use Rattle.vk_lanes.specs.Kernels.{convert_word}
use Rattle.vk_lanes.specs.Masks.{is_on, lane_count}
use Rattle.vk_frames.proofs.Given.{row_of, rows_apart, typed_row}
use Rattle.vk_lanes.specs.Words.{word_in}
use Rattle.vk_lanes.proofs.Typed.{convert_canonical}
use Rattle.vk_frames.proofs.Patterns.{patterns_kept}
use Rattle.vk_frames.proofs.rows.convert_row.Goals as goal

pub rows_convert-requires-clause-row : goal.rows_convert-requires-clause-row
rows_convert-requires-clause-row c = rows_apart (lane_count c.args.live.now) c.args.a c.args.d c.start-operand.result c.start-written.result
    (c.start-operand.ensures.start ∙ ap₂ (λ m n. m * n) c.from.ensures (sym c.requires.live)) (c.start-written.ensures.start ∙ ap₂ (λ m n. m * n) c.from-2.ensures (sym c.requires.live))

pub rows_convert-requires-clause-words : goal.rows_convert-requires-clause-words
rows_convert-requires-clause-words c = typed_row c.args.frame.now.lanes c.args.frame.now.registers c.args.live.now c.requires.live c.args.frame.now.words.now c.args.frame.now.stops c.args.from c.args.a c.start-operand.result c.requires.a (c.start-operand.ensures.start ∙ ap (λ n. n * c.args.frame.now.lanes) c.from.ensures) c.requires.operand

pub returns-clause-lanes : goal.returns-clause-lanes
returns-clause-lanes c = row_of c.args.frame.now.lanes c.args.frame.now.registers c.args.live.now c.requires.live c.args.frame.now.words.now c.args.frame.now.stops (λ x y z. convert_word c.args.from c.args.to x) c.args.a c.args.a c.args.d c.start-operand.result c.start-operand.result c.start-written.result c.rows_convert.new.rows c.requires.a c.requires.a c.requires.d
    (c.start-operand.ensures.start ∙ ap (λ n. n * c.args.frame.now.lanes) c.from.ensures) (c.start-operand.ensures.start ∙ ap (λ n. n * c.args.frame.now.lanes) c.from.ensures) (c.start-written.ensures.start ∙ ap (λ n. n * c.args.frame.now.lanes) c.from-2.ensures) c.rows_convert.ensures.words

pub invariant_of-frame-clause-patterns : goal.invariant_of-frame-clause-patterns
invariant_of-frame-clause-patterns c = patterns_kept (lane_count c.args.live.now) c.start-written.result (is_on c.args.live.now) (λ i. convert_word c.args.from c.args.to (word_in c.args.frame.now.words.now (c.start-operand.result + i))) c.args.frame.now.words.now c.rows_convert.new.rows c.rows_convert.ensures.words (c.args.frame.now.patterns) (λ i l. (convert_canonical c.args.from c.args.to (word_in c.args.frame.now.words.now (c.start-operand.result + i))).0)
