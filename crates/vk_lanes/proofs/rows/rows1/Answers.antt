use Rattle.std.proofs.Common.{◌+◌, ap, ◌∙◌, ℕ}
use Rattle.vk_lanes.specs.Kernels.{op1_word}
use Rattle.vk_lanes.specs.Masks.{is_on, lane_count}
use Rattle.vk_lanes.specs.Words.{word_in}
use Rattle.vk_lanes.specs.Inner.Patterns.{pattern}
use Rattle.vk_lanes.proofs.InRows.{row_same}
use Rattle.vk_lanes.proofs.Operators.{computes1}
use Rattle.vk_lanes.proofs.Bits.{inside}
use Rattle.vk_lanes.proofs.Typed.{op1_canonical, typed_lanes}
use Rattle.vk_lanes.proofs.rows.rows1.Goals as goal

pub returns-clause-words : goal.returns-clause-words
returns-clause-words c =
    let x = λ (i : ℕ). word_in c.args.rows.now (c.args.a + i) in
    row_same (lane_count c.args.mask.now) c.args.d (is_on c.args.mask.now) (λ i. pattern c.unary.result c.args.t (x i) (x i)) (λ i. op1_word c.args.op c.args.t (x i)) c.args.rows.now c.compute.new.rows
    (λ i h. ap (λ l. pattern l c.args.t (x i) (x i)) c.unary.ensures ∙ computes1 c.args.op c.args.t (x i) (x i) (c.requires.words i h).0)
    c.compute.ensures

pub returns-clause-typed : goal.returns-clause-typed
returns-clause-typed c i h =
    typed_lanes c.args.t (lane_count c.args.mask.now) c.args.d (is_on c.args.mask.now) (λ i. op1_word c.args.op c.args.t (word_in c.args.rows.now (c.args.a + i))) c.args.rows.now c.compute.new.rows (returns-clause-words c) i (inside c.args.mask.now i h) h (op1_canonical c.args.op c.args.t (word_in c.args.rows.now (c.args.a + i)))
