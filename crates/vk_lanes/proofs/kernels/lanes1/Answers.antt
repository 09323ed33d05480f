use Rattle.std.proofs.Common.{ap, ◌∙◌}
use Rattle.vk_lanes.specs.Kernels.{op1_word}
use Rattle.vk_lanes.specs.Masks.{is_on}
use Rattle.vk_lanes.specs.Words.{word_in}
use Rattle.vk_lanes.specs.Inner.Patterns.{pattern}
use Rattle.vk_lanes.proofs.Operators.{computes1}
use Rattle.vk_lanes.proofs.Typed.{op1_canonical, typed_row}
use Rattle.vk_lanes.proofs.Written.{writes_same}
use Rattle.vk_lanes.proofs.kernels.lanes1.Goals as goal

pub returns-clause-words : goal.returns-clause-words
returns-clause-words c =
    writes_same (is_on c.args.mask.now) (λ i. pattern c.unary.result c.args.t (word_in c.args.a.now i) (word_in c.args.a.now i))
    (λ i. op1_word c.args.op c.args.t (word_in c.args.a.now i)) c.args.d.now c.compute.new.d
    (λ i h. ap (λ l. pattern l c.args.t (word_in c.args.a.now i) (word_in c.args.a.now i)) c.unary.ensures
    ∙ computes1 c.args.op c.args.t (word_in c.args.a.now i) (word_in c.args.a.now i) (c.requires.words i h).0)
    c.compute.ensures

pub returns-clause-typed : goal.returns-clause-typed
returns-clause-typed c i h = typed_row c.args.t (is_on c.args.mask.now) (λ i. op1_word c.args.op c.args.t (word_in c.args.a.now i)) c.args.d.now c.compute.new.d (returns-clause-words c) i h (op1_canonical c.args.op c.args.t (word_in c.args.a.now i))
