use Rattle.std.proofs.Common.{◌+◌, ℕ}
use Rattle.vk_lanes.specs.declared.patterns.Lanewise.TheVariants.{Extend}
use Rattle.vk_lanes.specs.Kernels.{convert_word}
use Rattle.vk_lanes.specs.Masks.{is_on, lane_count}
use Rattle.vk_lanes.specs.Words.{word_in}
use Rattle.vk_lanes.specs.Inner.Patterns.{pattern}
use Rattle.vk_lanes.proofs.InRows.{row_same}
use Rattle.vk_lanes.proofs.Operators.{computes_conversion}
use Rattle.vk_lanes.proofs.Bits.{inside}
use Rattle.vk_lanes.proofs.Typed.{convert_canonical, typed_lanes}
use Rattle.vk_lanes.proofs.rows.rows_convert.Goals as goal

pub returns-clause-words : goal.returns-clause-words
returns-clause-words c =
    let x = λ (i : ℕ). word_in c.args.rows.now (c.args.a + i) in
    row_same (lane_count c.args.mask.now) c.args.d (is_on c.args.mask.now) (λ i. pattern Extend c.args.to (x i) (x i)) (λ i. convert_word c.args.from c.args.to (x i)) c.args.rows.now c.compute.new.rows
    (λ i h. computes_conversion c.args.from c.args.to (x i) (x i) (c.requires.words i h).0)
    c.compute.ensures

pub returns-clause-typed : goal.returns-clause-typed
returns-clause-typed c i h =
    typed_lanes c.args.to (lane_count c.args.mask.now) c.args.d (is_on c.args.mask.now) (λ i. convert_word c.args.from c.args.to (word_in c.args.rows.now (c.args.a + i))) c.args.rows.now c.compute.new.rows (returns-clause-words c) i (inside c.args.mask.now i h) h (convert_canonical c.args.from c.args.to (word_in c.args.rows.now (c.args.a + i)))
