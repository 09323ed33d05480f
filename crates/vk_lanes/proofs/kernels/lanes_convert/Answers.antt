use Rattle.vk_lanes.specs.declared.patterns.Lanewise.TheVariants.{Extend}
use Rattle.vk_lanes.specs.Kernels.{convert_word}
use Rattle.vk_lanes.specs.Masks.{is_on}
use Rattle.vk_lanes.specs.Words.{word_in}
use Rattle.vk_lanes.specs.Inner.Patterns.{pattern}
use Rattle.vk_lanes.proofs.Operators.{computes_conversion}
use Rattle.vk_lanes.proofs.Typed.{convert_canonical, typed_row}
use Rattle.vk_lanes.proofs.Written.{writes_same}
use Rattle.vk_lanes.proofs.kernels.lanes_convert.Goals as goal

pub returns-clause-words : goal.returns-clause-words
returns-clause-words c =
    writes_same (is_on c.args.mask.now) (λ i. pattern Extend c.args.to (word_in c.args.a.now i) (word_in c.args.a.now i))
    (λ i. convert_word c.args.from c.args.to (word_in c.args.a.now i)) c.args.d.now c.compute.new.d
    (λ i h. computes_conversion c.args.from c.args.to (word_in c.args.a.now i) (word_in c.args.a.now i) (c.requires.words i h).0)
    c.compute.ensures

pub returns-clause-typed : goal.returns-clause-typed
returns-clause-typed c i h = typed_row c.args.to (is_on c.args.mask.now) (λ i. convert_word c.args.from c.args.to (word_in c.args.a.now i)) c.args.d.now c.compute.new.d (returns-clause-words c) i h (convert_canonical c.args.from c.args.to (word_in c.args.a.now i))
