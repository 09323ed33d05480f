use Rattle.std.proofs.Common.{ap, ◌∙◌, ◌+◌, ◌&&◌, inr, ℕ, arith}
use Rattle.vk_types.specs.Numbers.{number_of}
use Rattle.vk_types.specs.Operators.{divides_by_0}
use Rattle.vk_lanes.specs.Kernels.{op2_word}
use Rattle.vk_lanes.specs.Masks.{is_on}
use Rattle.vk_lanes.specs.Words.{word_in}
use Rattle.vk_lanes.specs.Inner.Blocks.{chosen}
use Rattle.vk_lanes.proofs.Bits.{on_past}
use Rattle.vk_lanes.proofs.Written.{joins, marks_all, marks_more, untouched, writes_all}
use Rattle.vk_lanes.proofs.kernels.divide.Goals as goal

pub loop-i-preserved : goal.loop-i-preserved
loop-i-preserved c =
    let on = is_on c.args.mask.now in
    let value = λ (j old : ℕ). op2_word c.args.op c.args.t c.args.bt (word_in c.args.a.now j) (word_in c.args.b.now j) old in
    record {
      words = joins 0 c.loop-i.i (c.loop-i.i + 1) on (λ j. value j (word_in c.args.d.now j)) (λ j. value j (word_in c.loop-i.d j)) c.args.d.now c.loop-i.d c.divide_lane.new.d
          (omega arith) (omega arith) c.loop-i.invariant.words c.divide_lane.ensures.words
          (λ j l h. ap (value j) (untouched 0 c.loop-i.i (chosen on (λ j. value j (word_in c.args.d.now j)) c.args.d.now) (word_in c.args.d.now) (word_in c.loop-i.d) c.loop-i.invariant.words j (inr l)));
      len = c.divide_lane.ensures.zero_len ∙ c.loop-i.invariant.len;
      zero = marks_more (λ j. on j && divides_by_0 c.args.op (number_of c.args.bt (word_in c.args.b.now j))) c.loop-i.i c.loop-i.zero c.divide_lane.new.zero c.divide_lane.ensures.zero c.loop-i.invariant.zero;
    }

pub returns-clause-words : goal.returns-clause-words
returns-clause-words c =
    writes_all c.loop-i.i (is_on c.args.mask.now) (λ j. op2_word c.args.op c.args.t c.args.bt (word_in c.args.a.now j) (word_in c.args.b.now j) (word_in c.args.d.now j)) c.args.d.now c.loop-i.d
    (λ j h. on_past c.args.mask.now j (omega arith)) c.loop-i.invariant.words

pub returns-clause-zero : goal.returns-clause-zero
returns-clause-zero c =
    marks_all (is_on c.args.mask.now) (λ j. divides_by_0 c.args.op (number_of c.args.bt (word_in c.args.b.now j))) c.loop-i.i c.loop-i.zero
    (λ j h. on_past c.args.mask.now j (omega arith)) c.loop-i.invariant.zero
