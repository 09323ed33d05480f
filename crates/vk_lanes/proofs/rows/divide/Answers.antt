use Rattle.std.proofs.Common.{◌≡◌, ◌+◌, ◌-◌, ◌&&◌, ◌∙◌, ℕ, Bool, List, sym, subst, arith}
use Rattle.vk_types.specs.declared.types.Word.{Word}
use Rattle.vk_types.specs.Numbers.{IsCanonical, number_of}
use Rattle.vk_types.specs.Operators.{divides_by_0}
use Rattle.vk_lanes.specs.Kernels.{op2_word}
use Rattle.vk_lanes.specs.Masks.{is_on, lane_count}
use Rattle.vk_lanes.specs.Words.{word_in}
use Rattle.vk_lanes.specs.Inner.Blocks.{Marks, WritesOn, chosen}
use Rattle.vk_lanes.proofs.Bits.{on_past}
use Rattle.vk_lanes.proofs.InRows.{joins_row, operand_same, row_written, same_operands}
use Rattle.vk_lanes.proofs.Written.{marks_all, marks_more}
use Rattle.vk_lanes.proofs.rows.divide.Goals as goal

pub divide_lane-requires-clause-left_word : goal.divide_lane-requires-clause-left_word
divide_lane-requires-clause-left_word c live =
    subst (IsCanonical c.args.t)
    (sym (operand_same (lane_count c.args.mask.now) c.args.a c.args.d c.loop-i.i _ c.args.rows.now c.loop-i.rows c.requires.left_row (omega arith) c.loop-i.invariant.words c.loop-i.i (omega arith) (omega arith)))
    (c.requires.left_words c.loop-i.i live)

pub divide_lane-requires-clause-right_word : goal.divide_lane-requires-clause-right_word
divide_lane-requires-clause-right_word c live =
    subst (IsCanonical c.args.bt)
    (sym (operand_same (lane_count c.args.mask.now) c.args.b c.args.d c.loop-i.i _ c.args.rows.now c.loop-i.rows c.requires.right_row (omega arith) c.loop-i.invariant.words c.loop-i.i (omega arith) (omega arith)))
    (c.requires.right_words c.loop-i.i live)

pub loop-i-preserved : goal.loop-i-preserved
loop-i-preserved c =
    let on : ℕ → Bool = is_on c.args.mask.now in
    let lanes : ℕ = lane_count c.args.mask.now in
    let old : List Word = c.args.rows.now in
    let cur : List Word = c.loop-i.rows in
    let d : ℕ = c.args.d in
    let n : ℕ = c.loop-i.i in
    let value = λ (rows : List Word) (i : ℕ). op2_word c.args.op c.args.t c.args.bt (word_in rows (c.args.a + i)) (word_in rows (c.args.b + i)) (word_in rows (d + i)) in
    let written = chosen (λ j. on (j - d)) (λ j. value old (j - d)) old in
    record {
      words = joins_row d n (n + 1) on (value old) (value cur) old cur c.divide_lane.new.rows (omega arith) c.loop-i.invariant.words c.divide_lane.ensures.words
          (λ i l h. same_operands (op2_word c.args.op c.args.t c.args.bt) lanes c.args.a c.args.b d n written old cur c.requires.left_row c.requires.right_row (omega arith) c.loop-i.invariant.words i l (omega arith));
      len = c.divide_lane.ensures.zero_len ∙ c.loop-i.invariant.len;
      zero = marks_more (λ j. on j && divides_by_0 c.args.op (number_of c.args.bt (word_in old (c.args.b + j)))) n c.loop-i.zero c.divide_lane.new.zero
          (subst (λ w. Marks n (on n && divides_by_0 c.args.op (number_of c.args.bt w)) c.loop-i.zero c.divide_lane.new.zero)
          (operand_same lanes c.args.b d n written old cur c.requires.right_row (omega arith) c.loop-i.invariant.words n (omega arith) (omega arith)) c.divide_lane.ensures.zero)
          c.loop-i.invariant.zero;
    }

pub returns-clause-words : goal.returns-clause-words
returns-clause-words c =
    let on : ℕ → Bool = is_on c.args.mask.now in
    let old : List Word = c.args.rows.now in
    let value = λ (i : ℕ). op2_word c.args.op c.args.t c.args.bt (word_in old (c.args.a + i)) (word_in old (c.args.b + i)) (word_in old (c.args.d + i)) in
    let end : c.loop-i.i ≡ lane_count c.args.mask.now = omega arith in
    row_written (lane_count c.args.mask.now) c.args.d on value old c.loop-i.rows
    (subst (λ m. WritesOn c.args.d (c.args.d + m) (λ j. on (j - c.args.d)) (λ j. value (j - c.args.d)) old c.loop-i.rows) end c.loop-i.invariant.words)

pub returns-clause-zero : goal.returns-clause-zero
returns-clause-zero c =
    marks_all (is_on c.args.mask.now) (λ j. divides_by_0 c.args.op (number_of c.args.bt (word_in c.args.rows.now (c.args.b + j)))) c.loop-i.i c.loop-i.zero
    (λ j h. on_past c.args.mask.now j (omega arith)) c.loop-i.invariant.zero
