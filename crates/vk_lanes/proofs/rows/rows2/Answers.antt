use Rattle.std.proofs.Common.{◌≡◌, ◌+◌, ℕ, Option, IfSome, sym, subst, false}
use Rattle.vk_lanes.specs.declared.patterns.Lanewise.{Lanewise}
use Rattle.vk_types.specs.Numbers.{number_of}
use Rattle.vk_types.specs.Operators.{divides_by_0, result_type}
use Rattle.vk_lanes.specs.Kernels.{op2_word}
use Rattle.vk_lanes.specs.Masks.{is_on, lane_count}
use Rattle.vk_lanes.specs.Words.{word_in}
use Rattle.vk_lanes.specs.Inner.Patterns.{pattern}
use Rattle.vk_lanes.proofs.InRows.{row_same}
use Rattle.vk_lanes.proofs.Operators.{computes2}
use Rattle.vk_lanes.proofs.Bits.{inside}
use Rattle.vk_lanes.proofs.Typed.{divides_not, not_divided, op2_canonical, typed_lanes}
use Rattle.vk_lanes.proofs.rows.rows2.Goals as goal

pub returns-in-Some-clause-words : goal.returns-in-Some-clause-words
returns-in-Some-clause-words c =
    let t = c.args.t in
    let x = λ (i : ℕ). word_in c.args.rows.now (c.args.a + i) in
    let y = λ (i : ℕ). word_in c.args.rows.now (c.args.b + i) in
    let z = λ (i : ℕ). word_in c.args.rows.now (c.args.d + i) in
    row_same (lane_count c.args.mask.now) c.args.d (is_on c.args.mask.now) (λ i. pattern c.in-Some.work t (x i) (y i)) (λ i. op2_word c.args.op t c.args.bt (x i) (y i) (z i)) c.args.rows.now c.compute.new.rows
    (λ i h. subst (λ (o : Option Lanewise). IfSome o (λ l. pattern l t (x i) (y i) ≡ op2_word c.args.op t c.args.bt (x i) (y i) (z i))) (sym c.in-Some.ensures)
    (computes2 c.args.op t c.args.bt (x i) (y i) (z i) (c.requires.left_words i h) (c.requires.right_words i h) c.requires.types))
    c.compute.ensures

pub returns-in-Some-clause-typed : goal.returns-in-Some-clause-typed
returns-in-Some-clause-typed c i h k =
    typed_lanes (result_type c.args.op c.args.t) (lane_count c.args.mask.now) c.args.d (is_on c.args.mask.now) (λ i. op2_word c.args.op c.args.t c.args.bt (word_in c.args.rows.now (c.args.a + i)) (word_in c.args.rows.now (c.args.b + i)) (word_in c.args.rows.now (c.args.d + i)))
    c.args.rows.now c.compute.new.rows (returns-in-Some-clause-words c) i (inside c.args.mask.now i h) h
    (op2_canonical c.args.op c.args.t c.args.bt (word_in c.args.rows.now (c.args.a + i)) (word_in c.args.rows.now (c.args.b + i)) (word_in c.args.rows.now (c.args.d + i))
    (subst (λ (o : Option Lanewise). IfSome o (λ l. divides_by_0 c.args.op (number_of c.args.bt (word_in c.args.rows.now (c.args.b + i))) ≡ false)) (sym c.in-Some.ensures) (divides_not c.args.op (number_of c.args.bt (word_in c.args.rows.now (c.args.b + i))))))

pub returns-in-None-clause-typed : goal.returns-in-None-clause-typed
returns-in-None-clause-typed c i h k =
    typed_lanes (result_type c.args.op c.args.t) (lane_count c.args.mask.now) c.args.d (is_on c.args.mask.now) (λ i. op2_word c.args.op c.args.t c.args.bt (word_in c.args.rows.now (c.args.a + i)) (word_in c.args.rows.now (c.args.b + i)) (word_in c.args.rows.now (c.args.d + i)))
    c.args.rows.now c.divide.new.rows c.divide.ensures.words i (inside c.args.mask.now i h) h
    (op2_canonical c.args.op c.args.t c.args.bt (word_in c.args.rows.now (c.args.a + i)) (word_in c.args.rows.now (c.args.b + i)) (word_in c.args.rows.now (c.args.d + i))
    (not_divided (is_on c.divide.new.zero i) (is_on c.args.mask.now i) (divides_by_0 c.args.op (number_of c.args.bt (word_in c.args.rows.now (c.args.b + i)))) (c.divide.ensures.zero i) h k))
