use Rattle.std.proofs.Common.{sym, subst, IfSome, Option, ◌≡◌, false}
use Rattle.vk_lanes.specs.declared.patterns.Lanewise.{Lanewise}
use Rattle.vk_types.specs.Numbers.{number_of}
use Rattle.vk_types.specs.Operators.{divides_by_0, result_type}
use Rattle.vk_lanes.specs.Kernels.{op2_word}
use Rattle.vk_lanes.specs.Masks.{is_on}
use Rattle.vk_lanes.specs.Words.{word_in}
use Rattle.vk_lanes.specs.Inner.Patterns.{pattern}
use Rattle.vk_lanes.proofs.Operators.{computes2}
use Rattle.vk_lanes.proofs.Typed.{divides_not, not_divided, op2_canonical, typed_row}
use Rattle.vk_lanes.proofs.Written.{writes_same}
use Rattle.vk_lanes.proofs.kernels.lanes2.Goals as goal

pub returns-in-Some-clause-words : goal.returns-in-Some-clause-words
returns-in-Some-clause-words c =
    let t = c.args.t in
    let x = word_in c.args.a.now in
    let y = word_in c.args.b.now in
    writes_same (is_on c.args.mask.now) (λ i. pattern c.in-Some.work t (x i) (y i)) (λ i. op2_word c.args.op t c.args.bt (x i) (y i) (word_in c.args.d.now i)) c.args.d.now c.compute.new.d
    (λ i h. subst (λ (o : Option Lanewise). IfSome o (λ l. pattern l t (x i) (y i) ≡ op2_word c.args.op t c.args.bt (x i) (y i) (word_in c.args.d.now i))) (sym c.in-Some.ensures)
    (computes2 c.args.op t c.args.bt (x i) (y i) (word_in c.args.d.now i) (c.requires.left_words i h) (c.requires.right_words i h) c.requires.types))
    c.compute.ensures

pub returns-in-Some-clause-typed : goal.returns-in-Some-clause-typed
returns-in-Some-clause-typed c i h k =
    typed_row (result_type c.args.op c.args.t) (is_on c.args.mask.now) (λ i. op2_word c.args.op c.args.t c.args.bt (word_in c.args.a.now i) (word_in c.args.b.now i) (word_in c.args.d.now i))
    c.args.d.now c.compute.new.d (returns-in-Some-clause-words c) i h
    (op2_canonical c.args.op c.args.t c.args.bt (word_in c.args.a.now i) (word_in c.args.b.now i) (word_in c.args.d.now i)
    (subst (λ (o : Option Lanewise). IfSome o (λ l. divides_by_0 c.args.op (number_of c.args.bt (word_in c.args.b.now i)) ≡ false)) (sym c.in-Some.ensures) (divides_not c.args.op (number_of c.args.bt (word_in c.args.b.now i)))))

pub returns-in-None-clause-typed : goal.returns-in-None-clause-typed
returns-in-None-clause-typed c i h k =
    typed_row (result_type c.args.op c.args.t) (is_on c.args.mask.now) (λ i. op2_word c.args.op c.args.t c.args.bt (word_in c.args.a.now i) (word_in c.args.b.now i) (word_in c.args.d.now i))
    c.args.d.now c.divide.new.d c.divide.ensures.words i h
    (op2_canonical c.args.op c.args.t c.args.bt (word_in c.args.a.now i) (word_in c.args.b.now i) (word_in c.args.d.now i)
    (not_divided (is_on c.divide.new.zero i) (is_on c.args.mask.now i) (divides_by_0 c.args.op (number_of c.args.bt (word_in c.args.b.now i))) (c.divide.ensures.zero i) h k))
