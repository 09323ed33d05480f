-- What one instruction brings.
use Rattle.std.proofs.Common.{arith, sym, ◌≡◌, ℕ, ◌+◌, ◌<◌, ◌≤◌, [], length, refl, subst, ap, ◌∙◌, ℤ, pos, Ok, Result}
use Rattle.vk_types.specs.declared.types.Ty.{Ty}
use Rattle.vk_types.specs.declared.types.Ty.TheVariants.{I32}
use Rattle.vk_types.specs.declared.types.Op1.{Op1}
use Rattle.vk_types.specs.declared.types.Op2.{Op2}
use Rattle.vk_types.specs.declared.types.Op2.TheVariants.{Add, Sub, Mul, Div, Rem, And, Or, Xor, Shl, Shr, Eq, Ne, Lt, Le}
use Rattle.vk_types.specs.declared.types.Stop.{Stop}
use Rattle.vk_types.specs.declared.types.Word.{Word}
use Rattle.vk_types.specs.Numbers.{IsCanonical, number_of, wrap_number}
use Rattle.vk_types.specs.Operators.{op1_number, op2_number, result_type}
use Rattle.vk_kinds.specs.declared.heads.CType.TheVariants.{Int}
use Rattle.vk_code.specs.declared.instruction.Operation.{Operation}
use Rattle.vk_code.specs.declared.instruction.Operation.TheVariants.{Binary, Compare, Const, Convert, MaskBut, MaskOf, Unary}
use Rattle.vk_code.specs.Instruction.{IsArithmetic, IsComparison}
use Rattle.vk_lane.specs.Places.{Share}
use Rattle.vk_construct.specs.Adds.{Adds, AddsNumber, HasType, LeavesOut, TestsOn, Written}
use Rattle.vk_construct.specs.Applies.{one, two}
use Rattle.vk_construct.proofs.Instructions.{IsTarget, adds_binary, adds_compare, adds_const, adds_convert, adds_mask_but, adds_mask_of, adds_unary, adds_unconverted}
use Rattle.vk_construct.proofs.Adding.{adds_weaken, type_kept}
use Rattle.vk_flat.specs.declared.emitter.Place.{Place}
use Rattle.vk_flat.specs.declared.emitter.Under.{Under}
use Rattle.vk_flat.specs.Emitters.{Brings, BringsInto, HasPut, IsOperator, IsPlace, IsPromoted, with_register}
use Rattle.vk_flat.proofs.Grown.{fresh_kept, fresh_place, fresh_then, put_free, put_mask, put_piece, put_place}

-- ---- types of results

arithmetic_type : (op : Op2) (t : Ty) → IsArithmetic op → result_type op t ≡ t
arithmetic_type Add t h = refl
arithmetic_type Sub t h = refl
arithmetic_type Mul t h = refl
arithmetic_type Div t h = refl
arithmetic_type Rem t h = refl
arithmetic_type And t h = refl
arithmetic_type Or t h = refl
arithmetic_type Xor t h = refl
arithmetic_type Shl t h = refl
arithmetic_type Shr t h = refl
arithmetic_type Eq t h = absurd h
arithmetic_type Ne t h = absurd h
arithmetic_type Lt t h = absurd h
arithmetic_type Le t h = absurd h

comparison_type : (op : Op2) (t : Ty) → IsComparison op → result_type op t ≡ I32
comparison_type Eq t h = refl
comparison_type Ne t h = refl
comparison_type Lt t h = refl
comparison_type Le t h = refl
comparison_type Add t h = absurd h
comparison_type Sub t h = absurd h
comparison_type Mul t h = absurd h
comparison_type Div t h = absurd h
comparison_type Rem t h = absurd h
comparison_type And t h = absurd h
comparison_type Or t h = absurd h
comparison_type Xor t h = absurd h
comparison_type Shl t h = absurd h
comparison_type Shr t h = absurd h

-- ---- into a register that is there

pub constant_into : (a b : Written) (n : ℕ) (d : Place) (u : Under) (value : Word) → HasPut a b u.mask (Const d.ty d.register value) → u.mask < a.masks → IsPlace a d → a.params ≤ d.register →
    number_of d.ty value.0 ≡ wrap_number d.ty (pos n) → IsCanonical d.ty value.0 → BringsInto a b (λ h. Ok (wrap_number d.ty (pos n))) d u 1
constant_into a b n d u value h lm there free num can k le =
    adds_const a b h.instr [] value (wrap_number d.ty (pos n)) d.ty d.register u.mask k u.free (put_piece a b _ _ h) h.mask (put_mask a b _ _ h u.mask lm) h.operation
    (record { typed = put_place a b _ _ h d there; free = put_free a b _ _ h d.register free; above = le }) can num

pub convert_into : (a b : Written) (r d : Place) (u : Under) → HasPut a b u.mask (Convert d.register r.register) → u.mask < a.masks → IsPlace a r → IsPlace a d → a.params ≤ d.register →
    BringsInto a b (one (λ z. Ok (wrap_number d.ty z)) r.ty r.register) d u 1
convert_into a b r d u h lm operand there free k le =
    adds_convert a b h.instr [] r.ty d.ty r.register d.register u.mask k u.free (put_piece a b _ _ h) h.mask (put_mask a b _ _ h u.mask lm) h.operation
    (record { typed = put_place a b _ _ h d there; free = put_free a b _ _ h d.register free; above = le }) (put_place a b _ _ h r operand)

pub test_mask : (a b : Written) (r : Place) (u : Under) → HasPut a b u.mask (MaskOf u.free r.register) → u.mask < a.masks → IsPlace a r → 0 < u.free → u.free < a.masks → Adds a b (TestsOn u.mask u.free r.register) 1 0
test_mask a b r u h lm operand some lf = adds_mask_of a b h.instr r.ty u.free r.register u.mask (put_piece a b _ _ h) h.mask (put_mask a b _ _ h u.mask lm) h.operation
    (record { some = some; there = put_mask a b _ _ h u.free lf }) (put_place a b _ _ h r operand)

pub rest_mask : (a b : Written) (u : Under) → HasPut a b 0 (MaskBut (u.free + 1) u.mask u.free) → u.mask < a.masks → u.free + 1 < a.masks → Adds a b (LeavesOut (u.free + 1) u.mask u.free) 1 0
rest_mask a b u h lm lf = adds_mask_but a b h.instr (u.free + 1) u.mask u.free (put_piece a b _ _ h) h.mask
    (record { some = omega arith; there = put_mask a b _ _ h (u.free + 1) lf }) (put_mask a b _ _ h u.mask lm) (put_mask a b _ _ h u.free (omega (arith, lf))) h.operation

-- ---- into a new register

pub new_place : (a b : Written) (d : Place) → b ≡ with_register a d.ty → d.register ≡ length a.regs → IsPlace b d
new_place a b d e at = subst (λ n. HasType b n d.ty) (sym at) (fresh_place a b d.ty e)

pub old_place : (a b : Written) (d r : Place) → b ≡ with_register a d.ty → IsPlace a r → IsPlace b r
old_place a b d r e h = fresh_kept a b d.ty e r.register r.ty h

-- what comes into a register that was made for it
pub brings_new : (a b c : Written) (result : Share → Result ℤ Stop) (d : Place) (u : Under) (size : ℕ) → b ≡ with_register a d.ty → d.register ≡ length a.regs → BringsInto b c result d u size → Brings a c result d u size
brings_new a b c result d u size e at x = record {
  code = fresh_then a b d.ty e c _ size 0 here;
  place = type_kept b c _ size 0 d.register (Int d.ty) here (new_place a b d e at);
}
  where
    here : AddsNumber b c result d.ty d.register u.mask (length a.regs) u.free size
    here = x (length a.regs) (subst (λ n. length a.regs ≤ n) (sym at) (omega arith))

module _ (a b c : Written) (d : Place) (u : Under) (e : b ≡ with_register a d.ty) (at : d.register ≡ length a.regs) (lm : u.mask < a.masks) (lp : a.params ≤ length a.regs) where
  running : u.mask < b.masks
  running = subst (λ w. u.mask < w.masks) (sym e) lm

  target : (k : ℕ) → k ≤ d.register → (o : Operation) → HasPut b c u.mask o → IsTarget c d.ty d.register k
  target k le o h = record { typed = put_place b c _ _ h d (new_place a b d e at); free = put_free b c _ _ h d.register (subst (λ n. n ≤ d.register) (sym (ap (λ w. w.params) e)) (subst (λ n. a.params ≤ n) (sym at) lp)); above = le }

  pub apply_new : (op : Op1) (r : Place) → HasPut b c u.mask (Unary op d.ty d.register r.register) → IsPlace a r → r.ty ≡ d.ty → IsPromoted d.ty → Brings a c (one (λ z. Ok (op1_number op r.ty z)) r.ty r.register) d u 1
  apply_new op r h operand same promoted =
      subst (λ t. Brings a c (one (λ z. Ok (op1_number op t z)) t r.register) d u 1) (sym same)
      (brings_new a b c _ d u 1 e at (λ k le. adds_unary b c h.instr [] op d.ty r.register d.register u.mask k u.free (put_piece b c _ _ h) h.mask (put_mask b c _ _ h u.mask running) h.operation
      (target k le _ h) (put_place b c _ _ h (record { register = r.register; ty = d.ty }) (subst (λ t. HasType b r.register t) same (old_place a b d r e operand))) promoted))

  pub operate_new : (op : Op2) (r s : Place) → HasPut b c u.mask (Binary op d.ty d.register r.register s.register) → IsPlace a r → IsPlace a s → r.ty ≡ d.ty → IsPromoted d.ty → IsOperator op r.ty s.ty →
      Brings a c (two (op2_number op r.ty) r.ty r.register s.ty s.register) d u 1
  operate_new op r s h left right same promoted operator =
      subst (λ t. Brings a c (two (op2_number op t) t r.register s.ty s.register) d u 1) (sym same)
      (brings_new a b c _ d u 1 e at (λ k le. adds_binary b c h.instr [] op d.ty s.ty r.register s.register d.register u.mask k u.free (put_piece b c _ _ h) h.mask (put_mask b c _ _ h u.mask running) h.operation
      (target k le _ h) (put_place b c _ _ h (record { register = r.register; ty = d.ty }) (subst (λ t. HasType b r.register t) same (old_place a b d r e left))) (put_place b c _ _ h s (old_place a b d s e right))
      promoted (λ i. operator.right i ∙ same) (arithmetic_type op d.ty operator.arithmetic)))

  pub compare_new : (op : Op2) (t : Ty) (r s : Place) → HasPut b c u.mask (Compare op t d.register r.register s.register) → IsPlace a r → IsPlace a s → r.ty ≡ t → s.ty ≡ t → d.ty ≡ I32 → IsPromoted t → IsComparison op →
      Brings a c (two (op2_number op t) r.ty r.register s.ty s.register) d u 1
  compare_new op t r s h left right same same' int promoted comparison =
      subst (λ v. Brings a c (two (op2_number op t) v r.register s.ty s.register) d u 1) (sym same)
      (subst (λ v. Brings a c (two (op2_number op t) t r.register v s.register) d u 1) (sym same')
      (brings_new a b c _ d u 1 e at (λ k le. subst (λ v. AddsNumber b c (two (op2_number op t) t r.register t s.register) v d.register u.mask k u.free 1) (sym int)
      (adds_compare b c h.instr [] op t r.register s.register d.register u.mask k u.free (put_piece b c _ _ h) h.mask (put_mask b c _ _ h u.mask running) h.operation
      (subst (λ v. IsTarget c v d.register k) int (target k le _ h)) (put_place b c _ _ h (record { register = r.register; ty = t }) (subst (λ v. HasType b r.register v) same (old_place a b d r e left)))
      (put_place b c _ _ h (record { register = s.register; ty = t }) (subst (λ v. HasType b s.register v) same' (old_place a b d s e right))) promoted (comparison_type op t comparison)))))

-- the register itself, where its type is the wanted one
pub same_type : (a : Written) (r : Place) (t : Ty) (u : Under) → IsPlace a r → r.ty ≡ t → Brings a a (one (λ z. Ok (wrap_number t z)) r.ty r.register) r u 1
same_type a r t u operand same = subst (λ v. Brings a a (one (λ z. Ok (wrap_number v z)) r.ty r.register) r u 1) same (record {
  code = adds_weaken a a _ _ 0 1 0 (adds_unconverted a r.ty r.register u.mask (length a.regs) u.free operand) (omega arith) (λ q hw j h h' s s' x. x);
  place = operand;
})
