-- Operators that convert their operands first.
use Rattle.std.proofs.Common.{arith, ◌≡◌, ℕ, ◌+◌, ◌<◌, ◌≤◌, length, cond, subst, ap, ◌∙◌, ℤ, pos, Result, Ok}
use Rattle.vk_types.specs.declared.types.Ty.{Ty}
use Rattle.vk_types.specs.declared.types.Ty.TheVariants.{I32}
use Rattle.vk_types.specs.declared.types.Op1.{Op1}
use Rattle.vk_types.specs.declared.types.Op2.{Op2}
use Rattle.vk_types.specs.declared.types.Op2.TheVariants.{Eq}
use Rattle.vk_types.specs.declared.types.Stop.{Stop}
use Rattle.vk_types.specs.Numbers.{IsInRange, wrap_number}
use Rattle.vk_types.specs.Conversions.{common_type, promoted}
use Rattle.vk_types.specs.Operators.{op1_number, op2_number}
use Rattle.vk_kinds.specs.declared.heads.CType.TheVariants.{Int}
use Rattle.vk_ast.specs.declared.expressions.UnOp.TheVariants.{LogNot}
use Rattle.vk_numbers.specs.Operators.{is_on, result_in, shift_result, unary_number}
use Rattle.vk_numbers.proofs.Numbers.{wrap_keeps}
use Rattle.vk_lane.specs.Places.{Share}
use Rattle.vk_construct.specs.Adds.{Adds, AddsNumber, TestsOn, Written}
use Rattle.vk_construct.specs.Applies.{number_at, one, two}
use Rattle.vk_construct.proofs.Adding.{adds_weaken, is_inside, no_fewer, type_kept}
use Rattle.vk_construct.proofs.Operators.{adds_chosen, common_symmetric, converted_both, converted_left, converted_one, converted_with}
use Rattle.vk_flat.specs.declared.emitter.Place.{Place}
use Rattle.vk_flat.specs.declared.emitter.Under.{Under}
use Rattle.vk_flat.specs.Emitters.{Brings, BringsInto, IsPlace}

inside : (w : Written) (a : Place) → IsPlace w a → a.register < length w.regs
inside w a h = is_inside w.regs a.register (Int a.ty) h

more : (a b : Written) (result : Share → Result ℤ Stop) (d : Place) (u : Under) (size : ℕ) → Brings a b result d u size → length a.regs ≤ length b.regs
more a b result d u size x = no_fewer a b _ size 0 x.code

-- the number of a conversion, read as one of its type
as_type : (a b : Written) (p : Place) (t : Ty) (u : Under) (x : Place) → p.ty ≡ t → Brings a b (one (λ z. Ok (wrap_number t z)) x.ty x.register) p u 1 →
    AddsNumber a b (one (λ z. Ok (wrap_number t z)) x.ty x.register) t p.register u.mask (length a.regs) u.free 1
as_type a b p t u x e h = subst (λ v. AddsNumber a b (one (λ z. Ok (wrap_number t z)) x.ty x.register) v p.register u.mask (length a.regs) u.free 1) e h.code

-- at most three instructions
pub brings_weaken : (a b : Written) (result : Share → Result ℤ Stop) (d : Place) (u : Under) (size more : ℕ) → size ≤ more → Brings a b result d u size → Brings a b result d u more
brings_weaken a b result d u size more le x = record { code = adds_weaken a b _ _ size more 0 x.code le (λ q hw j h h' s s' y. y); place = x.place }

pub both_brings : (a b c e : Written) (g : ℤ → ℤ → Result ℤ Stop) (t : Ty) (x y p q d : Place) (u : Under) → u.mask < u.free → IsPlace a y → p.ty ≡ t → q.ty ≡ t →
    Brings a b (one (λ z. Ok (wrap_number t z)) x.ty x.register) p u 1 → Brings b c (one (λ z. Ok (wrap_number t z)) y.ty y.register) q u 1 → Brings c e (two g t p.register t q.register) d u 1 →
    Brings a e (two (λ m n. g (wrap_number t m) (wrap_number t n)) x.ty x.register y.ty y.register) d u 3
both_brings a b c e g t x y p q d u lm right ep eq one_ two_ three = record {
  code = converted_both a b c e g x.ty y.ty t d.ty x.register y.register p.register q.register d.register u.mask (length a.regs) (length b.regs) (length c.regs) u.free 1 1 1 lm
      (more a b _ p u 1 one_) (more b c _ q u 1 two_) (inside a y right) (inside b p one_.place) (as_type a b p t u x ep one_) (as_type b c q t u y eq two_) three.code;
  place = three.place;
}

pub left_brings : (a b c : Written) (g : ℤ → ℤ → Result ℤ Stop) (t : Ty) (x y p d : Place) (u : Under) → u.mask < u.free → IsPlace a y → p.ty ≡ t →
    Brings a b (one (λ z. Ok (wrap_number t z)) x.ty x.register) p u 1 → Brings b c (two g t p.register y.ty y.register) d u 1 →
    Brings a c (two (λ m n. g (wrap_number t m) n) x.ty x.register y.ty y.register) d u 3
left_brings a b c g t x y p d u lm right ep one_ two_ = brings_weaken a c _ d u 2 3 (omega arith) (record {
  code = converted_left a b c g x.ty y.ty t d.ty x.register y.register p.register d.register u.mask (length a.regs) (length b.regs) u.free 1 1 lm (more a b _ p u 1 one_) (inside a y right) (as_type a b p t u x ep one_) two_.code;
  place = two_.place;
})

pub one_brings : (a b c : Written) (g : ℤ → Result ℤ Stop) (t : Ty) (x p d : Place) (u : Under) → u.mask < u.free → p.ty ≡ t →
    Brings a b (one (λ z. Ok (wrap_number t z)) x.ty x.register) p u 1 → Brings b c (one g t p.register) d u 1 → Brings a c (one (λ z. g (wrap_number t z)) x.ty x.register) d u 3
one_brings a b c g t x p d u lm ep one_ two_ = brings_weaken a c _ d u 2 3 (omega arith) (record {
  code = converted_one a b c g x.ty t d.ty x.register p.register d.register u.mask (length a.regs) (length b.regs) u.free 1 1 lm (more a b _ p u 1 one_) (as_type a b p t u x ep one_) two_.code;
  place = two_.place;
})

pub with_brings : (a b c e : Written) (g : ℤ → ℤ → Result ℤ Stop) (n : ℤ) (t : Ty) (x p q d : Place) (u : Under) → u.mask < u.free → p.ty ≡ t → q.ty ≡ t →
    Brings a b (one (λ z. Ok (wrap_number t z)) x.ty x.register) p u 1 → Brings b c (λ h. Ok n) q u 1 → Brings c e (two g t p.register t q.register) d u 1 →
    Brings a e (one (λ z. g (wrap_number t z) n) x.ty x.register) d u 3
with_brings a b c e g n t x p q d u lm ep eq one_ two_ three = record {
  code = converted_with a b c e g n x.ty t d.ty x.register p.register q.register d.register u.mask (length a.regs) (length b.regs) (length c.regs) u.free 1 1 1 lm (more a b _ p u 1 one_) (more b c _ q u 1 two_) (inside b p one_.place)
      (as_type a b p t u x ep one_) (subst (λ v. AddsNumber b c (λ h. Ok n) v q.register u.mask (length b.regs) u.free 1) eq two_.code) three.code;
  place = three.place;
}

-- ---- places that stay

pub brings_kept : (a b : Written) (result : Share → Result ℤ Stop) (d : Place) (u : Under) (size : ℕ) → Brings a b result d u size → (x : Place) → IsPlace a x → IsPlace b x
brings_kept a b result d u size h x p = type_kept a b _ size 0 x.register (Int x.ty) h.code p

-- ---- operators in a common type

module _ (a b c e : Written) (op : Op2) (x y p q d : Place) (u : Under) (t s : Ty) (is : t ≡ s) (ep : p.ty ≡ t) (eq : q.ty ≡ t) (lm : u.mask < u.free) (right : IsPlace a y)
    (first : Brings a b (one (λ z. Ok (wrap_number t z)) x.ty x.register) p u 1) (second : Brings b c (one (λ z. Ok (wrap_number t z)) y.ty y.register) q u 1)
    (third : Brings c e (two (op2_number op p.ty) p.ty p.register q.ty q.register) d u 1) where
  in_one : Brings c e (two (op2_number op t) t p.register t q.register) d u 1
  in_one = subst (λ v. Brings c e (two (op2_number op t) t p.register v q.register) d u 1) eq (subst (λ v. Brings c e (two (op2_number op v) v p.register q.ty q.register) d u 1) ep third)

  pub common_brings : Brings a e (two (result_in op s) x.ty x.register y.ty y.register) d u 3
  common_brings = subst (λ v. Brings a e (two (result_in op v) x.ty x.register y.ty y.register) d u 3) is (both_brings a b c e (op2_number op t) t x y p q d u lm right ep eq first second in_one)

pub zero_brings : (a b c e : Written) (x p q d : Place) (u : Under) (t : Ty) → t ≡ promoted x.ty → p.ty ≡ t → q.ty ≡ t → u.mask < u.free → Brings a b (one (λ z. Ok (wrap_number t z)) x.ty x.register) p u 1 → Brings b c (λ h. Ok (wrap_number t (pos 0))) q u 1 →
    Brings c e (two (op2_number Eq p.ty) p.ty p.register q.ty q.register) d u 1 → Brings a e (one (unary_number LogNot x.ty) x.ty x.register) d u 3
zero_brings a b c e x p q d u t is ep eq lm first second third =
    subst (λ v. Brings a e (one (λ z. result_in Eq v z (pos 0)) x.ty x.register) d u 3) is
    (with_brings a b c e (op2_number Eq t) (wrap_number t (pos 0)) t x p q d u lm ep eq first second
    (subst (λ v. Brings c e (two (op2_number Eq t) t p.register v q.register) d u 1) eq (subst (λ v. Brings c e (two (op2_number Eq v) v p.register q.ty q.register) d u 1) ep third)))

pub shift_brings : (a b c : Written) (op : Op2) (x y p d : Place) (u : Under) (t : Ty) → t ≡ promoted x.ty → p.ty ≡ t → u.mask < u.free → IsPlace a y → Brings a b (one (λ z. Ok (wrap_number t z)) x.ty x.register) p u 1 →
    Brings b c (two (op2_number op p.ty) p.ty p.register y.ty y.register) d u 1 → Brings a c (two (shift_result op (promoted x.ty)) x.ty x.register y.ty y.register) d u 3
shift_brings a b c op x y p d u t is ep lm right first second =
    subst (λ v. Brings a c (two (shift_result op v) x.ty x.register y.ty y.register) d u 3) is
    (left_brings a b c (op2_number op t) t x y p d u lm right ep first (subst (λ v. Brings b c (two (op2_number op v) v p.register y.ty y.register) d u 1) ep second))

pub promoted_brings : (a b c : Written) (op : Op1) (x p d : Place) (u : Under) (t : Ty) → t ≡ promoted x.ty → p.ty ≡ t → u.mask < u.free → Brings a b (one (λ z. Ok (wrap_number t z)) x.ty x.register) p u 1 →
    Brings b c (one (λ z. Ok (op1_number op p.ty z)) p.ty p.register) d u 1 → Brings a c (one (λ z. Ok (op1_number op (promoted x.ty) (wrap_number (promoted x.ty) z))) x.ty x.register) d u 3
promoted_brings a b c op x p d u t is ep lm first second =
    subst (λ v. Brings a c (one (λ z. Ok (op1_number op v (wrap_number v z))) x.ty x.register) d u 3) is
    (one_brings a b c (λ z. Ok (op1_number op t z)) t x p d u lm ep first (subst (λ v. Brings b c (one (λ z. Ok (op1_number op v z)) v p.register) d u 1) ep second))

-- the same operator with its operands exchanged
pub exchanged : (a b : Written) (op : Op2) (x y d : Place) (u : Under) (size : ℕ) → Brings a b (two (result_in op (common_type y.ty x.ty)) y.ty y.register x.ty x.register) d u size →
    Brings a b (λ h. result_in op (common_type x.ty y.ty) (number_at y.ty y.register h) (number_at x.ty x.register h)) d u size
exchanged a b op x y d u size h = subst (λ t. Brings a b (λ k. result_in op t (number_at y.ty y.register k) (number_at x.ty x.register k)) d u size) (common_symmetric y.ty x.ty) h

-- ---- conditions as numbers

pub fits_zero : IsInRange I32 (pos 0)
fits_zero = grind arith

pub fits_one : IsInRange I32 (pos 1)
fits_one = grind arith

pub truth_brings : (a b c e : Written) (x d : Place) (u : Under) → d.ty ≡ I32 → u.mask < u.free → IsPlace a x → Adds a b (TestsOn u.mask u.free x.register) 1 0 →
    BringsInto b c (λ h. Ok (wrap_number d.ty (pos 0))) d (record { mask = u.mask; free = u.free + 1 }) 1 → BringsInto c e (λ h. Ok (wrap_number d.ty (pos 1))) d (record { mask = u.free; free = u.free + 1 }) 1 →
    BringsInto a e (one (λ z. Ok (cond (is_on z) (pos 1) (pos 0))) x.ty x.register) d u 3
truth_brings a b c e x d u int lm operand test zero_ one_ k le =
    adds_chosen a b c e x.ty d.ty (pos 1) (pos 0) x.register d.register u.mask k u.free 1 1 lm operand test
    (subst (λ z. AddsNumber b c (λ h. Ok z) d.ty d.register u.mask k (u.free + 1) 1) (ap (λ t. wrap_number t (pos 0)) int ∙ wrap_keeps I32 (pos 0) fits_zero) (zero_ k le))
    (subst (λ z. AddsNumber c e (λ h. Ok z) d.ty d.register u.free k (u.free + 1) 1) (ap (λ t. wrap_number t (pos 1)) int ∙ wrap_keeps I32 (pos 1) fits_one) (one_ k le))
