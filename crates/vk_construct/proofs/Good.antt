-- Pieces of good code.
use Rattle.std.proofs.Common.{arith, rules, sym, ℤ, ◌≤ℤ◌, int_le, ◌≡◌, ℕ, zero, suc, ◌+◌, ◌-◌, ◌<◌, ◌≤◌, ◌==◌, nat_lt, nat_le, Bool, true, false, cond, ◌&&◌, List, [], ◌∷◌, ◌++◌, length, Option, Some, None, refl, subst, ap, ap₂, ◌∙◌, append_assoc, length-append}
use Rattle.std.proofs.lemmas.Int.{ints}
use Rattle.std.specs.Prelude.{slice_get}
use Rattle.vk_types.specs.declared.types.Ty.{Ty}
use Rattle.vk_types.specs.declared.types.Op1.{Op1}
use Rattle.vk_types.specs.declared.types.Op2.{Op2}
use Rattle.vk_types.specs.declared.types.Word.{Word}
use Rattle.vk_types.specs.declared.types.Ty.TheVariants.{I32}
use Rattle.vk_types.specs.Conversions.{common_type, greatest_of, least_of, promoted}
use Rattle.vk_types.specs.Formats.{type_number}
use Rattle.vk_types.specs.Numbers.{IsCanonical, IsInRange, number_of}
use Rattle.vk_kinds.specs.declared.heads.CType.{CType}
use Rattle.vk_kinds.specs.declared.heads.CType.TheVariants.{Int}
use Rattle.vk_kinds.specs.Types.{ctype_number}
use Rattle.vk_code.specs.declared.instruction.Instr.{Instr}
use Rattle.vk_code.specs.declared.instruction.Operation.{Operation}
use Rattle.vk_code.specs.declared.instruction.Operation.TheVariants.{Const, Convert, Binary, Compare, Unary, MaskOf}
use Rattle.vk_code.specs.Instruction.{block_of, block_in, operation_of}
use Rattle.vk_code.specs.Listing.{Routine, number_of_some, reg_type}
use Rattle.vk_code.specs.Tests.{all_good, holds}
use Rattle.vk_code.specs.Valid.{Environment, are_masks, is_canonical, is_good_instr, is_integer, is_promoted, is_shift, is_typed, is_written_mask, instr_verdicts}
use Rattle.vk_construct.specs.Adds.{Finishes, HasType, IsGoodPiece, Written}

pub both_good : (a b : Bool) → a ≡ true → b ≡ true → (a && b) ≡ true
both_good a b e f = ap₂ (λ p q. p && q) e f

pub below : (a b : ℕ) → a < b → nat_lt a b ≡ true
below a b h = grind (arith, h)

pub same : (a b : ℕ) → a ≡ b → (a == b) ≡ true
same a b e = grind (arith, e)

-- ---- pieces

pub good_nil : (e : Environment) (c : Routine) (depth : ℕ) → IsGoodPiece e c depth []
good_nil e c depth rest n k room ek le g = let none : n ≡ k = omega (arith, ek) in subst (λ x. all_good (instr_verdicts e c room rest zero x) ≡ true) none g

pub good_append : (e : Environment) (c : Routine) (depth : ℕ) (a b : List Instr) → IsGoodPiece e c depth a → IsGoodPiece e c depth b → IsGoodPiece e c depth (a ++ b)
good_append e c depth a b ga gb rest n k room ek le g =
    let joined : k ≡ length a + (length b + n) = ek ∙ (ap (λ x. x + n) (length-append a b) ∙ omega arith) in
    subst (λ l. all_good (instr_verdicts e c room l zero k) ≡ true) (sym (append_assoc a b rest)) (ga (b ++ rest) (length b + n) k room joined le (gb rest n (length b + n) room refl le g))

pub good_deeper : (e : Environment) (c : Routine) (depth depth' : ℕ) (a : List Instr) → depth ≤ depth' → IsGoodPiece e c depth a → IsGoodPiece e c depth' a
good_deeper e c depth depth' a le ga rest n k room ek l g = ga rest n k room ek (omega (arith, le, l)) g

-- an instruction that is no loop
pub good_one : (e : Environment) (c : Routine) (i : Instr) (o : Operation) → operation_of i ≡ Some o → block_in (Some o) ≡ None → i.m < c.masks → is_typed e c o ≡ true → IsGoodPiece e c 0 (i ∷ [])
good_one e c i o is plain lm ty rest n k room ek le g =
    let one_more : k ≡ suc n = ek ∙ omega arith in
    subst (λ x. all_good (instr_verdicts e c room (i ∷ rest) zero x) ≡ true) (sym one_more) (by (block_of i) (ap block_in is ∙ plain))
  where
    here : is_good_instr e c i ≡ true
    here = both_good (nat_lt i.m c.masks) (holds (is_typed e c) (operation_of i)) (below i.m c.masks lm) (ap (holds (is_typed e c)) is ∙ ty)

    by : (b : Option ℕ) → b ≡ None → all_good (elim b as (λ _. List Bool) [
      | None ↦ is_good_instr e c i ∷ instr_verdicts e c room rest zero n
      | Some x ↦ (is_good_instr e c i && nat_le x n && nat_lt 0 room) ∷ (instr_verdicts e c (room - 1) rest zero x ++ instr_verdicts e c room rest x (n - x))
    ]) ≡ true
    by None h = both_good (is_good_instr e c i) (all_good (instr_verdicts e c room rest zero n)) here g
    by (Some x) h = cc

-- ---- types of registers

pub finished_type : (c : Routine) (w : Written) (r : ℕ) (t : CType) → Finishes c w → slice_get w.regs r ≡ Some t → reg_type c.regs r ≡ ctype_number t
finished_type c w r t f e = ap number_of_some (f.regs r t e)

pub is_type : (c : Routine) (w : Written) (r n : ℕ) (t : CType) → Finishes c w → slice_get w.regs r ≡ Some t → ctype_number t ≡ n → (reg_type c.regs r == n) ≡ true
is_type c w r n t f e en = same (reg_type c.regs r) n (finished_type c w r t f e ∙ en)

-- ---- operations

-- a type that operators work at
abbrev pub IsPromoted : Ty → Type 0
IsPromoted t = is_promoted (type_number t) ≡ true

pub promoted_is : (t : Ty) → IsPromoted (promoted t)
promoted_is t = search rules

pub common_is : (s t : Ty) → IsPromoted (common_type s t)
common_is s t = search rules

pub integer_is : (t : Ty) → is_integer (type_number t) ≡ true
integer_is t = search rules

has_integer : (c : Routine) (w : Written) (r : ℕ) (t : Ty) → Finishes c w → HasType w r t → is_integer (reg_type c.regs r) ≡ true
has_integer c w r t f e = ap is_integer (finished_type c w r (Int t) f e) ∙ integer_is t

has_number : (c : Routine) (w : Written) (r : ℕ) (t : Ty) → Finishes c w → HasType w r t → (reg_type c.regs r == type_number t) ≡ true
has_number c w r t f e = is_type c w r (type_number t) (Int t) f e refl

lower : (t : Ty) (z : ℤ) → IsInRange t z → least_of t ≤ℤ z
lower t z h = search rules

upper : (t : Ty) (z : ℤ) → IsInRange t z → z ≤ℤ greatest_of t
upper t z h = search rules

at_most : (x y : ℤ) → x ≤ℤ y → int_le x y ≡ true
at_most x y h = grind (arith, ints)

is_canonical_word : (t : Ty) (w : ℕ) → IsCanonical t w → is_canonical t w ≡ true
is_canonical_word t w h = both_good _ _ (at_most (least_of t) (number_of t w) (lower t (number_of t w) h.1)) (at_most (number_of t w) (greatest_of t) (upper t (number_of t w) h.1))

pub typed_const : (e : Environment) (c : Routine) (w : Written) (t : Ty) (d : ℕ) (value : Word) → Finishes c w → HasType w d t → IsCanonical t value.0 → is_typed e c (Const t d value) ≡ true
typed_const e c w t d value f td h = both_good _ _ (has_number c w d t f td) (is_canonical_word t value.0 h)

pub typed_convert : (e : Environment) (c : Routine) (w : Written) (t u : Ty) (d a : ℕ) → Finishes c w → HasType w d t → HasType w a u → is_typed e c (Convert d a) ≡ true
typed_convert e c w t u d a f td ta = both_good _ _ (has_integer c w d t f td) (has_integer c w a u f ta)

operands : (c : Routine) (w : Written) (t : Ty) (d a : ℕ) → Finishes c w → IsPromoted t → HasType w d t → HasType w a t → ((is_promoted (type_number t) && (reg_type c.regs d == type_number t)) && (reg_type c.regs a == type_number t)) ≡ true
operands c w t d a f p td ta = both_good _ _ (both_good _ _ p (has_number c w d t f td)) (has_number c w a t f ta)

pub typed_unary : (e : Environment) (c : Routine) (w : Written) (op : Op1) (t : Ty) (d a : ℕ) → Finishes c w → IsPromoted t → HasType w d t → HasType w a t → is_typed e c (Unary op t d a) ≡ true
typed_unary e c w op t d a f p td ta = operands c w t d a f p td ta

-- the right operand has the same type, or is a shift's
pub typed_binary : (e : Environment) (c : Routine) (w : Written) (op : Op2) (t u : Ty) (d a b : ℕ) → Finishes c w → IsPromoted t → HasType w d t → HasType w a t → HasType w b u → (is_shift op ≡ false → u ≡ t) → is_typed e c (Binary op t d a b) ≡ true
typed_binary e c w op t u d a b f p td ta tb right = both_good _ _ (operands c w t d a f p td ta) (by (is_shift op) refl)
  where
    by : (s : Bool) → is_shift op ≡ s → cond s (is_integer (reg_type c.regs b)) (reg_type c.regs b == type_number t) ≡ true
    by true q = has_integer c w b u f tb
    by false q = has_number c w b t f (subst (HasType w b) (right q) tb)

pub typed_compare : (e : Environment) (c : Routine) (w : Written) (op : Op2) (t : Ty) (d a b : ℕ) → Finishes c w → IsPromoted t → HasType w d I32 → HasType w a t → HasType w b t → is_typed e c (Compare op t d a b) ≡ true
typed_compare e c w op t d a b f p td ta tb = both_good _ _ (both_good _ _ (both_good _ _ p (has_number c w d I32 f td)) (has_number c w a t f ta)) (has_number c w b t f tb)

written_mask : (c : Routine) (d : ℕ) → 0 < d → d < c.masks → is_written_mask c.masks d ≡ true
written_mask c d some ld = both_good _ _ (below 0 d some) (below d c.masks ld)

pub typed_mask_of : (e : Environment) (c : Routine) (w : Written) (t : Ty) (d a : ℕ) → Finishes c w → 0 < d → d < c.masks → HasType w a t → is_typed e c (MaskOf d a) ≡ true
typed_mask_of e c w t d a f some ld ta = both_good _ _ (written_mask c d some ld) (has_integer c w a t f ta)

pub good_masks : (c : Routine) (d a b : ℕ) → 0 < d → d < c.masks → a < c.masks → b < c.masks → are_masks c.masks d a b ≡ true
good_masks c d a b some ld la lb = both_good _ _ (both_good _ _ (written_mask c d some ld) (below a c.masks la)) (below b c.masks lb)
