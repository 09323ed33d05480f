-- What kernels write is canonical.
use Rattle.std.proofs.Common.{◌≡◌, ℕ, ◌+◌, ◌^◌, ◌<◌, ◌≤◌, List, Bool, true, false, ◌&&◌, cond, IfSome, ℤ, pos, negsuc, Ok, Err, w8, w16, w32, w64, ap, sym, subst, ◌∙◌, arith, refl, lit≤}
use Rattle.std.specs.Prelude.{FitsSigned, unsigned_abs}
use Rattle.std.specs.Int.{Width, cast_signed, int_rem_euclid, int_wrap}
use Rattle.std.specs.Ordering.{int_eq}
use Rattle.std.proofs.lemmas.Int.{SFits-int_wrap, to_z-of_z}
use Rattle.vk_types.specs.declared.types.Ty.{Ty}
use Rattle.vk_types.specs.declared.types.Ty.TheVariants.{I8, I16, I32, I64, U8, U16, U32, U64}
use Rattle.vk_types.specs.declared.types.Op1.{Op1}
use Rattle.vk_types.specs.declared.types.Op2.{Op2}
use Rattle.vk_types.specs.declared.types.Op2.TheVariants.{Add, Sub, Mul, Div, Rem, And, Or, Xor, Shl, Shr, Eq, Ne, Lt, Le}
use Rattle.vk_types.specs.declared.types.Stop.TheVariants.{Divide}
use Rattle.vk_types.specs.declared.types.Word.{Word}
use Rattle.vk_types.specs.Numbers.{IsCanonical, IsInRange, number_of, word_of, wrap_number}
use Rattle.vk_types.specs.Operators.{divided, divides_by_0, exact_unary, result_type, wrapped}
use Rattle.vk_types.proofs.Wrapping.{positive, rem_below, rem_fits}
use Rattle.vk_lanes.specs.Kernels.{Writes, WritesRow, convert_word, op1_word, op2_word, word_or}
use Rattle.vk_lanes.specs.Inner.Patterns.{lanewise_of}
use Rattle.vk_lanes.specs.Words.{word_in}
use mir.Val.{hbits}

-- a signed number's pattern
signed_word : (z : ℤ) → FitsSigned w64 z → word_of z < 2 ^ 64
signed_word (pos n) h = let l : n < 2 ^ 63 = h.sfits in omega arith
signed_word (negsuc n) h = omega arith

widened : (w : Width) (z : ℤ) → 2 ^ hbits w ≤ 2 ^ 63 → FitsSigned w z → FitsSigned w64 z
widened w (pos n) le h = record { sfits = let l : n < 2 ^ hbits w = h.sfits in omega arith }
widened w (negsuc n) le h = record { sfits = let l : n < 2 ^ hbits w = h.sfits in omega arith }

signed_canonical : (w : Width) (z : ℤ) → 2 ^ hbits w ≤ 2 ^ 63 → (word_of (int_wrap w z) < 2 ^ 64) × FitsSigned w (cast_signed w64 (word_of (int_wrap w z)))
signed_canonical w z le =
    let fits : FitsSigned w (int_wrap w z) = SFits-int_wrap w z in
    let wide : FitsSigned w64 (int_wrap w z) = widened w (int_wrap w z) le fits in
    (signed_word (int_wrap w z) wide, subst (FitsSigned w) (sym (to_z-of_z w64 (int_wrap w z) wide)) fits)

unsigned_word : (z : ℤ) (n : ℕ) → unsigned_abs (int_rem_euclid z (pos n)) < n → n ≤ 2 ^ 64 → word_of (int_rem_euclid z (pos n)) < 2 ^ 64
unsigned_word (pos a) n h le = omega arith
unsigned_word (negsuc a) n h le = omega arith

same_word : (z : ℤ) (n : ℕ) → int_rem_euclid z (pos n) ≡ pos (word_of (int_rem_euclid z (pos n)))
same_word (pos a) n = refl
same_word (negsuc a) n = refl

-- what wraps to a type's number has a canonical word
pub canonical_wrap : (t : Ty) (z : ℤ) → IsCanonical t (word_of (wrap_number t z))
canonical_wrap I8 z = signed_canonical w8 z (lit≤ tt)
canonical_wrap I16 z = signed_canonical w16 z (lit≤ tt)
canonical_wrap I32 z = signed_canonical w32 z (lit≤ tt)
canonical_wrap I64 z = signed_canonical w64 z (lit≤ tt)
canonical_wrap U8 z = (unsigned_word z (2 ^ 8) (rem_below z (2 ^ 8) (positive w8)) (lit≤ tt), subst (IsInRange U8) (same_word z (2 ^ 8)) (rem_fits w8 z))
canonical_wrap U16 z = (unsigned_word z (2 ^ 16) (rem_below z (2 ^ 16) (positive w16)) (lit≤ tt), subst (IsInRange U16) (same_word z (2 ^ 16)) (rem_fits w16 z))
canonical_wrap U32 z = (unsigned_word z (2 ^ 32) (rem_below z (2 ^ 32) (positive w32)) (lit≤ tt), subst (IsInRange U32) (same_word z (2 ^ 32)) (rem_fits w32 z))
canonical_wrap U64 z = (unsigned_word z (2 ^ 64) (rem_below z (2 ^ 64) (positive w64)) (lit≤ tt), subst (IsInRange U64) (same_word z (2 ^ 64)) (rem_fits w64 z))

undivided : (t : Ty) (y z : ℤ) (old : ℕ) → int_eq y (pos 0) ≡ false → IsCanonical t (word_or old (wrapped t (divided y z)))
undivided t y z old e = subst (λ b. IsCanonical t (word_or old (wrapped t (cond b (Err Divide) (Ok z))))) (sym e) (canonical_wrap t z)

pub op2_canonical : (op : Op2) (t bt : Ty) (x y old : ℕ) → divides_by_0 op (number_of bt y) ≡ false → IsCanonical (result_type op t) (op2_word op t bt x y old)
op2_canonical Add t bt x y old e = canonical_wrap t _
op2_canonical Sub t bt x y old e = canonical_wrap t _
op2_canonical Mul t bt x y old e = canonical_wrap t _
op2_canonical Div t bt x y old e = undivided t (number_of bt y) _ old e
op2_canonical Rem t bt x y old e = undivided t (number_of bt y) _ old e
op2_canonical And t bt x y old e = canonical_wrap t _
op2_canonical Or t bt x y old e = canonical_wrap t _
op2_canonical Xor t bt x y old e = canonical_wrap t _
op2_canonical Shl t bt x y old e = canonical_wrap t _
op2_canonical Shr t bt x y old e = canonical_wrap t _
op2_canonical Eq t bt x y old e = canonical_wrap I32 _
op2_canonical Ne t bt x y old e = canonical_wrap I32 _
op2_canonical Lt t bt x y old e = canonical_wrap I32 _
op2_canonical Le t bt x y old e = canonical_wrap I32 _

pub op1_canonical : (op : Op1) (t : Ty) (x : ℕ) → IsCanonical t (op1_word op t x)
op1_canonical op t x = canonical_wrap t (exact_unary op t (number_of t x))

pub convert_canonical : (from to : Ty) (x : ℕ) → IsCanonical to (convert_word from to x)
convert_canonical from to x = canonical_wrap to (number_of from x)

-- and so the lanes of a row that are on
pub typed_row : (t : Ty) (on : ℕ → Bool) (value : ℕ → ℕ) (old new : List Word) → Writes on value old new → (i : ℕ) → on i ≡ true → IsCanonical t (value i) → IsCanonical t (word_in new i)
typed_row t on value old new w i h k = subst (IsCanonical t) (sym (w i ∙ ap (λ b. cond b (value i) (word_in old i)) h)) k

pub typed_lanes : (t : Ty) (lanes d : ℕ) (on : ℕ → Bool) (value : ℕ → ℕ) (old new : List Word) → WritesRow lanes d on value old new → (i : ℕ) → i < lanes → on i ≡ true → IsCanonical t (value i) → IsCanonical t (word_in new (d + i))
typed_lanes t lanes d on value old new w i l h k = subst (IsCanonical t) (sym (w.row i l ∙ ap (λ b. cond b (value i) (word_in old (d + i))) h)) k

-- a lane that is on and in which nothing was divided by 0
pub not_divided : (zero on divides : Bool) → zero ≡ (on && divides) → on ≡ true → zero ≡ false → divides ≡ false
not_divided zero on divides e h k = sym (ap (λ o. o && divides) h) ∙ sym e ∙ k

-- what the code computes without a division divides by nothing
pub divides_not : (op : Op2) (y : ℤ) → IfSome (lanewise_of op) (λ l. divides_by_0 op y ≡ false)
divides_not Add y = refl
divides_not Sub y = refl
divides_not Mul y = refl
divides_not Div y = tt
divides_not Rem y = tt
divides_not And y = refl
divides_not Or y = refl
divides_not Xor y = refl
divides_not Shl y = refl
divides_not Shr y = refl
divides_not Eq y = refl
divides_not Ne y = refl
divides_not Lt y = refl
divides_not Le y = refl
