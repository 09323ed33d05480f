-- Opposite numbers, as pointers are moved by them.
use Rattle.std.proofs.Common.{arith, rules, sym, true≢false, ◌≡◌, ◌≢◌, ℕ, suc, ◌<◌, ◌≤◌, ◌&&◌, Bool, true, false, refl, subst, ap, ◌∙◌, ◌⊎◌, inl, inr, ℤ, pos, negsuc, neg_ℤ, ◌+ℤ◌, ◌≤ℤ◌, FitsSigned, w64}
use Rattle.std.specs.Prelude.{int_le}
use Rattle.std.specs.Int.{int_wrap}
use Rattle.std.proofs.lemmas.Bool.{cases_lt}
use Rattle.std.proofs.lemmas.Int.{ints}
use Rattle.vk_types.specs.declared.types.Ty.{Ty}
use Rattle.vk_types.specs.declared.types.Ty.TheVariants.{I8, I16, I32, I64, U8, U16, U32, U64}
use Rattle.vk_types.specs.declared.types.Op1.TheVariants.{Neg}
use Rattle.vk_types.specs.Numbers.{IsInRange, wrap_number}
use Rattle.vk_types.specs.Operators.{op1_number}
use Rattle.vk_numbers.proofs.Numbers.{wrap_keeps}
use Rattle.vk_meaning.specs.World.{World}
use Rattle.vk_meaning.specs.Data.{fits_offset, moved, pointer, pointer_at}

le_of : (a b : ℤ) → int_le a b ≡ true → a ≤ℤ b
le_of a b e = first_of (search rules, grind (arith, ints), omega (arith, ints))

both_true : (a b : Bool) → (a && b) ≡ true → (a ≡ true) × (b ≡ true)
both_true true b e = (refl, e)
both_true false b e = absurd (true≢false (sym e))

one_false : (a b : Bool) → (a ≡ false) ⊎ (b ≡ false) → (a && b) ≡ false
one_false true true (inl e) = e
one_false true true (inr e) = e
one_false true false e = refl
one_false false b e = refl

not_below : (a b : ℤ) → b ≤ℤ a → a ≢ b → int_le a b ≡ false
not_below a b l n = grind (arith, ints)

record Offset (o : ℤ) : Type 0 where
  least : negsuc 2147483647 ≤ℤ o
  most : o ≤ℤ pos 2147483647

offset_of : (o : ℤ) → fits_offset o ≡ true → Offset o
offset_of o f = let q = both_true (int_le (negsuc 2147483647) o) (int_le o (pos 2147483647)) f in record { least = le_of _ _ q.0; most = le_of _ _ q.1 }

too_low : (z : ℤ) → z ≤ℤ negsuc 2147483648 → fits_offset z ≡ false
too_low z l = one_false (int_le (negsuc 2147483647) z) (int_le z (pos 2147483647)) (inl (grind (arith, ints)))

too_high : (z : ℤ) → pos 2147483648 ≤ℤ z → fits_offset z ≡ false
too_high z l = one_false (int_le (negsuc 2147483647) z) (int_le z (pos 2147483647)) (inr (grind (arith, ints)))

far_below : (o : ℤ) → Offset o → (o +ℤ negsuc 9223372036854775807) ≤ℤ negsuc 2147483648
far_below o h = let a = h.most in omega (arith, ints, a)

far_above : (o : ℤ) → Offset o → pos 2147483648 ≤ℤ (o +ℤ pos 9223372036854775808)
far_above o h = let a = h.least in omega (arith, ints, a)

stops_both : (array : ℕ) (o y z : ℤ) (w : World) → fits_offset (o +ℤ y) ≡ false → fits_offset (o +ℤ z) ≡ false → moved (pointer array o) y w ≡ moved (pointer array o) z w
stops_both array o y z w e f = ap (λ b. pointer_at b array (o +ℤ y) w) e ∙ sym (ap (λ b. pointer_at b array (o +ℤ z) w) f)

least_wraps : wrap_number I64 (pos 9223372036854775808) ≡ negsuc 9223372036854775807
unfolding int_wrap
least_wraps = refl

-- the opposite of a long, as a long
long_turned : (z : ℤ) → FitsSigned w64 z → (array : ℕ) (o : ℤ) → fits_offset o ≡ true → (w : World) → moved (pointer array o) (wrap_number I64 (neg_ℤ z)) w ≡ moved (pointer array o) (neg_ℤ z) w
long_turned z h array o f w = go z h (cases_lt (suc (below z)) 9223372036854775808)
  where
    below : ℤ → ℕ
    below (pos n) = 0
    below (negsuc n) = n

    fits : (z : ℤ) → FitsSigned w64 z → suc (below z) < 9223372036854775808 → FitsSigned w64 (neg_ℤ z)
    fits (pos n) h l = search (rules, arith, ints)
    fits (negsuc n) h l = search (rules, arith, ints)

    go : (z : ℤ) → FitsSigned w64 z → (suc (below z) < 9223372036854775808) ⊎ (9223372036854775808 ≤ suc (below z)) → moved (pointer array o) (wrap_number I64 (neg_ℤ z)) w ≡ moved (pointer array o) (neg_ℤ z) w
    go z h (inl l) = ap (λ y. moved (pointer array o) y w) (wrap_keeps I64 (neg_ℤ z) (fits z h l))
    go (pos n) h (inr g) = absurd (omega (arith, g))
    go (negsuc n) h (inr g) =
        let e : 9223372036854775807 ≡ n = omega (arith, g, h.sfits) in
        subst (λ m. moved (pointer array o) (wrap_number I64 (pos (suc m))) w ≡ moved (pointer array o) (pos (suc m)) w) e
        (stops_both array o (wrap_number I64 (pos 9223372036854775808)) (pos 9223372036854775808) w
        (ap (λ y. fits_offset (o +ℤ y)) least_wraps ∙ too_low _ (far_below o (offset_of o f))) (too_high _ (far_above o (offset_of o f))))

in_long : (t : Ty) (z : ℤ) → t ≢ U64 → IsInRange t z → FitsSigned w64 z
in_long I8 z n h = search (rules, arith, ints)
in_long I16 z n h = search (rules, arith, ints)
in_long I32 z n h = search (rules, arith, ints)
in_long I64 z n h = h
in_long U8 z n h = search (rules, arith, ints)
in_long U16 z n h = search (rules, arith, ints)
in_long U32 z n h = search (rules, arith, ints)
in_long U64 z n h = absurd (n refl)

pub narrow_turned : (t : Ty) → t ≢ U64 → (z : ℤ) → IsInRange t z → (array : ℕ) (o : ℤ) → fits_offset o ≡ true → (w : World) →
    moved (pointer array o) (op1_number Neg I64 (wrap_number I64 z)) w ≡ moved (pointer array o) (neg_ℤ z) w
narrow_turned t ne z h array o f w = let l = in_long t z ne h in
    ap (λ y. moved (pointer array o) (wrap_number I64 (neg_ℤ y)) w) (wrap_keeps I64 z l) ∙ long_turned z l array o f w
