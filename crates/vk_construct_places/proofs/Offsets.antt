-- Offsets of pointers, and opposite numbers.
use Rattle.std.proofs.Common.{arith, sym, ◌≡◌, ℕ, ◌-◌, suc, ◌%◌, ◌^◌, ◌<◌, ◌≤◌, ◌&&◌, Bool, true, refl, ap, ◌∙◌, ◌⊎◌, inl, inr, ℤ, pos, negsuc, ◌+ℤ◌, ◌≤ℤ◌, w32}
use Rattle.std.specs.Prelude.{int_le}
use Rattle.std.specs.Int.{cast_signed}
use Rattle.std.proofs.lemmas.Bool.{cases_lt}
use Rattle.std.proofs.lemmas.Int.{ints, to_z_pos}
use Rattle.std.proofs.Math.Facts.{to_z-neg}
use Rattle.std.proofs.Math.Nat.{mod-lt}
use Rattle.vk_meaning.specs.World.{World}
use Rattle.vk_meaning.specs.Data.{fits_offset, got, moved, pointer, pointer_at}

at_most : (x y : ℤ) → x ≤ℤ y → int_le x y ≡ true
at_most x y h = grind (arith, ints)

both : (a b : Bool) → a ≡ true → b ≡ true → (a && b) ≡ true
both a b e f = cc

pub fits_within : (z : ℤ) → negsuc 2147483647 ≤ℤ z → z ≤ℤ pos 2147483647 → fits_offset z ≡ true
fits_within z l h = both (int_le (negsuc 2147483647) z) (int_le z (pos 2147483647)) (at_most _ _ l) (at_most _ _ h)

small : (n : ℕ) → n < 2 ^ 31 → fits_offset (pos n) ≡ true
small n l = fits_within (pos n) (omega (arith, ints)) (omega (arith, ints, l))

large : (n : ℕ) → n < 2 ^ 31 → fits_offset (negsuc n) ≡ true
large n l = fits_within (negsuc n) (omega (arith, ints, l)) (omega (arith, ints))

-- the offset in a word has 32 bits
pub word_fits : (p : ℕ) → fits_offset (cast_signed w32 (p % 2 ^ 32)) ≡ true
word_fits p = go (p % 2 ^ 32) (mod-lt p (omega arith))
  where
    negative : (n k : ℕ) → n < 2 ^ 32 → 2 ^ 31 ≤ n → k ≡ 2 ^ 32 - suc n → (2 ^ 32 - suc k ≡ n) × (k < 2 ^ 31)
    negative n k l g e = (omega (arith, l, g, e), omega (arith, l, g, e))

    go : (n : ℕ) → n < 2 ^ 32 → fits_offset (cast_signed w32 n) ≡ true
    go n l = at (cases_lt n (2 ^ 31))
      where
        at : (n < 2 ^ 31) ⊎ (2 ^ 31 ≤ n) → fits_offset (cast_signed w32 n) ≡ true
        at (inl s) = ap fits_offset (to_z_pos w32 n s) ∙ small n s
        at (inr g) =
            let k : ℕ = 2 ^ 32 - suc n in
            let f = negative n k l g refl in
            ap (λ m. fits_offset (cast_signed w32 m)) (sym f.0) ∙ (ap fits_offset (to_z-neg w32 k (omega (arith, f.1))) ∙ large k f.1)

same_place : (z : ℤ) → z +ℤ pos 0 ≡ z
same_place z = grind (arith, ints)

-- moved by 0
pub moved_nowhere : (array : ℕ) (o : ℤ) (w : World) → fits_offset o ≡ true → moved (pointer array o) (pos 0) w ≡ got (pointer array o) w
moved_nowhere array o w f = ap (λ z. pointer_at (fits_offset z) array z w) (same_place o) ∙ ap (λ b. pointer_at b array o w) f
