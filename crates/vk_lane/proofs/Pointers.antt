-- Pointers and their words.
use Rattle.std.proofs.Common.{arith, rules, sym, ◌≡◌, ℕ, zero, suc, ◌+◌, ◌-◌, ◌*◌, ◌/◌, ◌%◌, ◌<◌, ◌≤◌, ◌^◌, nat_lt, Bool, true, false, cond, ◌&&◌, List, [], ◌∷◌, map, Some, None, refl, subst, ap, ap₂, ◌∙◌, ◌⊎◌, inl, inr, ℤ, pos, negsuc, ◌+ℤ◌, ◌≤ℤ◌, FitsSigned, true≢false, w32}
use Rattle.std.specs.Prelude.{slice_get, int_le, unsigned_abs}
use Rattle.std.specs.Int.{cast_signed, int_rem_euclid, int_wrap}
use Rattle.std.specs.Option.{option_map}
use Rattle.std.proofs.lemmas.Option.{slice_get-map}
use Rattle.std.proofs.lemmas.Int.{to_z_pos, int_wrap_fits, ints}
use Rattle.std.proofs.lemmas.Bool.{cases_lt}
use Rattle.std.proofs.Math.Facts.{to_z-neg}
use Rattle.std.proofs.Math.Nat.{mod-lt}
use Rattle.vk_types.specs.declared.types.Ty.{Ty}
use Rattle.vk_kinds.specs.declared.heads.CType.TheVariants.{Ptr}
use Rattle.vk_meaning.specs.World.{Array, array_at, no_array}
use Rattle.vk_meaning.specs.Data.{element_at, fits_offset, named_element, pointer}
use Rattle.vk_meaning.specs.Lanes.{datum_of}
use Rattle.vk_object.specs.Memory.{at_offset, cell_in, cell_of, moved as word_moved, offset_of}
use Rattle.vk_lane.specs.Places.{extent_of}
use Rattle.vk_lane.specs.Cells.{cell_as}

upper_half : (n : ℕ) → n < 2 ^ 32 → 2 ^ 31 ≤ n → cast_signed w32 n ≡ negsuc (2 ^ 32 - suc n)
upper_half n below past =
    let back : 2 ^ 32 - suc (2 ^ 32 - suc n) ≡ n = omega arith in
    ap (cast_signed w32) (sym back) ∙ to_z-neg w32 (2 ^ 32 - suc n) (omega arith)

extent_at : (arrays : List Array) (a : ℕ) → ((slice_get arrays a ≡ None) × (array_at arrays a ≡ no_array)) ⊎ (slice_get arrays a ≡ Some (array_at arrays a))
extent_at [] zero = inl (refl, refl)
extent_at [] (suc a) = inl (refl, refl)
extent_at (x ∷ xs) zero = inr refl
extent_at (x ∷ xs) (suc a) = extent_at xs a

lt_yes : (a b : ℕ) → a < b → nat_lt a b ≡ true
lt_yes a b h = grind (arith, h)

lt_no : (a b : ℕ) → b ≤ a → nat_lt a b ≡ false
lt_no a b h = grind (arith, h)

pub same_cell : (arrays : List Array) (to : Ty) (w : Bool) (p : ℕ) → cell_of (map extent_of arrays) p ≡ cell_as arrays (datum_of (Ptr to w) p) (named_element arrays (datum_of (Ptr to w) p))
same_cell arrays to w p = ap (cell_in p) (slice_get-map extent_of arrays (p / 2 ^ 32)) ∙ go (extent_at arrays (p / 2 ^ 32))
  where
    a : ℕ
    a = p / 2 ^ 32

    o : ℕ
    o = p % 2 ^ 32

    small : o < 2 ^ 32
    small = mod-lt p (omega arith)

    x : Array
    x = array_at arrays a

    here : (r : ℕ) → o ≡ r → cond (nat_lt o (2 ^ 31) && nat_lt o x.length) (Some (record { array = a; index = o; ty = x.ty })) None ≡ cell_as arrays (pointer a (cast_signed w32 o)) (element_at x.length (cast_signed w32 o))
    here r e = at (cases_lt o (2 ^ 31))
      where
        at : (o < 2 ^ 31) ⊎ (2 ^ 31 ≤ o) → cond (nat_lt o (2 ^ 31) && nat_lt o x.length) (Some (record { array = a; index = o; ty = x.ty })) None ≡ cell_as arrays (pointer a (cast_signed w32 o)) (element_at x.length (cast_signed w32 o))
        at (inl l) = ap (λ b. cond (b && nat_lt o x.length) (Some (record { array = a; index = o; ty = x.ty })) None) (lt_yes o (2 ^ 31) l)
            ∙ (cut (nat_lt o x.length) ∙ ap (λ z. cell_as arrays (pointer a z) (element_at x.length z)) (sym (to_z_pos w32 o l)))
          where
            cut : (b : Bool) → cond b (Some (record { array = a; index = o; ty = x.ty })) None ≡ cell_as arrays (pointer a (pos o)) (cond b (Some o) None)
            cut true = refl
            cut false = refl
        at (inr g) = ap (λ b. cond (b && nat_lt o x.length) (Some (record { array = a; index = o; ty = x.ty })) None) (lt_no o (2 ^ 31) g)
            ∙ ap (λ z. cell_as arrays (pointer a z) (element_at x.length z)) (sym (upper_half o small g))

    none : (z : ℤ) → element_at 0 z ≡ None
    none (pos n) = ap (λ b. cond b (Some n) None) (lt_no n 0 (omega arith))
    none (negsuc n) = refl

    go : ((slice_get arrays a ≡ None) × (x ≡ no_array)) ⊎ (slice_get arrays a ≡ Some x) → cell_in p (option_map extent_of (slice_get arrays a)) ≡ cell_as arrays (pointer a (cast_signed w32 o)) (element_at x.length (cast_signed w32 o))
    go (inl e) = ap (λ q. cell_in p (option_map extent_of q)) e.0 ∙ ap (cell_as arrays (pointer a (cast_signed w32 o))) (sym (ap (λ y. element_at y.length (cast_signed w32 o)) e.1 ∙ none (cast_signed w32 o)))
    go (inr e) = ap (λ q. cell_in p (option_map extent_of q)) e ∙ here o refl

-- ---- moved pointers

le_of : (a b : ℤ) → int_le a b ≡ true → a ≤ℤ b
le_of a b e = first_of (search rules, grind (arith, ints), omega (arith, ints))

fits_word : (z : ℤ) → negsuc 2147483647 ≤ℤ z → z ≤ℤ pos 2147483647 → FitsSigned w32 z
fits_word z l h = search rules

both_true : (a b : Bool) → (a && b) ≡ true → (a ≡ true) × (b ≡ true)
both_true true b e = (refl, e)
both_true false b e = absurd (true≢false (sym e))

div_part : (a r : ℕ) → r < 2 ^ 32 → (a * 2 ^ 32 + r) / 2 ^ 32 ≡ a
div_part a r h = omega arith

mod_part : (a r : ℕ) → r < 2 ^ 32 → (a * 2 ^ 32 + r) % 2 ^ 32 ≡ r
mod_part a r h = omega arith

rem_small : (z : ℤ) → unsigned_abs (int_rem_euclid z (pos (2 ^ 32))) < 2 ^ 32
rem_small (pos a) = mod-lt a (omega arith)
rem_small (negsuc a) = omega arith

wrap_is : (z : ℤ) → int_wrap w32 z ≡ cast_signed w32 (unsigned_abs (int_rem_euclid z (pos (2 ^ 32))))
unfolding int_wrap
wrap_is z = refl

-- a pointer whose offset was changed, as its word has it
pub moved_word : (to : Ty) (w : Bool) (p : ℕ) (o : ℤ) → fits_offset o ≡ true → datum_of (Ptr to w) (at_offset p o) ≡ pointer (p / 2 ^ 32) o
moved_word to w p o f =
    let q = both_true (int_le (negsuc 2147483647) o) (int_le o (pos 2147483647)) f in
    ap₂ pointer (div_part (p / 2 ^ 32) (unsigned_abs (int_rem_euclid o (pos (2 ^ 32)))) (rem_small o))
    (ap (cast_signed w32) (mod_part (p / 2 ^ 32) (unsigned_abs (int_rem_euclid o (pos (2 ^ 32)))) (rem_small o))
    ∙ (sym (wrap_is o) ∙ int_wrap_fits w32 o (fits_word o (le_of _ _ q.0) (le_of _ _ q.1))))

below_64 : (a r : ℕ) → a < 2 ^ 64 → r < 2 ^ 32 → a / 2 ^ 32 * 2 ^ 32 + r < 2 ^ 64
below_64 a r h l = omega arith

-- it is a word again
pub offset_word : (p : ℕ) (o : ℤ) → p < 2 ^ 64 → at_offset p o < 2 ^ 64
offset_word p o h = below_64 p (unsigned_abs (int_rem_euclid o (pos (2 ^ 32)))) h (rem_small o)

pub step_word : (p : ℕ) (z : ℤ) (w : ℕ) → p < 2 ^ 64 → word_moved p z ≡ Some w → w < 2 ^ 64
step_word p z w h = go (fits_offset (offset_of p +ℤ z))
  where
    go : (b : Bool) → cond b (Some (at_offset p (offset_of p +ℤ z))) None ≡ Some w → w < 2 ^ 64
    go true e = subst (λ o. elim o as (λ _. Type 0) [ None ↦ Unit {0} | Some v ↦ v < 2 ^ 64 ]) e (offset_word p (offset_of p +ℤ z) h)
    go false e = cc
