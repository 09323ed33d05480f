-- Arrays of units and of an image that has them: they have the same numbers and the same lengths.
use Rattle.std.proofs.Common.{◌≡◌, ◌≤◌, ◌^◌, ℕ, zero, suc, ◌+◌, nat_le, nat_lt, not, cond, true, List, [], ◌∷◌, map, length, get_or, sum, unwrap_or, Some, None, bytes_eq, refl, sym, ap, subst, ◌∙◌, arith}
use Rattle.std.specs.List.{prefix_len}
use Rattle.std.proofs.lemmas.Simd.{map-map}
use Rattle.std.proofs.lemmas.Bool.Decides.{nat_tests}
use Rattle.std.proofs.lemmas.List.{length-map}
use Rattle.std.proofs.lemmas.List.Sums.{sum_by-cons}
use Rattle.vk_meaning.specs.World.{Array, array_at, no_array}
use Rattle.vk_meaning.specs.Programs.{arrays_of, array_number as number_in}
use Rattle.vk_rules_book.specs.Rules.{Subject}
use Rattle.vk_object.specs.Images.{cells_of, is_image, greatest, chain_cells, entry_numbers}
use Rattle.vk_object.specs.Tables.{ArrayLists, Tables}
use Rattle.vk_joins.specs.Carries.{HasArraysOf}
use Rattle.vk_joins.specs.Joins.{array_number, array_of_row}
use Rattle.vk_joins.specs.Tables.{trimmed_array}
use Rattle.vk_joins_laws.proofs.Lists.{both_second}

-- ---- numbers

-- the first array of another name
prefix_same : (text : List ℕ) (rows : List ArrayLists) (arrays : List Array) → map array_of_row rows ≡ map trimmed_array arrays →
    prefix_len (λ (r : ArrayLists). not (bytes_eq r.text text)) rows ≡ prefix_len (λ (a : Array). not (bytes_eq a.text text)) arrays
prefix_same text [] [] e = refl
prefix_same text [] (a ∷ arrays) e = cc
prefix_same text (r ∷ rows) [] e = cc
prefix_same text (r ∷ rows) (a ∷ arrays) e =
    (λ i. cond (not (bytes_eq (first i).text text)) (1 + prefix_same text rows arrays rest i) 0)
  where
    first : array_of_row r ≡ trimmed_array a
    first = cc

    rest : map array_of_row rows ≡ map trimmed_array arrays
    rest = cc

number_by : ℕ → ℕ → ℕ
number_by k n = unwrap_or (cond (nat_lt k n) (Some k) None) n

length_same : (rows : List ArrayLists) (arrays : List Array) → map array_of_row rows ≡ map trimmed_array arrays → length rows ≡ length arrays
length_same rows arrays e = sym (length-map rows array_of_row) ∙ (ap length e ∙ length-map arrays trimmed_array)

-- THE NUMBERS: an array has the same number on both sides
pub numbers_are : (image : Tables) (units : List Subject) → HasArraysOf image units → (text : List ℕ) → number_in (arrays_of units) text ≡ array_number image text
unfolding number_by
numbers_are image units e text =
    sym (λ i. number_by (prefix_same text image.arrays (arrays_of units) e i) (length_same image.arrays (arrays_of units) e i))

-- ---- lengths

abbrev lengths_in : List Array → List ℕ
lengths_in arrays = map (λ (x : Array). x.length) arrays

get_below : (arrays : List Array) (a : ℕ) → (get_or arrays a no_array).length ≤ sum (lengths_in arrays)
get_below [] zero = omega arith
get_below [] (suc a) = omega arith
get_below (x ∷ arrays) zero = subst (λ (n : ℕ). x.length ≤ n) (sym (sum_by-cons (λ (z : ℕ). z) x.length (lengths_in arrays))) (first x.length (sum (lengths_in arrays)))
  where
    first : (m n : ℕ) → m ≤ m + n
    first m n = omega arith
get_below (x ∷ arrays) (suc a) =
    subst (λ (n : ℕ). (get_or arrays a no_array).length ≤ n) (sym (sum_by-cons (λ (z : ℕ). z) x.length (lengths_in arrays)))
    (more (get_or arrays a no_array).length (sum (lengths_in arrays)) x.length (get_below arrays a))
  where
    more : (k n m : ℕ) → k ≤ n → k ≤ m + n
    more k n m h = omega arith

image_small : (image : Tables) → is_image image ≡ true → sum (map (λ (r : ArrayLists). r.length) image.arrays) ≤ 33554432
image_small image h = within (sum (map (λ (r : ArrayLists). r.length) image.arrays)) (greatest (map (chain_cells image 64) (entry_numbers image))) (both_second _ (nat_le (cells_of image) 33554432) h)
  where
    within : (m n : ℕ) → nat_le (m + n) 33554432 ≡ true → m ≤ 33554432
    within m n k = grind (arith, nat_tests)

same_sum : (image : Tables) (units : List Subject) → HasArraysOf image units → sum (map (λ (r : ArrayLists). r.length) image.arrays) ≡ sum (lengths_in (arrays_of units))
same_sum image units e =
    sym (ap sum (map-map (λ (x : Array). x.length) array_of_row image.arrays)) ∙
    (ap (λ (xs : List Array). sum (lengths_in xs)) e ∙ ap sum (map-map (λ (x : Array). x.length) trimmed_array (arrays_of units)))

-- THE LENGTHS: arrays are short
pub arrays_short : (image : Tables) (units : List Subject) → is_image image ≡ true → HasArraysOf image units → (a : ℕ) → (array_at (arrays_of units) a).length ≤ 2 ^ 31
arrays_short image units valid e a =
    far (array_at (arrays_of units) a).length (sum (lengths_in (arrays_of units))) (get_below (arrays_of units) a)
    (subst (λ (n : ℕ). n ≤ 33554432) (same_sum image units e) (image_small image valid))
  where
    far : (k n : ℕ) → k ≤ n → n ≤ 33554432 → k ≤ 2 ^ 31
    far k n h m = omega (arith, h, m)
