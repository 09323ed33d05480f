-- The arrays of a program with a valid image are few enough for words of pointers.
use Rattle.std.proofs.Common.{◌≡◌, ◌≤◌, ◌^◌, ◌+◌, ℕ, suc, ℤ, pos, Bool, true, false, cond, ◌&&◌, nat_le, int_le, unsigned_abs, List, [], ◌∷◌, ◌++◌, map, flat_map, filter_map, length, sum, unwrap_or, Option, Some, None, refl, sym, ap, subst, ◌∙◌, arith}
use Rattle.std.specs.List.{cons_option}
use Rattle.std.specs.Ordering.{is_le, nat_cmp}
use Rattle.std.specs.Cmp.Lexicographic.{slice_cmp}
use Rattle.std.specs.Option.{option_and_then}
use Rattle.std.proofs.lemmas.Bool.Decides.{nat_tests}
use Rattle.std.proofs.lemmas.Simd.{map-map}
use Rattle.std.proofs.lemmas.List.Sums.{sum_by-cons}
use Rattle.vk_ast.specs.Tree.{Tree}
use Rattle.vk_ast.specs.Units.{ItemTree, ObjectTree, function, object, lost_line}
use Rattle.vk_numbers.specs.Constants.{constant_of, number_to}
use Rattle.vk_rules_book.specs.Items.{given_length, length_of}
use Rattle.vk_rules_book.specs.Rules.{Subject}
use Rattle.vk_meaning.specs.World.{Array}
use Rattle.vk_meaning.specs.Programs.{array_defined, array_of_object, arrays_of, in_order, put_in}
use Rattle.vk_object.specs.Images.{cells_of, chain_cells, entry_numbers, greatest, is_image}
use Rattle.vk_object.specs.Tables.{ArrayLists, Tables}
use Rattle.vk_joins.specs.Carries.{HasArraysOf}
use Rattle.vk_joins.specs.Joins.{array_of_row}
use Rattle.vk_joins.specs.Tables.{trimmed_array}
use Rattle.vk_joins_laws.proofs.Lists.{both_second}

-- ---- an array has an element

abbrev IsSome : Option ℕ → Type 0
IsSome None = Unit {0}
IsSome (Some n) = 1 ≤ n

number_some : (limit : ℕ) (z : ℤ) → IsSome (number_to limit z)
number_some limit z = at (int_le (pos 1) z) (int_le z (pos limit)) (λ h. positive z h)
  where
    positive : (z : ℤ) → int_le (pos 1) z ≡ true → 1 ≤ unsigned_abs z
    positive z h = grind (arith, nat_tests)

    at : (a b : Bool) → (a ≡ true → 1 ≤ unsigned_abs z) → IsSome (cond (a && b) (Some (unsigned_abs z)) None)
    at true true h = h refl
    at true false h = tt
    at false b h = tt

constant_some : (limit : ℕ) (c : Option ℤ) → IsSome (option_and_then (number_to limit) c)
constant_some limit None = tt
constant_some limit (Some z) = number_some limit z

given_some : (g : Option Tree) (init : Option (List Tree)) (braced : Bool) → IsSome (given_length g init braced)
given_some (Some e) init braced = constant_some 16777216 (constant_of e)
given_some None None braced = tt
given_some None (Some es) false = tt
given_some None (Some es) true = at (nat_le 1 (length es)) (nat_le (length es) 16777216) (λ h. counted (length es) h)
  where
    counted : (n : ℕ) → nat_le 1 n ≡ true → 1 ≤ n
    counted n h = grind (arith, nat_tests)

    at : (a b : Bool) → (a ≡ true → 1 ≤ length es) → IsSome (cond (a && b) (Some (length es)) None)
    at true true h = h refl
    at true false h = tt
    at false b h = tt

length_some : (o : ObjectTree) → IsSome (length_of o)
unfolding length_of
length_some o = at o.array
  where
    at : (a : Option (Option Tree)) → IsSome (option_and_then (λ (g : Option Tree). given_length g o.init o.braced) a)
    at None = tt
    at (Some g) = given_some g o.init o.braced

object_some : (u : Subject) (o : ObjectTree) → 1 ≤ (array_of_object u o).length
object_some u o = at (length_of o) (length_some o)
  where
    at : (n : Option ℕ) → IsSome n → 1 ≤ unwrap_or n 1
    at None h = omega arith
    at (Some n) h = h

-- ---- so has each of a program

Each : List Array → Type 0
Each [] = Unit {0}
Each (a ∷ arrays) = (1 ≤ a.length) × Each arrays

each_put : (a : Array) (bs : List Array) → 1 ≤ a.length → Each bs → Each (put_in a bs)
unfolding Each
each_put a [] h k = (h, tt)
each_put a (b ∷ bs) h k = at (is_le (slice_cmp nat_cmp a.text b.text)) (each_put a bs h k.1)
  where
    at : (c : Bool) → Each (put_in a bs) → Each (cond c (a ∷ b ∷ bs) (b ∷ put_in a bs))
    at true r = (h, k)
    at false r = (k.0, r)

each_order : (xs : List Array) → Each xs → Each (in_order xs)
unfolding Each
each_order [] h = tt
each_order (x ∷ xs) h = each_put x (in_order xs) h.0 (each_order xs h.1)

each_both : (xs ys : List Array) → Each xs → Each ys → Each (xs ++ ys)
unfolding Each
each_both [] ys h k = k
each_both (x ∷ xs) ys h k = (h.0, each_both xs ys h.1 k)

each_item : (u : Subject) (items : List ItemTree) → Each (filter_map (array_defined u) items)
unfolding Each
each_item u [] = tt
each_item u (function f ∷ items) = each_item u items
each_item u (lost_line l ∷ items) = each_item u items
each_item u (object o ∷ items) = at o.outside (each_item u items)
  where
    at : (b : Bool) → Each (filter_map (array_defined u) items) → Each (cons_option (cond b None (Some (array_of_object u o))) (filter_map (array_defined u) items))
    at true r = r
    at false r = (object_some u o, r)

each_unit : (units : List Subject) → Each (flat_map (λ (u : Subject). filter_map (array_defined u) u.items) units)
unfolding Each
each_unit [] = tt
each_unit (u ∷ units) = each_both (filter_map (array_defined u) u.items) (flat_map (λ (v : Subject). filter_map (array_defined v) v.items) units) (each_item u u.items) (each_unit units)

-- ---- so they are no more than their elements

abbrev lengths_in : List Array → List ℕ
lengths_in arrays = map (λ (x : Array). x.length) arrays

at_most : (arrays : List Array) → Each arrays → length arrays ≤ sum (lengths_in arrays)
unfolding Each
at_most [] h = omega arith
at_most (a ∷ arrays) h =
    subst (λ (n : ℕ). length (a ∷ arrays) ≤ n) (sym (sum_by-cons (λ (z : ℕ). z) a.length (lengths_in arrays)))
    (more (length arrays) a.length (sum (lengths_in arrays)) h.0 (at_most arrays h.1))
  where
    more : (n l s : ℕ) → 1 ≤ l → n ≤ s → suc n ≤ l + s
    more n l s h k = omega (arith, h, k)

image_small : (image : Tables) → is_image image ≡ true → sum (map (λ (r : ArrayLists). r.length) image.arrays) ≤ 33554432
image_small image h = within (sum (map (λ (r : ArrayLists). r.length) image.arrays)) (greatest (map (chain_cells image 64) (entry_numbers image))) (both_second _ (nat_le (cells_of image) 33554432) h)
  where
    within : (m n : ℕ) → nat_le (m + n) 33554432 ≡ true → m ≤ 33554432
    within m n k = grind (arith, nat_tests)

same_sum : (image : Tables) (units : List Subject) → HasArraysOf image units → sum (map (λ (r : ArrayLists). r.length) image.arrays) ≡ sum (lengths_in (arrays_of units))
same_sum image units e =
    sym (ap sum (map-map (λ (x : Array). x.length) array_of_row image.arrays)) ∙
    (ap (λ (xs : List Array). sum (lengths_in xs)) e ∙ ap sum (map-map (λ (x : Array). x.length) trimmed_array (arrays_of units)))

-- THE NUMBER of arrays
pub arrays_few : (image : Tables) (units : List Subject) → is_image image ≡ true → HasArraysOf image units → length (arrays_of units) ≤ 2 ^ 31
arrays_few image units valid e =
    far (length (arrays_of units)) (sum (lengths_in (arrays_of units))) (at_most (arrays_of units) (each_order (flat_map (λ (u : Subject). filter_map (array_defined u) u.items) units) (each_unit units)))
    (subst (λ (n : ℕ). n ≤ 33554432) (same_sum image units e) (image_small image valid))
  where
    far : (k n : ℕ) → k ≤ n → n ≤ 33554432 → k ≤ 2 ^ 31
    far k n h m = omega (arith, h, m)
