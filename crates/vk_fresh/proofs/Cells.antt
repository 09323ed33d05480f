-- The first words of arrays.
use Rattle.std.proofs.Common.{◌≡◌, ℕ, zero, suc, ◌+◌, ◌-◌, ◌≤◌, nat_le, true, ◌&&◌, List, [], ◌∷◌, ◌++◌, length, map, replicate, Option, Some, None, refl, ap, sym, subst, ◌∙◌, arith}
use Rattle.std.specs.List.{list_all}
use Rattle.std.specs.Prelude.{slice_get}
use Rattle.std.specs.declared.alloc.Global.{Global}
use Rattle.std.specs.declared.vec.Vec.{Vec}
use Rattle.std.proofs.lemmas.Bool.{leb-true}
use Rattle.std.proofs.lemmas.List.{length-append, length-replicate, take_all}
use Rattle.std.proofs.lemmas.Option.{none-some, same_Some}
use Rattle.vk_types.specs.declared.types.Ty.{Ty}
use Rattle.vk_types.specs.declared.types.Word.{Word}
use Rattle.vk_types.specs.Formats.{type_number}
use Rattle.vk_code.specs.Valid.{is_canonical}
use Rattle.vk_code.proofs.Faults.{and_left, and_right}
use Rattle.vk_object.specs.declared.tables.ArrayRow.{ArrayRow}
use Rattle.vk_object.specs.Images.{is_array}
use Rattle.vk_object.specs.Machine.{extent_of, first_cell, first_word}
use Rattle.vk_object.specs.Memory.{Extent}
use Rattle.vk_object.specs.Tables.{ArrayLists, array_list_of}
use Rattle.vk_object.specs.Texts.{are_given, ends_well, is_identifier, is_word_of}
use Rattle.vk_runs.proofs.Words.{zero_word}
use Rattle.vk_access.specs.Cells.{cells_in, length_in, pattern_in}
use Rattle.vk_fresh.specs.Stores.{first_words, rows_of}

-- ---- rows as lists

abbrev pattern_at : Option (List Word) → ℕ → ℕ
pattern_at None i = 0
pattern_at (Some words) i = pattern_in words i

abbrev length_at : Option (List Word) → ℕ
length_at None = 0
length_at (Some words) = length words

row_at : (rows : List (Vec Word Global)) (a i : ℕ) → cells_in rows a i ≡ pattern_at (slice_get (rows_of rows) a) i
row_at [] a i = refl
row_at (r ∷ rows) zero i = refl
row_at (r ∷ rows) (suc a) i = row_at rows a i

row_length : (rows : List (Vec Word Global)) (a : ℕ) → length_in rows a ≡ length_at (slice_get (rows_of rows) a)
row_length [] a = refl
row_length (r ∷ rows) zero = refl
row_length (r ∷ rows) (suc a) = row_length rows a

-- ---- one array

zeros : (k i : ℕ) → pattern_in (replicate k (record { 0 = 0 })) i ≡ 0
zeros zero i = refl
zeros (suc k) zero = refl
zeros (suc k) (suc i) = zeros k i

filled : (xs : List Word) (k i : ℕ) → pattern_in (xs ++ replicate k (record { 0 = 0 })) i ≡ first_word (slice_get xs i)
filled [] k i = zeros k i
filled (x ∷ xs) k zero = refl
filled (x ∷ xs) k (suc i) = filled xs k i

pub given_few : (a : ArrayLists) → is_array a ≡ true → length a.elements ≤ a.length
given_few a h =
    let given : are_given a.ty a.length a.elements ≡ true = and_right (is_identifier a.text) (are_given a.ty a.length a.elements) h in
    leb-true (length a.elements) a.length (and_left (nat_le (length a.elements) a.length) (list_all (is_word_of a.ty) a.elements) (and_left (nat_le (length a.elements) a.length && list_all (is_word_of a.ty) a.elements) (ends_well a.elements) given))

given_typed : (a : ArrayLists) → is_array a ≡ true → list_all (is_word_of a.ty) a.elements ≡ true
given_typed a h =
    let given : are_given a.ty a.length a.elements ≡ true = and_right (is_identifier a.text) (are_given a.ty a.length a.elements) h in
    and_right (nat_le (length a.elements) a.length) (list_all (is_word_of a.ty) a.elements) (and_left (nat_le (length a.elements) a.length && list_all (is_word_of a.ty) a.elements) (ends_well a.elements) given)

first_pattern : (a : ArrayLists) → is_array a ≡ true → (i : ℕ) → pattern_in (first_words a) i ≡ first_word (slice_get a.elements i)
first_pattern a h i =
    ap (λ l. pattern_in (l ++ replicate (a.length - length a.elements) (record { 0 = 0 })) i) (take_all a.length a.elements (given_few a h))
    ∙ filled a.elements (a.length - length a.elements) i

first_length : (a : ArrayLists) → is_array a ≡ true → length (first_words a) ≡ a.length
first_length a h =
    ap (λ l. length (l ++ replicate (a.length - length a.elements) (record { 0 = 0 }))) (take_all a.length a.elements (given_few a h))
    ∙ (length-append a.elements (replicate (a.length - length a.elements) (record { 0 = 0 }))
    ∙ (ap (λ n. length a.elements + n) (length-replicate (a.length - length a.elements) (record { 0 = 0 }))
    ∙ whole (length a.elements) a.length (given_few a h)))
  where
    whole : (m n : ℕ) → m ≤ n → m + (n - m) ≡ n
    whole m n l = omega (arith, l)

canonical_zero : (t : Ty) → is_canonical t 0 ≡ true
canonical_zero t = zero_word (type_number t) t refl

word_typed : (t : Ty) (xs : List Word) → list_all (is_word_of t) xs ≡ true → (i : ℕ) → is_canonical t (first_word (slice_get xs i)) ≡ true
word_typed t [] h i = canonical_zero t
word_typed t (x ∷ xs) h zero = and_left (is_word_of t x) (list_all (is_word_of t) xs) h
word_typed t (x ∷ xs) h (suc i) = word_typed t xs (and_right (is_word_of t x) (list_all (is_word_of t) xs) h) i

-- ---- all arrays

abbrev AreArrays : List ArrayRow → Type 0
AreArrays arrays = list_all is_array (map array_list_of arrays) ≡ true

here : (r : ArrayRow) (arrays : List ArrayRow) → AreArrays (r ∷ arrays) → is_array (array_list_of r) ≡ true
here r arrays h = and_left (is_array (array_list_of r)) (list_all is_array (map array_list_of arrays)) h

behind : (r : ArrayRow) (arrays : List ArrayRow) → AreArrays (r ∷ arrays) → AreArrays arrays
behind r arrays h = and_right (is_array (array_list_of r)) (list_all is_array (map array_list_of arrays)) h

abbrev all_first : List ArrayRow → List (List Word)
all_first arrays = map (λ (r : ArrayRow). first_words (array_list_of r)) arrays

patterns : (arrays : List ArrayRow) → AreArrays arrays → (a i : ℕ) → pattern_at (slice_get (all_first arrays) a) i ≡ first_cell (slice_get (map array_list_of arrays) a) i
patterns [] h a i = refl
patterns (r ∷ arrays) h zero i = first_pattern (array_list_of r) (here r arrays h) i
patterns (r ∷ arrays) h (suc a) i = patterns arrays (behind r arrays h) a i

lengths : (arrays : List ArrayRow) → AreArrays arrays → (a : ℕ) (x : Extent) → slice_get (map extent_of (map array_list_of arrays)) a ≡ Some x → length_at (slice_get (all_first arrays) a) ≡ x.length
lengths [] h a x e = absurd (none-some x e)
lengths (r ∷ arrays) h zero x e = first_length (array_list_of r) (here r arrays h) ∙ ap (λ (y : Extent). y.length) (same_Some (extent_of (array_list_of r)) x e)
lengths (r ∷ arrays) h (suc a) x e = lengths arrays (behind r arrays h) a x e

typed : (arrays : List ArrayRow) → AreArrays arrays → (a i : ℕ) (x : Extent) → slice_get (map extent_of (map array_list_of arrays)) a ≡ Some x → is_canonical x.ty (first_cell (slice_get (map array_list_of arrays) a) i) ≡ true
typed [] h a i x e = absurd (none-some x e)
typed (r ∷ arrays) h zero i x e = subst (λ (y : Extent). is_canonical y.ty (first_word (slice_get (array_list_of r).elements i)) ≡ true) (same_Some (extent_of (array_list_of r)) x e) (word_typed (array_list_of r).ty (array_list_of r).elements (given_typed (array_list_of r) (here r arrays h)) i)
typed (r ∷ arrays) h (suc a) i x e = typed arrays (behind r arrays h) a i x e

-- ---- rows of first words

pub first_cells : (rows : List (Vec Word Global)) (arrays : List ArrayRow) → rows_of rows ≡ all_first arrays → AreArrays arrays → (a i : ℕ) → cells_in rows a i ≡ first_cell (slice_get (map array_list_of arrays) a) i
first_cells rows arrays e h a i = row_at rows a i ∙ (ap (λ l. pattern_at (slice_get l a) i) e ∙ patterns arrays h a i)

pub first_lengths : (rows : List (Vec Word Global)) (arrays : List ArrayRow) → rows_of rows ≡ all_first arrays → AreArrays arrays → (a : ℕ) (x : Extent) → slice_get (map extent_of (map array_list_of arrays)) a ≡ Some x → length_in rows a ≡ x.length
first_lengths rows arrays e h a x f = row_length rows a ∙ (ap (λ l. length_at (slice_get l a)) e ∙ lengths arrays h a x f)

pub first_typed : (rows : List (Vec Word Global)) (arrays : List ArrayRow) → rows_of rows ≡ all_first arrays → AreArrays arrays → (a i : ℕ) (x : Extent) → slice_get (map extent_of (map array_list_of arrays)) a ≡ Some x → is_canonical x.ty (cells_in rows a i) ≡ true
first_typed rows arrays e h a i x f = subst (λ w. is_canonical x.ty w ≡ true) (sym (first_cells rows arrays e h a i)) (typed arrays h a i x f)
