-- What a load and a store do with the rows of some arrays.
use Rattle.std.proofs.Common.{◌≡◌, ℕ, zero, suc, nat_lt, Bool, true, false, cond, List, [], ◌∷◌, length, Option, Some, None, slice_get, ℤ, pos, negsuc, refl, subst, sym, ap, arith, rules, ◌∙◌}
use Rattle.vk_types.specs.declared.types.Ty.{Ty}
use Rattle.vk_types.specs.declared.types.Word.{Word}
use Rattle.vk_types.specs.declared.types.Stop.TheVariants.{Bounds}
use Rattle.vk_types.specs.Numbers.{number_of, wrap_number}
use Rattle.vk_meaning.specs.World.{Array, array_at, Event, World}
use Rattle.vk_meaning.specs.Data.{number, pointer, got, halts, at_element, loaded}
use Rattle.vk_reading.specs.declared.cells.Row.{Row}
use Rattle.vk_reading.specs.Cells.{word_in, cell_in, memory_in, IsRowOf, AreRowsOf, word_at}

abbrev in_rows : List Row → List Event → World
in_rows rows events = record { memory = memory_in rows; events = events }

-- a word that is there is below the length
found_below : (words : List Word) (n : ℕ) (w : Word) → slice_get words n ≡ Some w → nat_lt n (length words) ≡ true
found_below [] n w e = cc
found_below (x ∷ xs) zero w e = search rules
found_below (x ∷ xs) (suc n) w e = let h : nat_lt n (length xs) ≡ true = found_below xs n w e in grind (arith, h)

none_above : (words : List Word) (n : ℕ) → slice_get words n ≡ None → nat_lt n (length words) ≡ false
none_above [] n e = search rules
none_above (x ∷ xs) zero e = cc
none_above (x ∷ xs) (suc n) e = let h : nat_lt n (length xs) ≡ false = none_above xs n e in grind (arith, h)

pub loads : (rows : List Row) (arrays : List Array) (events : List Event) (t : Ty) (a : ℕ) (o : ℤ) (r : Row) (w : Word) → AreRowsOf rows arrays → slice_get rows a ≡ Some r → word_at r.words.items o ≡ Some w →
    got (number (wrap_number t (number_of r.ty w.0))) (in_rows rows events) ≡ loaded arrays t (pointer a o) (in_rows rows events)
loads rows arrays events t a (negsuc n) r w shape e f = cc
loads rows arrays events t a (pos n) r w shape e f =
    let s : (r.ty ≡ (array_at arrays a).ty) × (length r.words.items ≡ (array_at arrays a).length) = subst (λ (x : Option Row). IsRowOf x (array_at arrays a)) e (shape a) in
    let below : nat_lt n (array_at arrays a).length ≡ true = subst (λ (k : ℕ). nat_lt n k ≡ true) s.1 (found_below r.words.items n w f) in
    let cell : memory_in rows a n ≡ w.0 = ap (λ (x : Option Row). cell_in x n) e ∙ ap word_in f in
    subst (λ (b : Bool). got (number (wrap_number t (number_of r.ty w.0))) (in_rows rows events)
    ≡ at_element (cond b (Some n) None) (λ index u. got (number (wrap_number t (number_of (array_at arrays a).ty (u.memory a index)))) u) (in_rows rows events)) (sym below)
    (λ i. got (number (wrap_number t (number_of (s.0 i) (sym cell i)))) (in_rows rows events))

pub no_row : (rows : List Row) (arrays : List Array) (events : List Event) (t : Ty) (a : ℕ) (o : ℤ) → AreRowsOf rows arrays → slice_get rows a ≡ None →
    halts Bounds (in_rows rows events) ≡ loaded arrays t (pointer a o) (in_rows rows events)
no_row rows arrays events t a (negsuc n) shape e = refl
no_row rows arrays events t a (pos n) shape e =
    let s : (array_at arrays a).length ≡ 0 = subst (λ (x : Option Row). IsRowOf x (array_at arrays a)) e (shape a) in
    let above : nat_lt n (array_at arrays a).length ≡ false = ap (nat_lt n) s ∙ none_below n in
    subst (λ (b : Bool). halts Bounds (in_rows rows events)
    ≡ at_element (cond b (Some n) None) (λ index u. got (number (wrap_number t (number_of (array_at arrays a).ty (u.memory a index)))) u) (in_rows rows events)) (sym above) refl
  where
    none_below : (n : ℕ) → nat_lt n 0 ≡ false
    none_below n = search rules

pub no_word : (rows : List Row) (arrays : List Array) (events : List Event) (t : Ty) (a : ℕ) (o : ℤ) (r : Row) → AreRowsOf rows arrays → slice_get rows a ≡ Some r → word_at r.words.items o ≡ None →
    halts Bounds (in_rows rows events) ≡ loaded arrays t (pointer a o) (in_rows rows events)
no_word rows arrays events t a (negsuc n) r shape e f = refl
no_word rows arrays events t a (pos n) r shape e f =
    let s : (r.ty ≡ (array_at arrays a).ty) × (length r.words.items ≡ (array_at arrays a).length) = subst (λ (x : Option Row). IsRowOf x (array_at arrays a)) e (shape a) in
    let above : nat_lt n (array_at arrays a).length ≡ false = ap (nat_lt n) (sym s.1) ∙ none_above r.words.items n f in
    subst (λ (b : Bool). halts Bounds (in_rows rows events)
    ≡ at_element (cond b (Some n) None) (λ index u. got (number (wrap_number t (number_of (array_at arrays a).ty (u.memory a index)))) u) (in_rows rows events)) (sym above) refl
