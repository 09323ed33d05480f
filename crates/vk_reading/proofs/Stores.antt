-- What a store does with the rows of some arrays.
use Rattle.std.proofs.Common.{◌≡◌, ◌<◌, ◌&&◌, ◌==◌, ℕ, zero, suc, nat_lt, Bool, true, false, cond, List, [], ◌∷◌, length, Option, Some, None, Result, Ok, Err, slice_get, slice_set, get_or, ℤ, pos, negsuc, refl, subst, sym, ap, arith, rules, ◌∙◌}
use Rattle.vk_types.specs.declared.types.Ty.{Ty}
use Rattle.vk_types.specs.declared.types.Word.{Word}
use Rattle.std.proofs.lemmas.List.{length-set}
use Rattle.std.proofs.lemmas.Option.{slice_get-get_or}
use Rattle.vk_types.specs.declared.types.Stop.{Stop}
use Rattle.vk_types.specs.declared.types.Stop.TheVariants.{Bounds}
use Rattle.vk_types.specs.Numbers.{number_of, word_of, wrap_number, IsCanonical}
use Rattle.vk_numbers.proofs.Numbers.{word_of-number}
use Rattle.vk_meaning.specs.World.{Array, array_at, Event, World, with_cell, in_memory}
use Rattle.vk_meaning.specs.Data.{pointer, nothing, Value, got, halts, at_element, stored}
use Rattle.vk_reading.specs.declared.cells.Row.{Row}
use Rattle.vk_reading.specs.Cells.{word_in, cell_in, memory_in, IsRowOf, AreRowsOf, HaveWords, put_at, ArePut, done_in}

abbrev in_rows : List Row → List Event → World
in_rows rows events = record { memory = memory_in rows; events = events }

same_number : (a b : ℕ) → (a == b) ≡ true → a ≡ b
same_number a b e = grind arith

lt_suc : (k n : ℕ) → nat_lt (suc k) (suc n) ≡ nat_lt k n
lt_suc k n = search rules

same_suc : (j k : ℕ) → (suc j == suc k) ≡ (j == k)
same_suc j k = search rules

not_below_zero : (k : ℕ) → nat_lt k 0 ≡ false
not_below_zero k = search rules

-- what stands in a list where one item was set
get_set : {X : Type 0} (xs : List X) (k : ℕ) (x : X) (j : ℕ) → nat_lt k (length xs) ≡ true → slice_get (slice_set xs k x) j ≡ cond (j == k) (Some x) (slice_get xs j)
get_set [] k x j e = let f : nat_lt k 0 ≡ false = not_below_zero k in cc
get_set (y ∷ ys) zero x zero e = refl
get_set (y ∷ ys) zero x (suc j) e = search rules
get_set (y ∷ ys) (suc k) x zero e = search rules
get_set {X = X} (y ∷ ys) (suc k) x (suc j) e =
    get_set ys k x j (sym (lt_suc k (length ys)) ∙ e) ∙ ap (λ (b : Bool). cond b (Some x) (slice_get ys j)) (sym (same_suc j k))

get_below : {X : Type 0} (xs : List X) (k : ℕ) (x : X) → slice_get xs k ≡ Some x → nat_lt k (length xs) ≡ true
get_below [] k x e = cc
get_below (y ∷ ys) zero x e = search rules
get_below (y ∷ ys) (suc k) x e = lt_suc k (length ys) ∙ get_below ys k x e

row_set : (rows : List Row) (a : ℕ) (r r' : Row) → slice_get rows a ≡ Some r → (b : ℕ) → slice_get (slice_set rows a r') b ≡ cond (b == a) (Some r') (slice_get rows b)
row_set rows a r r' e b = get_set rows a r' b (get_below rows a r e)

-- rows that have the same words are the same memory
same_memory : (rows : List Row) (a : ℕ) (r r' : Row) → slice_get rows a ≡ Some r → r'.words.items ≡ r.words.items → memory_in (slice_set rows a r') ≡ memory_in rows
same_memory rows a r r' e same = λ i b k. at b k i
  where
    cell : (b k : ℕ) (q : Bool) → (b == a) ≡ q → cell_in (cond q (Some r') (slice_get rows b)) k ≡ memory_in rows b k
    cell b k true f =
        ap (λ (ws : List Word). word_in (slice_get ws k)) same
        ∙ (ap (λ (x : Option Row). cell_in x k) (sym e) ∙ ap (λ (n : ℕ). memory_in rows n k) (sym (same_number b a f)))
    cell b k false f = refl

    at : (b k : ℕ) → memory_in (slice_set rows a r') b k ≡ memory_in rows b k
    at b k = ap (λ (x : Option Row). cell_in x k) (row_set rows a r r' e b) ∙ cell b k (b == a) refl

-- a word that is put into a row is put into memory
put_memory : (rows : List Row) (a n : ℕ) (w : Word) (r r' : Row) → slice_get rows a ≡ Some r → nat_lt n (length r.words.items) ≡ true → r'.words.items ≡ slice_set r.words.items n w →
    memory_in (slice_set rows a r') ≡ with_cell (memory_in rows) a n w.0
put_memory rows a n w r r' e below same = λ i b k. at b k i
  where
    word : (k : ℕ) (q : Bool) → (k == n) ≡ q → word_in (cond q (Some w) (slice_get r.words.items k)) ≡ cond q w.0 (word_in (slice_get r.words.items k))
    word k true f = refl
    word k false f = refl

    cell : (b k : ℕ) (q : Bool) → (b == a) ≡ q → cell_in (cond q (Some r') (slice_get rows b)) k ≡ cond (q && (k == n)) w.0 (memory_in rows b k)
    cell b k true f =
        ap (λ (ws : List Word). word_in (slice_get ws k)) same
        ∙ (ap word_in (get_set r.words.items n w k below)
        ∙ (word k (k == n) refl
        ∙ ap (cond (k == n) w.0) (ap (λ (x : Option Row). cell_in x k) (sym e) ∙ ap (λ (m : ℕ). memory_in rows m k) (sym (same_number b a f)))))
    cell b k false f = refl

    at : (b k : ℕ) → memory_in (slice_set rows a r') b k ≡ with_cell (memory_in rows) a n w.0 b k
    at b k = ap (λ (x : Option Row). cell_in x k) (row_set rows a r r' e b) ∙ cell b k (b == a) refl

-- ---- stores

record IsStore (arrays : List Array) (a : ℕ) (z : ℤ) (r : Row) (w : Word) : Type 0 where
  ty : r.ty ≡ (array_at arrays a).ty
  length : length r.words.items ≡ (array_at arrays a).length
  number : number_of r.ty w.0 ≡ wrap_number r.ty z
  canonical : IsCanonical r.ty w.0

abbrev pub Storing : List Array → List Row → List Event → (a : ℕ) → ℤ → ℕ → World → Value
Storing arrays rows events a z index u = got nothing (in_memory u (with_cell u.memory a index (word_of (wrap_number (array_at arrays a).ty z))))

stored_at : (rows : List Row) (arrays : List Array) (events : List Event) (a n : ℕ) (z : ℤ) (r r' : Row) (w : Word) (result : Result (Unit {0}) Stop) → IsStore arrays a z r w → slice_get rows a ≡ Some r →
    (b : Bool) → nat_lt n (length r.words.items) ≡ b → ArePut result (cond b (Some (slice_set r.words.items n w)) None) r.words.items r'.words.items →
    done_in result (in_rows (slice_set rows a r') events) ≡ at_element (cond b (Some n) None) (Storing arrays rows events a z) (in_rows rows events)
stored_at rows arrays events a n z r r' w (Ok done) s e true below h =
    let word : w.0 ≡ word_of (wrap_number (array_at arrays a).ty z) =
    sym (word_of-number r.ty w.0 s.canonical) ∙ (ap word_of s.number ∙ ap (λ (t : Ty). word_of (wrap_number t z)) s.ty) in
    λ i. got nothing (record { memory = (put_memory rows a n w r r' e below h ∙ ap (with_cell (memory_in rows) a n) word) i; events = events })
stored_at rows arrays events a n z r r' w (Err stop) s e true below h = absurd h
stored_at rows arrays events a n z r r' w (Ok done) s e false below h = absurd h
stored_at rows arrays events a n z r r' w (Err stop) s e false below h = λ i. halts (h.0 i) (record { memory = same_memory rows a r r' e h.1 i; events = events })

pub stores : (rows : List Row) (arrays : List Array) (events : List Event) (a : ℕ) (o z : ℤ) (r r' : Row) (w : Word) (result : Result (Unit {0}) Stop) → AreRowsOf rows arrays → slice_get rows a ≡ Some r →
    IsCanonical r.ty w.0 → number_of r.ty w.0 ≡ wrap_number r.ty z → ArePut result (put_at r.words.items o w) r.words.items r'.words.items →
    done_in result (in_rows (slice_set rows a r') events) ≡ stored arrays (pointer a o) z (in_rows rows events)
stores rows arrays events a (negsuc n) z r r' w (Ok done) shape e c f h = absurd h
stores rows arrays events a (negsuc n) z r r' w (Err stop) shape e c f h = λ i. halts (h.0 i) (record { memory = same_memory rows a r r' e h.1 i; events = events })
stores rows arrays events a (pos n) z r r' w result shape e c f h =
    let s : (r.ty ≡ (array_at arrays a).ty) × (length r.words.items ≡ (array_at arrays a).length) = subst (λ (x : Option Row). IsRowOf x (array_at arrays a)) e (shape a) in
    stored_at rows arrays events a n z r r' w result (record { ty = s.0; length = s.1; number = f; canonical = c }) e (nat_lt n (length r.words.items)) refl h
    ∙ ap (λ (k : ℕ). at_element (cond (nat_lt n k) (Some n) None) (Storing arrays rows events a z) (in_rows rows events)) s.1

-- there is no such row
pub no_store : (rows : List Row) (arrays : List Array) (events : List Event) (a : ℕ) (o z : ℤ) → AreRowsOf rows arrays → slice_get rows a ≡ None →
    halts Bounds (in_rows rows events) ≡ stored arrays (pointer a o) z (in_rows rows events)
no_store rows arrays events a (negsuc n) z shape e = refl
no_store rows arrays events a (pos n) z shape e =
    let s : (array_at arrays a).length ≡ 0 = subst (λ (x : Option Row). IsRowOf x (array_at arrays a)) e (shape a) in
    ap (λ (b : Bool). at_element (cond b (Some n) None) (Storing arrays rows events a z) (in_rows rows events)) (sym (ap (nat_lt n) s ∙ not_below_zero n))

-- ---- what stays

put_length : (words words' : List Word) (o : ℤ) (w : Word) (result : Result (Unit {0}) Stop) → ArePut result (put_at words o w) words words' → length words' ≡ length words
put_length words words' (negsuc n) w (Ok done) h = absurd h
put_length words words' (negsuc n) w (Err stop) h = ap length h.1
put_length words words' (pos n) w result h = go (nat_lt n (length words)) result h
  where
    go : (b : Bool) (result : Result (Unit {0}) Stop) → ArePut result (cond b (Some (slice_set words n w)) None) words words' → length words' ≡ length words
    go true (Ok done) h = ap length h ∙ length-set words n w
    go true (Err stop) h = absurd h
    go false (Ok done) h = absurd h
    go false (Err stop) h = ap length h.1

pub rows_stay : (rows : List Row) (arrays : List Array) (a : ℕ) (o : ℤ) (r r' : Row) (w : Word) (result : Result (Unit {0}) Stop) → AreRowsOf rows arrays → slice_get rows a ≡ Some r → r'.ty ≡ r.ty →
    ArePut result (put_at r.words.items o w) r.words.items r'.words.items → AreRowsOf (slice_set rows a r') arrays
rows_stay rows arrays a o r r' w result shape e t h b = subst (λ (x : Option Row). IsRowOf x (array_at arrays b)) (sym (row_set rows a r r' e b)) (go (b == a) refl)
  where
    go : (q : Bool) → (b == a) ≡ q → IsRowOf (cond q (Some r') (slice_get rows b)) (array_at arrays b)
    go true f =
        let s : (r.ty ≡ (array_at arrays b).ty) × (length r.words.items ≡ (array_at arrays b).length) =
        subst (λ (x : Option Row). IsRowOf x (array_at arrays b)) (ap (slice_get rows) (same_number b a f) ∙ e) (shape b) in
        (t ∙ s.0, put_length r.words.items r'.words.items o w result h ∙ s.1)
    go false f = shape b

abbrev row_or : Row → Option Row → Row
row_or r None = r
row_or r (Some x) = x

-- a word of a row that another one was put into
put_canonical : (words words' : List Word) (t : Ty) (o : ℤ) (w : Word) (result : Result (Unit {0}) Stop) → ArePut result (put_at words o w) words words' → IsCanonical t w.0 →
    ((k : ℕ) (x : Word) → slice_get words k ≡ Some x → IsCanonical t x.0) → (k : ℕ) (x : Word) → slice_get words' k ≡ Some x → IsCanonical t x.0
put_canonical words words' t (negsuc n) w (Ok done) h c all k x e = absurd h
put_canonical words words' t (negsuc n) w (Err stop) h c all k x e = all k x (ap (λ (ws : List Word). slice_get ws k) (sym h.1) ∙ e)
put_canonical words words' t (pos n) w result h c all k x e = go (nat_lt n (length words)) refl result h
  where
    this : (q : Bool) → cond q (Some w) (slice_get words k) ≡ Some x → IsCanonical t x.0
    this true f = let same : w ≡ x = cc in subst (λ (y : Word). IsCanonical t y.0) same c
    this false f = all k x f

    go : (b : Bool) → nat_lt n (length words) ≡ b → (result : Result (Unit {0}) Stop) → ArePut result (cond b (Some (slice_set words n w)) None) words words' → IsCanonical t x.0
    go true f (Ok done) g = this (k == n) (sym (get_set words n w k f) ∙ (ap (λ (ws : List Word). slice_get ws k) (sym g) ∙ e))
    go true f (Err stop) g = absurd g
    go false f (Ok done) g = absurd g
    go false f (Err stop) g = all k x (ap (λ (ws : List Word). slice_get ws k) (sym g.1) ∙ e)

pub words_stay : (rows : List Row) (a : ℕ) (o : ℤ) (r r' : Row) (w : Word) (result : Result (Unit {0}) Stop) → HaveWords rows → slice_get rows a ≡ Some r → r'.ty ≡ r.ty → IsCanonical r.ty w.0 →
    ArePut result (put_at r.words.items o w) r.words.items r'.words.items → HaveWords (slice_set rows a r')
words_stay rows a o r r' w result have e t c h b k s x f g = go (b == a) refl (sym (row_set rows a r r' e b) ∙ f)
  where
    go : (q : Bool) → (b == a) ≡ q → cond q (Some r') (slice_get rows b) ≡ Some s → IsCanonical s.ty x.0
    go true same is =
        let row : r' ≡ s = ap (row_or r') is in
        subst (λ (y : Row). IsCanonical y.ty x.0) row
        (subst (λ (u : Ty). IsCanonical u x.0) (sym t)
        (put_canonical r.words.items r'.words.items r.ty o w result h c (λ n y p. have a n r y e p) k x (ap (λ (y : Row). slice_get y.words.items k) row ∙ g)))
    go false same is = have b k s x is g

pub none_at : {X : Type 0} (xs : List X) (k : ℕ) → nat_lt k (length xs) ≡ false → slice_get xs k ≡ None
none_at [] k e = search rules
none_at (x ∷ xs) zero e = let f : nat_lt 0 (length (x ∷ xs)) ≡ true = search rules in cc
none_at (x ∷ xs) (suc k) e = none_at xs k (sym (lt_suc k (length xs)) ∙ e)

pub some_at : {X : Type 0} (xs : List X) (k : ℕ) (x : X) → k < length xs → x ≡ get_or xs k x → slice_get xs k ≡ Some x
some_at xs k x h e = slice_get-get_or xs k x h ∙ ap (λ y. Some y) (sym e)
