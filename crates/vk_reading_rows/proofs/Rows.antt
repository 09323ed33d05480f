-- Rows that have the first words of arrays.
use Rattle.std.proofs.Common.{◌≡◌, ℕ, zero, suc, ◌-◌, ◌≤◌, List, [], ◌∷◌, ◌++◌, map, length, get_or, drop, take, slice_get, Some, refl, sym, ap, subst, ◌∙◌, arith, length-append}
use Rattle.std.specs.Prelude.{replicate}
use Rattle.std.proofs.lemmas.Option.{none-some, same_Some}
use Rattle.std.proofs.lemmas.List.{take_all, map-append}
use Rattle.vk_types.specs.declared.types.Word.{Word}
use Rattle.vk_types.specs.declared.types.Ty.{Ty}
use Rattle.vk_types.specs.Numbers.{IsCanonical}
use Rattle.vk_meaning.specs.World.{Array, array_at, first_memory}
use Rattle.vk_reading.specs.declared.cells.Row.{Row}
use Rattle.vk_reading.specs.Cells.{word_in, memory_in, IsRowOf, AreRowsOf, HaveWords}
use Rattle.vk_reading_rows.specs.Inner.Rows.{FirstCells, row_seen, cells_of}

abbrev is_empty : {X : Type 0} → List X → ℕ
is_empty [] = 0
is_empty (x ∷ xs) = 1

no_cons : {X A : Type 0} {x : X} {xs : List X} → x ∷ xs ≡ [] → A
no_cons e = let h : 1 ≡ 0 = ap is_empty e in absurd (omega (arith, h))

-- ---- words

word_at_place : (ws : List Word) (i : ℕ) → word_in (slice_get ws i) ≡ get_or (map (λ w. w.0) ws) i 0
word_at_place [] i = refl
word_at_place (w ∷ ws) zero = refl
word_at_place (w ∷ ws) (suc i) = word_at_place ws i

abbrev zeros : ℕ → List ℕ
zeros n = replicate n 0

zero_at : (n i : ℕ) → get_or (zeros n) i 0 ≡ 0
zero_at zero i = refl
zero_at (suc n) zero = refl
zero_at (suc n) (suc i) = zero_at n i

given_at : (given : List ℕ) (n i : ℕ) → get_or (given ++ zeros n) i 0 ≡ get_or given i 0
given_at [] n i = zero_at n i
given_at (x ∷ given) n zero = refl
given_at (x ∷ given) n (suc i) = given_at given n i

length_words : (ws : List Word) → length (map (λ w. w.0) ws) ≡ length ws
length_words [] = refl
length_words (w ∷ ws) = ap suc (length_words ws)

length_zeros : (n : ℕ) → length (zeros n) ≡ n
length_zeros zero = refl
length_zeros (suc n) = ap suc (length_zeros n)

length_cells : (given : List ℕ) (n : ℕ) → length given ≤ n → length (given ++ zeros (n - length given)) ≡ n
length_cells given n h = length-append given (zeros (n - length given)) ∙ let e = length_zeros (n - length given) in omega (arith, e, h)

zeros_of : (n : ℕ) (w : Word) → w.0 ≡ 0 → map (λ v. v.0) (replicate n w) ≡ zeros n
zeros_of zero w e = refl
zeros_of (suc n) w e = ap (λ k. k ∷ map (λ v. v.0) (replicate n w)) e ∙ ap (λ ks. 0 ∷ ks) (zeros_of n w e)

-- the words of a row: those that are given, and zeros up to its length
pub words_made : (ws new : List Word) (w : Word) (n k : ℕ) (given : List ℕ) (size : ℕ) → map (λ v. v.0) ws ≡ given → length given ≤ size → n ≡ size → w.0 ≡ 0 → k ≡ length ws →
    new ≡ take n ws ++ replicate (n - k) w → map (λ v. v.0) new ≡ given ++ zeros (size - length given)
words_made ws new w n k given size e fits is none same made =
    let many : length ws ≡ length given = sym (length_words ws) ∙ ap length e in
    let all : take n ws ≡ ws = take_all n ws (omega (arith, many, fits, is)) in
    let left : n - k ≡ size - length given = omega (arith, many, fits, is, same) in
    ap (map (λ v. v.0)) made ∙ map-append (λ (v : Word). v.0) (take n ws) (replicate (n - k) w)
    ∙ ap (λ (l : List Word). map (λ v. v.0) l ++ map (λ v. v.0) (replicate (n - k) w)) all
    ∙ ap (λ (l : List ℕ). l ++ map (λ v. v.0) (replicate (n - k) w)) e
    ∙ ap (λ (l : List ℕ). given ++ l) (zeros_of (n - k) w none ∙ ap zeros left)

-- ---- one row

one_row : (r : Row) (x : Array) → length x.given ≤ x.length → row_seen r ≡ cells_of x → IsRowOf (Some r) x
one_row r x h e = (ap (λ (c : FirstCells). c.ty) e, sym (length_words r.words.items) ∙ ap (λ (c : FirstCells). length c.words) e ∙ length_cells x.given x.length h)

one_cell : (r : Row) (x : Array) → row_seen r ≡ cells_of x → (i : ℕ) → word_in (slice_get r.words.items i) ≡ get_or x.given i 0
one_cell r x e i = word_at_place r.words.items i ∙ ap (λ (c : FirstCells). get_or c.words i 0) e ∙ given_at x.given (x.length - length x.given) i

-- ---- all rows

first_same : (r : Row) (x : Array) (rs : List Row) (xs : List Array) → map row_seen (r ∷ rs) ≡ map cells_of (x ∷ xs) → row_seen r ≡ cells_of x
first_same r x rs xs e = ap (λ (l : List FirstCells). get_or l 0 (row_seen r)) e

same_rest : (r : Row) (x : Array) (rs : List Row) (xs : List Array) → map row_seen (r ∷ rs) ≡ map cells_of (x ∷ xs) → map row_seen rs ≡ map cells_of xs
same_rest r x rs xs e = ap (λ (l : List FirstCells). drop 1 l) e

pub rows_are : (rows : List Row) (arrays : List Array) → ((a : ℕ) → length (array_at arrays a).given ≤ (array_at arrays a).length) → map row_seen rows ≡ map cells_of arrays → AreRowsOf rows arrays
rows_are [] [] h e a = refl
rows_are [] (x ∷ xs) h e a = no_cons (sym e)
rows_are (r ∷ rs) [] h e a = no_cons e
rows_are (r ∷ rs) (x ∷ xs) h e zero = one_row r x (h zero) (first_same r x rs xs e)
rows_are (r ∷ rs) (x ∷ xs) h e (suc a) = rows_are rs xs (λ b. h (suc b)) (same_rest r x rs xs e) a

pub cells_are : (rows : List Row) (arrays : List Array) → map row_seen rows ≡ map cells_of arrays → (a i : ℕ) → memory_in rows a i ≡ first_memory arrays a i
cells_are [] [] e a i = refl
cells_are [] (x ∷ xs) e a i = no_cons (sym e)
cells_are (r ∷ rs) [] e a i = no_cons e
cells_are (r ∷ rs) (x ∷ xs) e zero i = one_cell r x (first_same r x rs xs e) i
cells_are (r ∷ rs) (x ∷ xs) e (suc a) i = cells_are rs xs (same_rest r x rs xs e) a i

pub memory_is : (rows : List Row) (arrays : List Array) → map row_seen rows ≡ map cells_of arrays → memory_in rows ≡ first_memory arrays
memory_is rows arrays e = λ k a i. cells_are rows arrays e a i k

-- ---- their words

one_canonical : (r : Row) (x : Array) → row_seen r ≡ cells_of x → ((i : ℕ) → IsCanonical x.ty (get_or x.given i 0)) → (i : ℕ) (w : Word) → slice_get r.words.items i ≡ Some w → IsCanonical r.ty w.0
one_canonical r x e h i w f = subst (λ (t : Ty). IsCanonical t w.0) (sym (ap (λ (c : FirstCells). c.ty) e))
    (subst (λ (k : ℕ). IsCanonical x.ty k) (sym (one_cell r x e i) ∙ ap word_in f) (h i))

pub words_are : (rows : List Row) (arrays : List Array) → map row_seen rows ≡ map cells_of arrays → ((a i : ℕ) → IsCanonical (array_at arrays a).ty (get_or (array_at arrays a).given i 0)) → HaveWords rows
words_are [] xs e h a i r w f g = absurd (none-some r f)
words_are (r ∷ rs) [] e h a i q w f g = no_cons e
words_are (r ∷ rs) (x ∷ xs) e h zero i q w f g = subst (λ (s : Row). (slice_get s.words.items i ≡ Some w) → IsCanonical s.ty w.0) (same_Some r q f) (one_canonical r x (first_same r x rs xs e) (h zero) i w) g
words_are (r ∷ rs) (x ∷ xs) e h (suc a) i q w f g = words_are rs xs (same_rest r x rs xs e) (λ b j. h (suc b) j) a i q w f g
