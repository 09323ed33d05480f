-- Rows after a round more, and what the last one says of all entries.
use Rattle.std.proofs.Common.{◌≡◌, ℕ, zero, suc, ◌+◌, ◌<◌, max, nat_le, sum, Bool, false, ◌&&◌, List, [], ◌∷◌, ◌++◌, length, map, take, get_or, Option, Some, None, inl, inr, refl, ap, ap₂, sym, ◌∙◌, add-one, arith}
use Rattle.std.specs.List.{list_all, range_with_len}
use Rattle.std.specs.Option.{unwrap_or}
use Rattle.std.specs.Prelude.{slice_get}
use Rattle.std.proofs.lemmas.Bool.{cases_lt, le-leb, lt-leb}
use Rattle.std.proofs.lemmas.List.{map-append, take_more}
use Rattle.std.proofs.lemmas.List.Folds.{list_all-map}
use Rattle.vk_code.specs.Tests.{holds}
use Rattle.vk_image_format.specs.declared.rows.RawImage.{RawImage}
use Rattle.vk_object.specs.declared.tables.LoopTargets.{LoopTargets}
use Rattle.vk_object.specs.Images.{calls_within, cells_of, chain_cells, code_of, entry_numbers, frame_cells, greatest, is_within}
use Rattle.vk_object.specs.Tables.{ArrayLists, EntryLists, Tables}
use Rattle.vk_image_format.specs.Values.{array_of, entry_of, tables_of}
use Rattle.vk_image.proofs.Lists.{map_map}
use Rattle.vk_image.specs.Inner.Rounds.{capped, cells_at, chain_at, entry_cells, is_told}

-- ---- all numbers of a list

map_numbers : {A B : Type 0} (f : ℕ → B) (q : A → B) (xs : List A) (k : ℕ) → ((n : ℕ) (x : A) → slice_get xs n ≡ Some x → f (k + n) ≡ q x) → map f (range_with_len k (length xs)) ≡ map q xs
map_numbers f q [] k h = refl
map_numbers f q (x ∷ xs) k h =
    let here : k ≡ k + 0 = omega arith in
    ap₂ (λ y ys. y ∷ ys) (ap f here ∙ h 0 x refl) (map_numbers f q xs (k + 1) (λ n y e. let on : k + 1 + n ≡ k + suc n = omega arith in ap f on ∙ h (suc n) y e))

list_all_map : {A : Type 0} (p : A → Bool) (xs : List A) → list_all p xs ≡ list_all (λ b. b) (map p xs)
list_all_map p [] = refl
list_all_map p (x ∷ xs) = ap (λ b. p x && b) (list_all_map p xs)

-- ---- chains

told_map : {A B : Type 0} (p : B → Bool) (g : A → B) (xs : List A) (n : ℕ) → unwrap_or (slice_get (map (λ x. p (g x)) xs) n) false ≡ holds p (slice_get (map g xs) n)
told_map p g [] n = refl
told_map p g (x ∷ xs) zero = refl
told_map p g (x ∷ xs) (suc n) = told_map p g xs n

pub told_first : (t : RawImage) → is_told [] ≡ is_within (tables_of t) 0
told_first t = λ i n. false

pub told_next : (t : RawImage) (row next : List Bool) (d : ℕ) → is_told row ≡ is_within (tables_of t) d →
    next ≡ map (λ e. calls_within (is_told row) (entry_of e)) t.entries → is_told next ≡ is_within (tables_of t) (d + 1)
told_next t row next d h k = λ i n. at n i
  where
    at : (n : ℕ) → is_told next n ≡ is_within (tables_of t) (d + 1) n
    at n =
        ap (λ l. is_told l n) k
        ∙ (told_map (calls_within (is_told row)) entry_of t.entries n
        ∙ (ap (λ f. holds (calls_within f) (slice_get (map entry_of t.entries) n)) h
        ∙ ap (λ m. is_within (tables_of t) m n) (sym (add-one d))))

-- the entries call those alone that begin chains of at most 63
pub all_within : (t : RawImage) (row : List Bool) → is_told row ≡ is_within (tables_of t) 63 →
    list_all (λ e. calls_within (is_told row) (entry_of e)) t.entries ≡ list_all (is_within (tables_of t) 64) (entry_numbers (tables_of t))
all_within t row h =
    let image : Tables = tables_of t in
    ap (λ f. list_all (λ e. calls_within f (entry_of e)) t.entries) h
    ∙ (sym (list_all-map (calls_within (is_within image 63)) entry_of t.entries)
    ∙ (list_all_map (calls_within (is_within image 63)) image.entries
    ∙ (ap (list_all (λ b. b)) (sym (map_numbers (is_within image 64) (calls_within (is_within image 63)) image.entries 0 (λ n e found. ap (holds (calls_within (is_within image 63))) (ap (slice_get image.entries) (zero_and n) ∙ found))))
    ∙ sym (list_all_map (is_within image 64) (entry_numbers image)))))
  where
    zero_and : (n : ℕ) → 0 + n ≡ n
    zero_and n = omega arith

-- ---- sums that stay at the greatest number

pub capped_sum : (a b : ℕ) → capped (capped a + capped b) ≡ capped (a + b)
capped_sum a b = omega arith

capped_max : (a b : ℕ) → max (capped a) (capped b) ≡ capped (max a b)
capped_max a b = omega arith

capped_part : (a b : ℕ) → capped (a + capped b) ≡ capped (a + b)
capped_part a b = omega arith

greatest_capped : {A : Type 0} (f : A → ℕ) (xs : List A) → greatest (map (λ x. capped (f x)) xs) ≡ capped (greatest (map f xs))
greatest_capped f [] = refl
greatest_capped f (x ∷ xs) = ap (max (capped (f x))) (greatest_capped f xs) ∙ capped_max (f x) (greatest (map f xs))

greatest_more : (xs : List ℕ) (y : ℕ) → greatest (xs ++ y ∷ []) ≡ max (greatest xs) y
greatest_more [] y = omega arith
greatest_more (x ∷ xs) y = ap (max x) (greatest_more xs y) ∙ max_on x (greatest xs) y
  where
    max_on : (a b c : ℕ) → max a (max b c) ≡ max (max a b) c
    max_on a b c = omega arith

-- one member more
pub most_more : {A : Type 0} (f : A → ℕ) (xs : List A) (i : ℕ) (d : A) → i < length xs → greatest (map f (take (i + 1) xs)) ≡ max (greatest (map f (take i xs))) (f (get_or xs i d))
most_more f xs i d h =
    ap (λ l. greatest (map f l)) (take_more xs i d h)
    ∙ (ap greatest (map-append f (take i xs) (get_or xs i d ∷ []))
    ∙ greatest_more (map f (take i xs)) (f (get_or xs i d)))

-- ---- cells

-- the greatest chain from an entry on, where those of the entries that it calls are known
abbrev chain_from : Tables → (ℕ → ℕ) → EntryLists → ℕ
chain_from image f e = frame_cells e (code_of image e) + max (greatest (map f e.targets)) (greatest (map (λ (t : LoopTargets). max (f t.chunk) (f t.rest)) e.loops))

entry_capped : (image : Tables) (f : ℕ → ℕ) (e : EntryLists) → entry_cells image (λ n. capped (f n)) e ≡ capped (chain_from image f e)
entry_capped image f e =
    ap₂ (λ a b. capped (frame_cells e (code_of image e) + max a b)) (greatest_capped f e.targets)
    (ap greatest (same_map (λ (t : LoopTargets). max (capped (f t.chunk)) (capped (f t.rest))) (λ (t : LoopTargets). capped (max (f t.chunk) (f t.rest))) (λ t. capped_max (f t.chunk) (f t.rest)) e.loops)
    ∙ greatest_capped (λ (t : LoopTargets). max (f t.chunk) (f t.rest)) e.loops)
    ∙ (ap (λ n. capped (frame_cells e (code_of image e) + n)) (capped_max (greatest (map f e.targets)) (greatest (map (λ (t : LoopTargets). max (f t.chunk) (f t.rest)) e.loops)))
    ∙ capped_part (frame_cells e (code_of image e)) (max (greatest (map f e.targets)) (greatest (map (λ (t : LoopTargets). max (f t.chunk) (f t.rest)) e.loops))))
  where
    same_map : {A : Type 0} (p q : A → ℕ) → ((x : A) → p x ≡ q x) → (xs : List A) → map p xs ≡ map q xs
    same_map p q h xs = λ i. map (λ x. h x i) xs

-- what a row of cells says of an entry
abbrev cells_from : (EntryLists → ℕ) → Option EntryLists → ℕ
cells_from q None = 0
cells_from q (Some e) = q e

cells_map : {A : Type 0} (q : EntryLists → ℕ) (g : A → EntryLists) (xs : List A) (n : ℕ) → unwrap_or (slice_get (map (λ x. q (g x)) xs) n) 0 ≡ cells_from q (slice_get (map g xs) n)
cells_map q g [] n = refl
cells_map q g (x ∷ xs) zero = refl
cells_map q g (x ∷ xs) (suc n) = cells_map q g xs n

chain_more : (image : Tables) (d : ℕ) (o : Option EntryLists) → cells_from (entry_cells image (chain_at image d)) o ≡ capped (elim o as (λ _. ℕ) [
  | None ↦ 0
  | Some e ↦ frame_cells e (code_of image e)
      + max (greatest (map (chain_cells image d) e.targets)) (greatest (map (λ (t : LoopTargets). max (chain_cells image d t.chunk) (chain_cells image d t.rest)) e.loops))
])
chain_more image d None = refl
chain_more image d (Some e) = entry_capped image (chain_cells image d) e

pub cells_first : (t : RawImage) → cells_at [] ≡ chain_at (tables_of t) 0
cells_first t = λ i n. 0

pub cells_next : (t : RawImage) (row next : List ℕ) (d : ℕ) → cells_at row ≡ chain_at (tables_of t) d →
    next ≡ map (λ e. entry_cells (tables_of t) (cells_at row) (entry_of e)) t.entries → cells_at next ≡ chain_at (tables_of t) (d + 1)
cells_next t row next d h k = λ i n. at n i
  where
    at : (n : ℕ) → cells_at next n ≡ chain_at (tables_of t) (d + 1) n
    at n =
        ap (λ l. cells_at l n) k
        ∙ (cells_map (entry_cells (tables_of t) (cells_at row)) entry_of t.entries n
        ∙ (ap (λ f. cells_from (entry_cells (tables_of t) f) (slice_get (map entry_of t.entries) n)) h
        ∙ (chain_more (tables_of t) d (slice_get (map entry_of t.entries) n)
        ∙ ap (λ m. chain_at (tables_of t) m n) (sym (add-one d)))))

-- the greatest chain of at most 64 entries
greatest_of_all : (t : RawImage) (row : List ℕ) → cells_at row ≡ chain_at (tables_of t) 63 →
    greatest (map (λ e. entry_cells (tables_of t) (cells_at row) (entry_of e)) t.entries) ≡ capped (greatest (map (chain_cells (tables_of t) 64) (entry_numbers (tables_of t))))
greatest_of_all t row h =
    let image : Tables = tables_of t in
    ap (λ f. greatest (map (λ e. entry_cells image f (entry_of e)) t.entries)) h
    ∙ ((λ i. greatest (map (λ e. entry_capped image (chain_cells image 63) (entry_of e) i) t.entries))
    ∙ (greatest_capped (λ e. chain_from image (chain_cells image 63) (entry_of e)) t.entries
    ∙ ap (λ l. capped (greatest l)) (sym (map_map (chain_from image (chain_cells image 63)) entry_of t.entries)
    ∙ sym (map_numbers (chain_cells image 64) (chain_from image (chain_cells image 63)) image.entries 0 (λ n e found. ap (cells_from (chain_from image (chain_cells image 63))) (ap (slice_get image.entries) (zero_and n) ∙ found))))))
  where
    zero_and : (n : ℕ) → 0 + n ≡ n
    zero_and n = omega arith

-- what the sum says of all cells
pub few_cells : (t : RawImage) (row : List ℕ) (total : ℕ) → cells_at row ≡ chain_at (tables_of t) 63 →
    total ≡ capped (capped (sum (map (λ a. (array_of a).length) t.arrays)) + greatest (map (λ e. entry_cells (tables_of t) (cells_at row) (entry_of e)) t.entries)) →
    nat_le total 33554432 ≡ nat_le (cells_of (tables_of t)) 33554432
few_cells t row total h k =
    let image : Tables = tables_of t in
    ap (λ n. nat_le n 33554432) (k
    ∙ (ap₂ (λ a b. capped (capped a + b)) (ap sum (sym (map_map (λ (a : ArrayLists). a.length) array_of t.arrays))) (greatest_of_all t row h)
    ∙ capped_sum (sum (map (λ (a : ArrayLists). a.length) image.arrays)) (greatest (map (chain_cells image 64) (entry_numbers image)))))
    ∙ under (cells_of image)
  where
    under : (n : ℕ) → nat_le (capped n) 33554432 ≡ nat_le n 33554432
    under n = elim (cases_lt 33554432 n) [
      | inl h ↦ lt-leb (capped n) 33554432 (omega (arith, h)) ∙ sym (lt-leb n 33554432 h)
      | inr h ↦ le-leb (capped n) 33554432 (omega (arith, h)) ∙ sym (le-leb n 33554432 h)
    ]
