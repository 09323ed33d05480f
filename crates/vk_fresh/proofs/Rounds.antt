-- The longest chain of calls of an image.
use Rattle.std.proofs.Common.{◌≡◌, ℕ, suc, ◌+◌, ◌<◌, ◌≤◌, max, nat_le, sum, Bool, true, ◌&&◌, List, [], ◌∷◌, ◌++◌, length, map, take, get_or, refl, ap, ap₂, sym, ◌∙◌, arith}
use Rattle.std.specs.List.{list_all, range_with_len}
use Rattle.std.specs.Prelude.{slice_get}
use Rattle.std.specs.Option.{unwrap_or}
use Rattle.std.proofs.lemmas.Bool.{leb-true}
use Rattle.std.proofs.lemmas.List.{map-append, take_more}
use Rattle.vk_code.proofs.Faults.{and_left, and_right}
use Rattle.vk_object.specs.Images.{array_before, cells_of, chain_cells, entry_before, entry_numbers, greatest, is_array, is_code, is_entry, is_image, is_letter, is_main, is_row, is_some_entry, is_vl, is_within}
use Rattle.vk_object.specs.Tables.{ArrayLists, Tables}
use Rattle.vk_object.specs.Texts.{ascend}
use Rattle.vk_image.specs.Inner.Rounds.{capped, cells_at, chain_at}
use Rattle.vk_fresh.specs.Room.{longest_chain}

-- ---- what an image says of its cells

pub record ImageParts (image : Tables) : Type 0 where
  pub arrays : list_all is_array image.arrays ≡ true
  pub cells : cells_of image ≤ 33554432

pub image_parts : (image : Tables) → is_image image ≡ true → ImageParts image
image_parts image h =
    let p = parts (is_letter image.target image.isa) (is_vl image.isa image.vl) (list_all is_array image.arrays) (ascend array_before image.arrays) (list_all (is_row image) image.entries) (ascend entry_before image.entries)
    (is_some_entry image image.main) (list_all (is_code image) image.codes) (list_all (is_entry image) image.entries) (is_main image image.main) (list_all (is_within image 64) (entry_numbers image)) (nat_le (cells_of image) 33554432) h in
    record { arrays = p.0; cells = leb-true (cells_of image) 33554432 p.1 }
  where
    parts : (a b c d e f g h i j k l : Bool) → (a && b && c && d && e && f && g && h && i && j && k && l) ≡ true → (c ≡ true) × (l ≡ true)
    parts a b c d e f g h i j k l t =
        let nine = and_left (a && b && c && d && e && f && g && h && i) j (and_left (a && b && c && d && e && f && g && h && i && j) k (and_left (a && b && c && d && e && f && g && h && i && j && k) l t)) in
        let six = and_left (a && b && c && d && e && f) g (and_left (a && b && c && d && e && f && g) h (and_left (a && b && c && d && e && f && g && h) i nine)) in
        let three = and_left (a && b && c) d (and_left (a && b && c && d) e (and_left (a && b && c && d && e) f six)) in
        (and_right (a && b) c three, and_right (a && b && c && d && e && f && g && h && i && j && k) l t)

-- ---- the greatest number

greatest_more : (xs : List ℕ) (y : ℕ) → greatest (xs ++ y ∷ []) ≡ max (greatest xs) y
greatest_more [] y = omega arith
greatest_more (x ∷ xs) y = ap (max x) (greatest_more xs y) ∙ max_on x (greatest xs) y
  where
    max_on : (a b c : ℕ) → max a (max b c) ≡ max (max a b) c
    max_on a b c = omega arith

pub greatest_next : (xs : List ℕ) (i d : ℕ) → i < length xs → greatest (take (i + 1) xs) ≡ max (greatest (take i xs)) (get_or xs i d)
greatest_next xs i d h = ap greatest (take_more xs i d h) ∙ greatest_more (take i xs) (get_or xs i d)

-- a list that is made of another one, with one member more
pub map_next : {A B : Type 0} (f : A → B) (xs : List A) (ys zs : List B) (i : ℕ) (d : A) (y : B) → i < length xs → ys ≡ map f (take i xs) → zs ≡ ys ++ y ∷ [] → y ≡ f (get_or xs i d) → zs ≡ map f (take (i + 1) xs)
map_next f xs ys zs i d y h e g k =
    g ∙ (ap₂ (λ l z. l ++ z ∷ []) e k ∙ (sym (map-append f (take i xs) (get_or xs i d ∷ [])) ∙ ap (map f) (sym (take_more xs i d h))))

greatest_capped : (f : ℕ → ℕ) (xs : List ℕ) → greatest (map (λ n. capped (f n)) xs) ≡ capped (greatest (map f xs))
greatest_capped f [] = refl
greatest_capped f (x ∷ xs) = ap (max (capped (f x))) (greatest_capped f xs) ∙ capped_max (f x) (greatest (map f xs))
  where
    capped_max : (a b : ℕ) → max (capped a) (capped b) ≡ capped (max a b)
    capped_max a b = omega arith

-- a row has the numbers that it has at each place
row_numbers : (row : List ℕ) (f : ℕ → ℕ) (k : ℕ) → ((n : ℕ) → unwrap_or (slice_get row n) 0 ≡ f (k + n)) → greatest row ≡ greatest (map f (range_with_len k (length row)))
row_numbers [] f k h = refl
row_numbers (x ∷ row) f k h =
    ap₂ max (h 0 ∙ ap f (at k)) (row_numbers row f (k + 1) (λ n. h (suc n) ∙ ap f (next k n)))
  where
    at : (k : ℕ) → k + 0 ≡ k
    at k = omega arith

    next : (k n : ℕ) → k + suc n ≡ k + 1 + n
    next k n = omega arith

-- the greatest number of the last row
pub row_greatest : (image : Tables) (row : List ℕ) → is_image image ≡ true → cells_at row ≡ chain_at image 64 → length row ≡ length image.entries → greatest row ≡ longest_chain image
unfolding longest_chain
row_greatest image row valid h k =
    row_numbers row (chain_at image 64) 0 (λ n. ap (λ f. f n) h ∙ ap (chain_at image 64) (from n))
    ∙ (ap (λ n. greatest (map (chain_at image 64) (range_with_len 0 n))) k
    ∙ (greatest_capped (chain_cells image 64) (entry_numbers image)
    ∙ low (longest_chain image) (few (sum (map (λ (a : ArrayLists). a.length) image.arrays)) (longest_chain image) (image_parts image valid).cells)))
  where
    from : (n : ℕ) → n ≡ 0 + n
    from n = omega arith

    few : (a b : ℕ) → a + b ≤ 33554432 → b ≤ 33554432
    few a b l = omega (arith, l)

    low : (n : ℕ) → n ≤ 33554432 → capped n ≡ n
    low n l = omega (arith, l)
