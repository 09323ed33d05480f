-- One cell more, and one array more.
use Rattle.std.proofs.Common.{◌≡◌, ℕ, ◌+◌, ◌<◌, List, [], ◌∷◌, ◌++◌, length, map, get_or, flat_map, refl, sym, ap, ◌∙◌, arith, append_assoc}
use Rattle.std.specs.List.{range_with_len}
use Rattle.std.proofs.lemmas.List.{append-nil, get_or-map}
use Rattle.std.proofs.lemmas.List.Concat.{flat_map-append}
use Rattle.std.proofs.lemmas.List.FromFn.{map-range_with_len_more}
use Rattle.vk_meaning.specs.World.{array_at}
use Rattle.vk_pointer_texts.specs.Heads.{array_of, arrays_of}
use Rattle.vk_pointer_texts.specs.declared.heads.ArrayHead.{ArrayHead}

range_more : (n : ℕ) → range_with_len 0 (n + 1) ≡ range_with_len 0 n ++ n ∷ []
range_more n = sym (map_same (range_with_len 0 (n + 1))) ∙ map-range_with_len_more (λ k. k) 0 n n (omega arith) ∙ ap (λ (xs : List ℕ). xs ++ n ∷ []) (map_same (range_with_len 0 n))
  where
    map_same : (xs : List ℕ) → map (λ k. k) xs ≡ xs
    map_same [] = refl
    map_same (x ∷ xs) = ap (λ (ys : List ℕ). x ∷ ys) (map_same xs)

pub one_more : {A : Type 0} (f : ℕ → List A) (n : ℕ) (old now new : List A) → now ≡ old ++ flat_map f (range_with_len 0 n) → new ≡ now ++ f n → new ≡ old ++ flat_map f (range_with_len 0 (n + 1))
one_more f n old now new before here =
    here ∙ ap (λ xs. xs ++ f n) before ∙ append_assoc old (flat_map f (range_with_len 0 n)) (f n)
    ∙ ap (λ xs. old ++ xs) (ap (λ ys. flat_map f (range_with_len 0 n) ++ ys) (sym (append-nil (f n))) ∙ sym (flat_map-append f (range_with_len 0 n) (n ∷ [])) ∙ ap (flat_map f) (sym (range_more n)))

pub array_is : (heads : List ArrayHead) (k : ℕ) (d : ArrayHead) → k < length heads → array_at (arrays_of heads) k ≡ array_of (get_or heads k d)
array_is heads k d h = get_or-map array_of heads k d _ h
