-- Order of texts, and the last element.
use Rattle.std.proofs.Common.{◌≡◌, ℕ, suc, ◌-◌, ◌<◌, ◌≤◌, ◌==◌, min, nat_lt, true, false, not, List, [], ◌∷◌, length, drop, get_or, inl, inr, refl, ap, sym, ◌∙◌, arith}
use Rattle.std.proofs.lemmas.Bool.{cases_lt, le-ltb, lt-ltb}
use Rattle.std.proofs.lemmas.List.{drop_all}
use Rattle.std.proofs.Math.Seq.{drop-cons}
use Rattle.vk_types.specs.declared.types.Word.{Word}
use Rattle.vk_object.specs.Texts.{ends_well, is_before}

-- ---- order of texts

before_none : (a : List ℕ) → is_before a [] ≡ false
before_none [] = refl
before_none (x ∷ a) = refl

-- the second one ends
pub before_end : (a b : List ℕ) (i : ℕ) → length b ≤ i → is_before (drop i a) (drop i b) ≡ false
before_end a b i h = ap (is_before (drop i a)) (drop_all i b h) ∙ before_none (drop i a)

-- the first one alone ends
pub before_longer : (a b : List ℕ) (i : ℕ) → length a ≤ i → i < length b → is_before (drop i a) (drop i b) ≡ true
before_longer a b i h k = ap (λ l. is_before l (drop i b)) (drop_all i a h) ∙ ap (is_before []) (drop-cons b i 0 k)

-- past the end of one of them
pub before_past : (a b : List ℕ) (i : ℕ) → i ≡ min (length a) (length b) → is_before (drop i a) (drop i b) ≡ nat_lt (length a) (length b)
before_past a b i e = elim (cases_lt (length a) (length b)) [
  | inl h ↦ before_longer a b i (omega (arith, e, h)) (omega (arith, e, h)) ∙ sym (lt-ltb (length a) (length b) h)
  | inr h ↦ before_end a b i (omega (arith, e, h)) ∙ sym (le-ltb (length a) (length b) h)
]

-- ---- the last word

pub last_word : (xs : List Word) (d : Word) → 1 ≤ length xs → not ((get_or xs (length xs - 1) d).0 == 0) ≡ ends_well xs
last_word [] d h = absurd (omega (arith, h))
last_word (x ∷ []) d h = refl
last_word (x ∷ y ∷ ys) d h =
    let later : length (x ∷ y ∷ ys) - 1 ≡ suc (length (y ∷ ys) - 1) = omega arith in
    ap (λ n. not ((get_or (x ∷ y ∷ ys) n d).0 == 0)) later ∙ last_word (y ∷ ys) d (omega arith)
