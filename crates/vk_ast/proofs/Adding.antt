-- Texts among the keys of a set.
use Rattle.std.proofs.Common.{◌≡◌, ℕ, zero, suc, Bool, true, false, List, [], ◌∷◌, ◌++◌, map, slice_get, get_or, Some, position, refl, sym, ap, ◌∙◌, inl, inr, ◌⊎◌, if◌then◌else◌}
use Rattle.std.specs.Global.{Vec}
use Rattle.std.specs.Prelude.{nat_eq}
use Rattle.std.specs.Cmp.Lexicographic.{pointwise, same_text, other_text}
use Rattle.std.specs.List.{IsDistinct, AllByRecursion, list_any}
use Rattle.std.specs.Option.{option_map, unwrap_or}
use Rattle.std.proofs.lemmas.Bool.{cases_Bool}
use Rattle.std.proofs.lemmas.List.{map-append}
use Rattle.std.proofs.lemmas.Option.{slice_get-map, slice_get-get_or, slice_get_within, none-some}
use Rattle.std.proofs.lemmas.List.Quantifiers.{position-Some}
use Rattle.std.proofs.lemmas.Map.Keys.{IsDistinct-head, IsDistinct-tail}
use Rattle.indexmap.specs.IndexSet.{insert_key}
use Rattle.vk_ast.specs.Names.{IsAdded, AreDistinct}

abbrev items_of : Vec ℕ → List ℕ
items_of key = key.items

abbrev same : Vec ℕ → Vec ℕ → Bool
same x y = pointwise nat_eq x.items y.items

-- the key that a search finds has the text
found : (text : List ℕ) (keys : List (Vec ℕ)) (i : ℕ) → position (λ key. pointwise nat_eq text key.items) keys ≡ Some i → slice_get (map items_of keys) i ≡ Some text
found text [] i e = absurd (none-some _ e)
found text (key ∷ keys) i e =
    let p = position-Some (λ (k : Vec ℕ). pointwise nat_eq text k.items) (key ∷ keys) i key e in
    slice_get-map items_of (key ∷ keys) i ∙ ap (option_map items_of) (slice_get-get_or (key ∷ keys) i key p.0) ∙ ap Some (sym (same_text text (get_or (key ∷ keys) i key).items (sym p.1)))

apart : (key : Vec ℕ) (keys : List (Vec ℕ)) (k : ℕ) → AllByRecursion (λ y. same key y ≡ false) keys → slice_get (map items_of keys) k ≡ Some key.items → ⊥
apart key [] k all e = none-some _ e
apart key (x ∷ keys) zero all e = other_text key.items x.items (sym all.0) (sym (ap (λ o. unwrap_or o key.items) e))
apart key (x ∷ keys) (suc k) all e = apart key keys k all.1 e

-- different keys have different texts
pub distinct : (keys : List (Vec ℕ)) → IsDistinct same keys → AreDistinct (map items_of keys)
distinct [] d j k text e f = absurd (none-some _ e)
distinct (x ∷ keys) d zero zero text e f = refl
distinct (x ∷ keys) d zero (suc k) text e f = absurd (apart x keys k (IsDistinct-head same x keys d) (f ∙ sym e))
distinct (x ∷ keys) d (suc j) zero text e f = absurd (apart x keys j (IsDistinct-head same x keys d) (e ∙ sym f))
distinct (x ∷ keys) d (suc j) (suc k) text e f = ap suc (distinct keys (IsDistinct-tail same x keys d) j k text e f)

-- a text that is there leaves the table
pub there : (text : List ℕ) (keys : List (Vec ℕ)) (i : ℕ) → position (λ key. pointwise nat_eq text key.items) keys ≡ Some i → IsDistinct same keys
    → IsAdded (map items_of keys) (map items_of keys) text i
there text keys i e d = record { has = found text keys i e; within = slice_get_within (map items_of keys) i text (found text keys i e); keeps = λ k t f. f; grows = inl refl; distinct = distinct keys d }

before : (texts : List (List ℕ)) (text : List ℕ) (k : ℕ) (t : List ℕ) → slice_get texts k ≡ Some t → slice_get (texts ++ text ∷ []) k ≡ Some t
before [] text k t e = absurd (none-some _ e)
before (x ∷ texts) text zero t e = e
before (x ∷ texts) text (suc k) t e = before texts text k t e

-- a new one goes last
pub added : (key : Vec ℕ) (keys new : List (Vec ℕ)) (i : ℕ) → new ≡ insert_key same keys key → IsDistinct same new
    → ((k : Vec ℕ) × (slice_get new i ≡ Some k) × (same key k ≡ true)) → IsAdded (map items_of keys) (map items_of new) key.items i
added key keys new i e d stored = record {
  has = has;
  within = slice_get_within (map items_of new) i key.items has;
  keeps = λ k t f. elim grown [
    | inl is ↦ ap (λ ts. slice_get ts k) is ∙ f
    | inr is ↦ ap (λ ts. slice_get ts k) is ∙ before (map items_of keys) key.items k t f
  ];
  grows = grown;
  distinct = distinct new d;
}
  where
    has : slice_get (map items_of new) i ≡ Some key.items
    has = slice_get-map items_of new i ∙ ap (option_map items_of) stored.1 ∙ ap Some (sym (same_text key.items (stored.0).items (sym stored.2)))

    grown : (map items_of new ≡ map items_of keys) ⊎ (map items_of new ≡ map items_of keys ++ key.items ∷ [])
    grown = elim (cases_Bool (list_any (same key) keys)) [
      | inl t ↦ inl (ap (map items_of) (e ∙ ap (λ b. if b then keys else keys ++ key ∷ []) t))
      | inr f ↦ inr (ap (map items_of) (e ∙ ap (λ b. if b then keys else keys ++ key ∷ []) f) ∙ map-append items_of keys (key ∷ []))
    ]
