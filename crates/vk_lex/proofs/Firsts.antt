-- The table of names grows by each name that is new.
use Rattle.std.proofs.Common.{◌≡◌, ℕ, zero, suc, Bool, true, false, not, ◌||◌, List, [], ◌∷◌, ◌++◌, length, slice_get, cond, Some, ◌⊎◌, inl, inr, refl, sym, ap, subst, ◌∙◌, append_assoc, arith, if◌then◌else◌}
use Rattle.std.proofs.lemmas.Bool.{cases_Bool, false≢true}
use Rattle.std.proofs.lemmas.List.{append-nil, length-append}
use Rattle.std.proofs.lemmas.List.Elements.{filter-append, filter_map-append}
use Rattle.std.proofs.lemmas.Option.{none-some, slice_get_within}
use Rattle.std.specs.Cmp.Lexicographic.{pointwise, same_text, bytes_decides}
use Rattle.std.specs.List.{filter, list_any}
use Rattle.std.specs.Option.{unwrap_or}
use Rattle.std.specs.Prelude.{nat_eq}
use Rattle.vk_ast.specs.Names.{IsAdded, AreDistinct}
use Rattle.vk_lex.specs.Tokens.{Kind, word, integer, sign, simdfn, simd, line_end, Tok, with_text, with_name, Grows}
use Rattle.vk_lex.specs.Tables.{word_in, words_of, firsts, names_of}

abbrev same : List ℕ → List ℕ → Bool
same v w = pointwise nat_eq v w

abbrev other : List ℕ → List ℕ → Bool
other v w = not (same v w)

same_sym : (v w : List ℕ) → same v w ≡ same w v
same_sym v w =
    elim (cases_Bool (same w v)) [
      | inl t ↦ (bytes_decides v w).1 (sym (same_text w v (sym t))) ∙ sym t
      | inr f ↦ elim (cases_Bool (same v w)) [
        | inl t ↦ absurd (false≢true (sym f ∙ (bytes_decides w v).1 (sym (same_text v w (sym t)))))
        | inr g ↦ g ∙ sym f
      ]
    ]

-- a text is found where others than another one are left
found_among : (v w : List ℕ) (us : List (List ℕ)) → same w v ≡ false → list_any (same w) (filter (other v) us) ≡ list_any (same w) us
found_among v w [] f = refl
found_among v w (u ∷ us) f =
    elim (cases_Bool (same v u)) [
      | inl t ↦ ap (λ b. list_any (same w) (cond (not b) (u ∷ filter (other v) us) (filter (other v) us))) t
          ∙ found_among v w us f
          ∙ ap (λ b. b || list_any (same w) us) (sym f ∙ ap (same w) (same_text v u (sym t)))
      | inr g ↦ ap (λ b. list_any (same w) (cond (not b) (u ∷ filter (other v) us) (filter (other v) us))) g
          ∙ ap (λ b. same w u || b) (found_among v w us f)
    ]

one_more : (v w : List ℕ) (us : List (List ℕ)) → v ∷ filter (other v) (with_text us w) ≡ with_text (v ∷ filter (other v) us) w
one_more v w us =
    let rest = filter (other v) us in
    elim (cases_Bool (same w v)) [
      | inl t ↦ ap (λ (l : List (List ℕ)). v ∷ l) (elim (cases_Bool (list_any (same w) us)) [
        | inl s ↦ ap (λ b. filter (other v) (if b then us else us ++ w ∷ [])) s
        | inr g ↦ ap (λ b. filter (other v) (if b then us else us ++ w ∷ [])) g
            ∙ filter-append (other v) us (w ∷ [])
            ∙ ap (λ b. rest ++ cond (not b) (w ∷ []) []) (same_sym v w ∙ t)
            ∙ append-nil rest
      ])
          ∙ sym (ap (λ b. if b || list_any (same w) rest then v ∷ rest else v ∷ (rest ++ w ∷ [])) t)
      | inr f ↦
          let tested : list_any (same w) (v ∷ rest) ≡ list_any (same w) us = ap (λ b. b || list_any (same w) rest) f ∙ found_among v w us f in
          elim (cases_Bool (list_any (same w) us)) [
            | inl s ↦ ap (λ b. v ∷ filter (other v) (if b then us else us ++ w ∷ [])) s
                ∙ sym (ap (λ b. if b then v ∷ rest else v ∷ (rest ++ w ∷ [])) (tested ∙ s))
            | inr g ↦ ap (λ b. v ∷ filter (other v) (if b then us else us ++ w ∷ [])) g
                ∙ ap (λ (l : List (List ℕ)). v ∷ l) (filter-append (other v) us (w ∷ []) ∙ ap (λ b. rest ++ cond (not b) (w ∷ []) []) (same_sym v w ∙ f))
                ∙ sym (ap (λ b. if b then v ∷ rest else v ∷ (rest ++ w ∷ [])) (tested ∙ g))
          ]
    ]

-- the different texts of a list with one more
pub firsts_more : (ws : List (List ℕ)) (w : List ℕ) → firsts (ws ++ w ∷ []) ≡ with_text (firsts ws) w
firsts_more [] w = refl
firsts_more (v ∷ ws) w = ap (λ (l : List (List ℕ)). v ∷ filter (other v) l) (firsts_more ws w) ∙ one_more v w (firsts ws)

-- a text is among the different ones exactly where it is in the list
pub among_firsts : (ws : List (List ℕ)) (w : List ℕ) → list_any (same w) ws ≡ true → list_any (same w) (firsts ws) ≡ true
among_firsts [] w e = e
among_firsts (v ∷ ws) w e =
    let rest = filter (other v) (firsts ws) in
    elim (cases_Bool (same w v)) [
      | inl t ↦ ap (λ b. b || list_any (same w) rest) t
      | inr f ↦ ap (λ b. b || list_any (same w) rest) f ∙ found_among v w (firsts ws) f ∙ among_firsts ws w (sym (ap (λ b. b || list_any (same w) ws) f) ∙ e)
    ]

pub from_firsts : (ws : List (List ℕ)) (w : List ℕ) → list_any (same w) (firsts ws) ≡ true → list_any (same w) ws ≡ true
from_firsts [] w e = e
from_firsts (v ∷ ws) w e =
    let rest = filter (other v) (firsts ws) in
    elim (cases_Bool (same w v)) [
      | inl t ↦ ap (λ b. b || list_any (same w) ws) t
      | inr f ↦ ap (λ b. b || list_any (same w) ws) f
          ∙ from_firsts ws w (sym (found_among v w (firsts ws) f) ∙ sym (ap (λ b. b || list_any (same w) rest) f) ∙ e)
    ]

with_kind : (ws : List (List ℕ)) (line : ℕ) (k : Kind) → firsts (ws ++ words_of (record { line = line; kind = k } ∷ [])) ≡ with_name (firsts ws) k
with_kind ws line (word text) = firsts_more ws text
with_kind ws line (integer t n) = ap firsts (append-nil ws)
with_kind ws line (sign m) = ap firsts (append-nil ws)
with_kind ws line simdfn = ap firsts (append-nil ws)
with_kind ws line simd = ap firsts (append-nil ws)
with_kind ws line line_end = ap firsts (append-nil ws)

-- the table of names with one token more
pub names_more : (ts : List Tok) (line : ℕ) (k : Kind) → names_of (ts ++ record { line = line; kind = k } ∷ []) ≡ with_name (names_of ts) k
names_more ts line k =
    ap firsts (filter_map-append (λ (t : Tok). word_in t.kind) ts (record { line = line; kind = k } ∷ [])) ∙ with_kind (words_of ts) line k

-- ---- a text that was added

pub found_at : (texts : List (List ℕ)) (k : ℕ) (text : List ℕ) → slice_get texts k ≡ Some text → list_any (same text) texts ≡ true
found_at [] k text e = absurd (none-some text e)
found_at (x ∷ texts) zero text e = ap (λ b. b || list_any (same text) texts) ((bytes_decides text x).1 (sym (ap (λ o. unwrap_or o text) e)))
found_at (x ∷ texts) (suc k) text e =
    elim (cases_Bool (same text x)) [
      | inl t ↦ ap (λ b. b || list_any (same text) texts) t
      | inr f ↦ ap (λ b. b || list_any (same text) texts) f ∙ found_at texts k text e
    ]

pub place_of : (texts : List (List ℕ)) (text : List ℕ) → list_any (same text) texts ≡ true → (k : ℕ) × (slice_get texts k ≡ Some text)
place_of [] text e = absurd (false≢true e)
place_of (x ∷ texts) text e =
    elim (cases_Bool (same text x)) [
      | inl t ↦ (zero, ap Some (sym (same_text text x (sym t))))
      | inr f ↦ let p = place_of texts text (sym (ap (λ b. b || list_any (same text) texts) f) ∙ e) in (suc p.0, p.1)
    ]

last_place : (texts : List (List ℕ)) (text : List ℕ) → slice_get (texts ++ text ∷ []) (length texts) ≡ Some text
last_place [] text = refl
last_place (x ∷ texts) text = last_place texts text

added : {old new : List (List ℕ)} {text : List ℕ} {id : ℕ} → IsAdded old new text id → new ≡ with_text old text
added {old = old} {new = new} {text = text} {id = id} a =
    elim (a.grows) [
      | inl e ↦ e ∙ sym (ap (λ b. if b then old else old ++ text ∷ []) (found_at old id text (ap (λ (ts : List (List ℕ)). slice_get ts id) (sym e) ∙ a.has)))
      | inr e ↦ elim (cases_Bool (list_any (same text) old)) [
        | inl t ↦
            let p = place_of old text t in
            let at : p.0 ≡ length old = a.distinct p.0 (length old) text (a.keeps p.0 text p.1) (ap (λ (ts : List (List ℕ)). slice_get ts (length old)) e ∙ last_place old text) in
            let within = slice_get_within old p.0 text p.1 in
            absurd (omega arith)
        | inr f ↦ e ∙ sym (ap (λ b. if b then old else old ++ text ∷ []) f)
      ]
    ]

-- the table grows by a text that was added
pub grown : {old new : List (List ℕ)} {text : List ℕ} {id : ℕ} → IsAdded old new text id → Grows old new (word text)
grown {old = old} {new = new} {text = text} a = record {
  exact = added a;
  keeps = a.keeps;
  most = elim (a.grows) [
    | inl e ↦ omega (arith, ap (λ (ts : List (List ℕ)). length ts) e)
    | inr e ↦ omega (arith, ap (λ (ts : List (List ℕ)). length ts) e, length-append old (text ∷ []))
  ];
}

-- ---- the texts are different

snoc_place : (names : List (List ℕ)) (w : List ℕ) (k : ℕ) (t : List ℕ) → slice_get (names ++ w ∷ []) k ≡ Some t → (slice_get names k ≡ Some t) ⊎ ((k ≡ length names) × (w ≡ t))
snoc_place [] w zero t e = inr (refl, ap (λ o. unwrap_or o t) e)
snoc_place [] w (suc k) t e = absurd (none-some t e)
snoc_place (x ∷ names) w zero t e = inl e
snoc_place (x ∷ names) w (suc k) t e = elim (snoc_place names w k t e) [ inl was ↦ inl was | inr is ↦ inr (ap suc is.0, is.1) ]

module _ (names : List (List ℕ)) (w : List ℕ) (distinct : AreDistinct names) where
  apart : list_any (same w) names ≡ false → (j k : ℕ) (text : List ℕ) → (slice_get names j ≡ Some text) ⊎ ((j ≡ length names) × (w ≡ text))
      → (slice_get names k ≡ Some text) ⊎ ((k ≡ length names) × (w ≡ text)) → j ≡ k
  apart f j k text (inl a) (inl b) = distinct j k text a b
  apart f j k text (inl a) (inr b) = absurd (false≢true (sym f ∙ found_at names j w (a ∙ ap Some (sym b.1))))
  apart f j k text (inr a) (inl b) = absurd (false≢true (sym f ∙ found_at names k w (b ∙ ap Some (sym a.1))))
  apart f j k text (inr a) (inr b) = a.0 ∙ sym b.0

  more_distinct : AreDistinct (with_text names w)
  more_distinct =
      elim (cases_Bool (list_any (same w) names)) [
        | inl t ↦ subst AreDistinct (sym (ap (λ b. if b then names else names ++ w ∷ []) t)) distinct
        | inr f ↦ subst AreDistinct (sym (ap (λ b. if b then names else names ++ w ∷ []) f))
            (λ j k text p q. apart f j k text (snoc_place names w j text p) (snoc_place names w k text q))
      ]

behind_distinct : (before ws : List (List ℕ)) → AreDistinct (firsts before) → AreDistinct (firsts (before ++ ws))
behind_distinct before [] d = subst (λ (l : List (List ℕ)). AreDistinct (firsts l)) (sym (append-nil before)) d
behind_distinct before (w ∷ ws) d =
    subst (λ (l : List (List ℕ)). AreDistinct (firsts l)) (append_assoc before (w ∷ []) ws)
    (behind_distinct (before ++ w ∷ []) ws (subst AreDistinct (sym (firsts_more before w)) (more_distinct (firsts before) w d)))

pub firsts_distinct : (ws : List (List ℕ)) → AreDistinct (firsts ws)
firsts_distinct ws = behind_distinct [] ws (λ j k text p q. absurd (none-some text p))
