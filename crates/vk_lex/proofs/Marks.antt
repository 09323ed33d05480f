-- The first punctuator of the code's list that begins a text is the longest one that does.
use Rattle.std.proofs.Common.{◌≡◌, ℕ, ◌≤◌, Bool, true, false, ◌&&◌, ◌||◌, nat_le, List, [], ◌∷◌, length, take, Option, Some, None, refl, sym, ap, ◌∙◌, inl, inr, arith, rules, if◌then◌else◌}
use Rattle.std.proofs.lemmas.Bool.{cases_Bool, false≢true}
use Rattle.std.proofs.lemmas.Bool.Decides.{nat_tests}
use Rattle.std.proofs.lemmas.Option.{none-some}
use Rattle.std.specs.Cmp.Lexicographic.{pointwise, same_text}
use Rattle.std.specs.List.{list_any}
use Rattle.std.specs.Option.{unwrap_or}
use Rattle.std.specs.Prelude.{nat_eq}
use Rattle.vk_tokens.specs.declared.tokens.Mark.{Mark}
use Rattle.vk_lex.specs.Signs.{mark_text, begins_mark, IsLongest, HasNoMark}
use Rattle.vk_lex.specs.Inner.Signs.{marks, first_front, sign_at}

abbrev same : Mark → Mark → Bool
same other m = pointwise nat_eq (mark_text other) (mark_text m)

-- each text is at most as long as the one before it, and the first one at most this long
abbrev descends : ℕ → List Mark → Bool
descends n [] = true
descends n (m ∷ ms) = nat_le (length (mark_text m)) n && descends (length (mark_text m)) ms

both : (p q : Bool) → (p && q) ≡ true → (p ≡ true) × (q ≡ true)
both true q e = (refl, e)
both false q e = absurd (false≢true e)

same_length : (other m : Mark) → same other m ≡ true → length (mark_text other) ≡ length (mark_text m)
same_length other m e = ap length (same_text (mark_text other) (mark_text m) (sym e))

at_most : (n : ℕ) (ms : List Mark) (other : Mark) → descends n ms ≡ true → list_any (same other) ms ≡ true → length (mark_text other) ≤ n
at_most n [] other d e = absurd (false≢true e)
at_most n (m ∷ ms) other d e =
    let parts = both (nat_le (length (mark_text m)) n) (descends (length (mark_text m)) ms) d in
    let first : length (mark_text m) ≤ n = grind (arith, nat_tests, parts.0) in
    elim (cases_Bool (same other m)) [
      | inl t ↦ omega (arith, same_length other m t)
      | inr f ↦ let below = at_most (length (mark_text m)) ms other parts.1 (sym (ap (λ b. b || list_any (same other) ms) f) ∙ e) in omega arith
    ]

found_begins : (ms : List Mark) (text : List ℕ) (m : Mark) → first_front ms text ≡ Some m → begins_mark m text ≡ true
found_begins [] text m e = absurd (none-some m e)
found_begins (x ∷ ms) text m e =
    elim (cases_Bool (begins_mark x text)) [
      | inl t ↦
          let is : Some x ≡ Some m = sym (ap (λ b. if b then Some x else first_front ms text) t) ∙ e in
          sym (ap (λ o. begins_mark (unwrap_or o x) text) is) ∙ t
      | inr f ↦ found_begins ms text m (sym (ap (λ b. if b then Some x else first_front ms text) f) ∙ e)
    ]

first_long : (n : ℕ) (ms : List Mark) (text : List ℕ) (other : Mark) → descends n ms ≡ true → list_any (same other) ms ≡ true → begins_mark other text ≡ true
    → (m : Mark) × (first_front ms text ≡ Some m) × (length (mark_text other) ≤ length (mark_text m))
first_long n [] text other d e b = absurd (false≢true e)
first_long n (m ∷ ms) text other d e b =
    let parts = both (nat_le (length (mark_text m)) n) (descends (length (mark_text m)) ms) d in
    elim (cases_Bool (begins_mark m text)) [
      | inl t ↦ (
        m,
        ap (λ c. if c then Some m else first_front ms text) t,
        elim (cases_Bool (same other m)) [
          | inl s ↦ omega (arith, same_length other m s)
          | inr f ↦ at_most (length (mark_text m)) ms other parts.1 (sym (ap (λ c. c || list_any (same other) ms) f) ∙ e)
        ],
      )
      | inr f ↦ elim (cases_Bool (same other m)) [
        | inl s ↦ absurd (false≢true (sym f ∙ sym (ap (λ (t : List ℕ). pointwise nat_eq t (take (length t) text)) (same_text (mark_text other) (mark_text m) (sym s))) ∙ b))
        | inr g ↦
            let found = first_long (length (mark_text m)) ms text other parts.1 (sym (ap (λ c. c || list_any (same other) ms) g) ∙ e) b in
            (found.0, ap (λ c. if c then Some m else first_front ms text) f ∙ found.1, found.2)
      ]
    ]

-- the list has every punctuator, and each is found where it stands alone
listed : (m : Mark) → list_any (same m) marks ≡ true
listed m = search rules

again : (m : Mark) → sign_at (mark_text m) ≡ Some m
unfolding sign_at
again m = search rules

module _ (text : List ℕ) where
  first_is : (other : Mark) → begins_mark other text ≡ true → (m : Mark) × (sign_at text ≡ Some m) × (length (mark_text other) ≤ length (mark_text m))
  unfolding sign_at
  first_is other b = first_long 3 marks text other refl (listed other) b

  sign_begins : (m : Mark) → sign_at text ≡ Some m → begins_mark m text ≡ true
  unfolding sign_at
  sign_begins m e = found_begins marks text m e

  same_mark : (m n : Mark) → Some m ≡ Some n → m ≡ n
  same_mark m n e = cc

  pub longest : (m : Mark) → sign_at text ≡ Some m → IsLongest text m
  longest m e = record {
    begins = sign_begins m e;
    longest = λ other b. let f = first_is other b in let is = same_mark f.0 m (sym f.1 ∙ e) in omega (arith, f.2, ap (λ x. length (mark_text x)) is);
  }

  pub no_mark : sign_at text ≡ None → HasNoMark text
  no_mark e m = elim (cases_Bool (begins_mark m text)) [
    | inl t ↦ let f = first_is m t in absurd (none-some f.0 (sym e ∙ f.1))
    | inr f ↦ f
  ]

  pub longest_is : (m : Mark) → IsLongest text m → sign_at text ≡ Some m
  longest_is m l =
      let f = first_is m l.begins in
      let begins = sign_begins f.0 f.1 in
      let size : length (mark_text m) ≡ length (mark_text f.0) = omega (arith, f.2, l.longest f.0 begins) in
      let texts = same_text (mark_text m) (take (length (mark_text m)) text) (sym l.begins) ∙ ap (λ n. take n text) size ∙ sym (same_text (mark_text f.0) (take (length (mark_text f.0)) text) (sym begins)) in
      f.1 ∙ sym (sym (again m) ∙ ap sign_at texts ∙ again f.0)

  pub no_mark_is : HasNoMark text → sign_at text ≡ None
  no_mark_is none = by (sign_at text) refl
    where
      by : (found : Option Mark) → sign_at text ≡ found → found ≡ None
      by None e = refl
      by (Some m) e = absurd (false≢true (sym (none m) ∙ sign_begins m e))
