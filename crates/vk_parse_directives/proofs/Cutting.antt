-- Lists of tokens that are cut.
use Rattle.std.proofs.Common.{◌≡◌, ℕ, ◌+◌, ◌-◌, ◌<◌, ◌≤◌, suc, Bool, true, false, ◌&&◌, cond, List, [], ◌∷◌, length, take, drop, get_or, Some, None, refl, sym, ap, ◌∙◌, subst, inl, inr, arith, length-drop, drop-cons, drop_of_length-le}
use Rattle.std.specs.List.{position, position_or_len}
use Rattle.std.proofs.lemmas.Bool.{cases_lt, lt-ltb, le-ltb}
use Rattle.std.proofs.lemmas.List.{take_all}
use Rattle.vk_grammar_expr.specs.declared.symbols.Sym.{Sym}
use Rattle.vk_parse_directives.specs.Cuts.{is_open, is_close, is_colon, before_colon, behind_colon, tail_of}
use Rattle.vk_parse_directives.specs.Inner.Reading.{inside, last_closes, without_last}

-- ---- parentheses

last_is : (t : Sym) (w : List Sym) (d : Sym) → last_closes (t ∷ w) ≡ is_close (get_or (t ∷ w) (length w) d)
last_is t [] d = refl
last_is t (u ∷ rest) d = last_is u rest d

pub inside_is : (w : List Sym) (d e : Sym) → 2 ≤ length w
    → inside w ≡ cond (is_open (get_or w 0 d) && is_close (get_or w (length w - 1) e)) (Some (take (length w - 1 - 1) (drop 1 w))) None
inside_is [] d e two = absurd (omega arith)
inside_is (t ∷ []) d e two = absurd (omega arith)
inside_is (t ∷ u ∷ rest) d e two =
    let one : length (t ∷ u ∷ rest) - 1 ≡ suc (length rest) = omega arith in
    let found = λ (k : ℕ). cond (is_open t && is_close (get_or (t ∷ u ∷ rest) k e)) (Some (take (k - 1) (u ∷ rest))) None in
    ap (λ (b : Bool). cond (is_open t && b) (Some (take (suc (length rest) - 1) (u ∷ rest))) None) (last_is u rest e) ∙ ap found (sym one)

pub closed : (w : List Sym) (d e : Sym) → 2 ≤ length w → is_open (get_or w 0 d) ≡ true → is_close (get_or w (length w - 1) e) ≡ true
    → inside w ≡ Some (take (length w - 1 - 1) (drop 1 w))
closed w d e two o c = inside_is w d e two ∙ rw (o, c) refl

pub not_closed : (w : List Sym) (d e : Sym) → 2 ≤ length w → is_open (get_or w 0 d) ≡ true → is_close (get_or w (length w - 1) e) ≡ false → inside w ≡ None
not_closed w d e two o c = inside_is w d e two ∙ rw (o, c) refl

pub not_open : (w : List Sym) (d : Sym) → 2 ≤ length w → is_open (get_or w 0 d) ≡ false → inside w ≡ None
not_open w d two o = inside_is w d d two ∙ rw o refl

pub not_inside : (w : List Sym) → length w < 2 → inside w ≡ None
not_inside [] few = refl
not_inside (t ∷ []) few = elim (is_open t) as (λ b. cond (b && false) (Some (without_last [])) None ≡ None) [ true ↦ refl | false ↦ refl ]
not_inside (t ∷ u ∷ rest) few = absurd (omega arith)

-- ---- the first colon

some_is : {X : Type 0} {a b : X} → Some a ≡ Some b → a ≡ b
some_is e = cc

some_none : {X : Type 0} {a : X} → Some a ≡ None → ⊥
some_none e = cc

pub place_of : {X : Type 0} (p : X → Bool) (xs : List X) (at : ℕ) → Some at ≡ position p xs → (at ≡ position_or_len p xs) × (at < length xs)
place_of p xs at is = elim (cases_lt (position_or_len p xs) (length xs)) [
  | inl below ↦ let e : Some at ≡ Some (position_or_len p xs) = is ∙ rw (lt-ltb _ _ below) refl in (some_is e, subst (λ k. k < length xs) (sym (some_is e)) below)
  | inr past ↦ absurd (some_none (is ∙ rw (le-ltb _ _ past) refl))
]

pub no_place_of : {X : Type 0} (p : X → Bool) (xs : List X) → None ≡ position p xs → length xs ≤ position_or_len p xs
no_place_of p xs is = elim (cases_lt (position_or_len p xs) (length xs)) [
  | inl below ↦ absurd (some_none {a = position_or_len p xs} (sym (is ∙ rw (lt-ltb _ _ below) refl)))
  | inr past ↦ past
]

pub before_at : (w : List Sym) (at : ℕ) → at ≡ position_or_len is_colon w → take at w ≡ before_colon w
unfolding before_colon
before_at w at is = ap (λ n. take n w) is

pub behind_at : (w : List Sym) (at : ℕ) → at < length w → at ≡ position_or_len is_colon w → Some (take (length w - (at + 1)) (drop (at + 1) w)) ≡ behind_colon w
unfolding behind_colon
behind_at [] at within is = absurd (omega arith)
behind_at (t ∷ rest) at within is =
    let w = t ∷ rest in
    let next : suc at ≡ at + 1 = omega arith in
    ap (λ (x : List Sym). Some x) (take_all (length w - (at + 1)) (drop (at + 1) w) (omega (arith, length-drop (at + 1) w)))
    ∙ sym (ap (λ n. tail_of (drop n w)) (sym is) ∙ ap tail_of (drop-cons w at t within) ∙ ap (λ n. Some (drop n w)) next)

pub before_none : (w : List Sym) → length w ≤ position_or_len is_colon w → w ≡ before_colon w
unfolding before_colon
before_none w past = sym (take_all (position_or_len is_colon w) w past)

pub behind_none : (w : List Sym) → length w ≤ position_or_len is_colon w → None ≡ behind_colon w
unfolding behind_colon
behind_none w past = sym (ap tail_of (drop_of_length-le w past))
