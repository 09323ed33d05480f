-- Runs of words of types, token by token.
use Rattle.std.proofs.Common.{◌≡◌, ℕ, ◌+◌, ◌-◌, ◌<◌, ◌≤◌, Bool, true, false, cond, List, [], ◌∷◌, ◌++◌, length, take, drop, get_or, reverse, take_while, Some, refl, sym, ap, ◌∙◌, inl, inr, length-drop, drop_of_length-le, arith}
use Rattle.std.proofs.lemmas.Bool.{cases_lt, cases_order, false≢true}
use Rattle.std.proofs.lemmas.List.{reverse-append, take_more, take_all}
use Rattle.std.proofs.lemmas.List.Sums.{take_while-cons}
use Rattle.vk_grammar_expr.specs.declared.symbols.Sym.{Sym}
use Rattle.vk_grammar_expr.specs.declared.symbols.SymKind.{SymKind}
use Rattle.vk_grammar_expr.specs.declared.symbols.SymKind.TheVariants as kind
use Rattle.vk_grammar_expr.specs.declared.symbols.Keyword.TheVariants as keyword
use Rattle.vk_grammar_expr.specs.Symbols.{is_type_part}
use Rattle.vk_grammar_expr.specs.Types.{words_of, has_words}
use Rattle.vk_parse_words.specs.Faults.{run_of, ends_in_words, goes_on, is_front_fault, is_fault, IsC7}

-- the run before the next token, from its end
ends_by : (before : List Sym) (t : Sym) → ends_in_words (before ++ t ∷ []) ≡ has_words (words_of (cond (is_type_part (Some t.kind)) (t ∷ run_of (reverse before)) []))
unfolding ends_in_words run_of
ends_by before t =
    ap (λ w. has_words (words_of (take_while (λ (x : Sym). is_type_part (Some x.kind)) w))) (reverse-append before (t ∷ []))
    ∙ ap (λ w. has_words (words_of w)) (take_while-cons (λ (x : Sym). is_type_part (Some x.kind)) t (reverse before))

by_kind : (before : List Sym) (t : Sym) (b : Bool) (k : SymKind) → b ≡ ends_in_words before → t.kind ≡ k
    → goes_on b k ≡ has_words (words_of (cond (is_type_part (Some k)) (t ∷ run_of (reverse before)) []))
unfolding is_type_part words_of ends_in_words
by_kind before t b (kind.TypeWord w) e is = rw is refl
by_kind before t b (kind.Keyword keyword.Const) e is = rw is e
by_kind before t b _ e is = refl

pub goes : (before : List Sym) (t : Sym) (b : Bool) → b ≡ ends_in_words before → goes_on b t.kind ≡ ends_in_words (before ++ t ∷ [])
goes before t b e = by_kind before t b t.kind e refl ∙ sym (ends_by before t)

-- there is one first place
pub one_place : {w : List Sym} {n m : ℕ} → IsC7 w n → IsC7 w m → n ≡ m
one_place {w = w} a b = elim (cases_order a.at b.at) [
  | inl same ↦ a.left ∙ ap (λ k. length w - k) same ∙ sym b.left
  | inr apart ↦ elim apart [
    | inl below ↦ absurd (false≢true (sym (b.first a.at below) ∙ a.fault))
    | inr above ↦ absurd (false≢true (sym (a.first b.at above) ∙ b.fault))
  ]
]

-- ---- the loop

-- what the code finds at a token
pub tested : (w : List Sym) (at : ℕ) (b r : Bool) → b ≡ ends_in_words (take at w)
    → ((before : List Sym) → b ≡ ends_in_words before → r ≡ is_front_fault before (take (length w - at) (drop at w))) → r ≡ is_fault w at
tested w at b r e test = test (take at w) e ∙ ap (is_front_fault (take at w)) (take_all (length w - at) (drop at w) (omega (arith, length-drop at w)))

pub next_clear : (w : List Sym) (at : ℕ) → is_fault w at ≡ false → ((k : ℕ) → k < at → is_fault w k ≡ false) → (k : ℕ) → k < at + 1 → is_fault w k ≡ false
next_clear w at here before k below = elim (cases_order k at) [
  | inl same ↦ ap (is_fault w) same ∙ here
  | inr apart ↦ elim apart [ inl less ↦ before k less | inr more ↦ absurd (omega arith) ]
]

pub next_run : (w : List Sym) (at : ℕ) (d : Sym) (b : Bool) → at < length w → b ≡ ends_in_words (take at w) → goes_on b (get_or w at d).kind ≡ ends_in_words (take (at + 1) w)
next_run w at d b within e = goes (take at w) (get_or w at d) b e ∙ ap ends_in_words (sym (take_more w at d within))

pub past_end : (w : List Sym) (k : ℕ) → length w ≤ k → is_fault w k ≡ false
past_end w k over = ap (is_front_fault (take k w)) (drop_of_length-le w over)

pub a_place : (w : List Sym) (at : ℕ) → at < length w → is_fault w at ≡ true → ((k : ℕ) → k < at → is_fault w k ≡ false) → IsC7 w (length w - at)
a_place w at within here before = record { at = at; within = within; left = refl; fault = here; first = before }

pub no_place : (w : List Sym) (at : ℕ) → length w ≤ at → ((k : ℕ) → k < at → is_fault w k ≡ false) → (k : ℕ) → is_fault w k ≡ false
no_place w at over before k = elim (cases_lt k at) [ inl below ↦ before k below | inr past ↦ past_end w k (omega arith) ]
