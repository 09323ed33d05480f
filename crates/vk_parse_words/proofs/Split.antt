-- How the split of a unit's tokens grows by one token.
use Rattle.std.proofs.Common.{◌≡◌, ◌≢◌, ℕ, ◌+◌, ◌-◌, ◌<◌, ◌≤◌, ◌==◌, suc, Bool, true, false, not, ◌&&◌, cond, nat_lt, List, [], ◌∷◌, ◌++◌, map, filter, take, length, count_by, get_or, set, refl, sym, ap, ap₂, ◌∙◌, subst, inl, inr, append_assoc, arith, length-append}
use Rattle.std.proofs.lemmas.List.{append-nil, map-append, map-set, get_or-map, get_or_push, get_or_append_left, get_or-set_same, get_or-set_other, length-set, length-map, length-take-le, take_more, take_all}
use Rattle.std.proofs.lemmas.List.Elements.{filter-append}
use Rattle.std.proofs.lemmas.List.Sums.{sum_by_push}
use Rattle.std.proofs.lemmas.Bool.{cases_lt, cases_order, cases_Bool, false≢true}
use Rattle.std.proofs.lemmas.Bool.Decides.{nat_tests}
use mir.Val.{bool_byte}
use Rattle.std.specs.Global.{Vec}
use Rattle.vk_tokens.specs.declared.tokens.Token.{Token}
use Rattle.vk_tokens.specs.declared.tokens.TokenKind.{TokenKind}
use Rattle.vk_tokens.specs.declared.tokens.TokenKind.TheVariants as token
use Rattle.vk_grammar_expr.specs.declared.symbols.Sym.{Sym}
use Rattle.vk_grammar_expr.specs.declared.symbols.SymKind.{SymKind}
use Rattle.vk_parse_words.specs.Lines.{is_heading, is_line_end, begun, ended, Placed, place, placed, number, in_line, sym_kind, sym_of, stands_outside, outside, is_clause_of, clauses, with_last, next_outside, next_lines, IsSplit}
use Rattle.vk_parse_words.specs.Inner.Syms.{rows}

-- one token more in the last of the lines
pub pushed_last : (s : Sym) (lines : List (Vec Sym)) (i : ℕ) (v w : Vec Sym) → i < length lines → i ≡ length lines - 1 → v ≡ get_or lines i v → w.items ≡ v.items ++ s ∷ []
    → rows (set lines i w) ≡ with_last s (rows lines)
pushed_last s lines i v w within last is more =
    let f : Vec Sym → List Sym = λ u. u.items in
    let here : get_or (rows lines) i [] ≡ v.items = get_or-map f lines i v [] within ∙ sym (ap f is) in
    let end : length (rows lines) - 1 ≡ i = omega (arith, length-map lines f) in
    map-set f lines i w ∙ rw (end, here, more) refl

kept_by : {X Y : Type 0} (p : X → Bool) (f : X → Y) (front : List Y) (y : X) → front ++ map f (filter p (y ∷ [])) ≡ cond (p y) (front ++ f y ∷ []) front
kept_by p f front y = elim (p y) as (λ b. front ++ map f (cond b (y ∷ []) []) ≡ cond b (front ++ f y ∷ []) front) [ true ↦ refl | false ↦ append-nil front ]

pub kept : {X Y : Type 0} (p : X → Bool) (f : X → Y) (xs : List X) (y : X) → map f (filter p (xs ++ y ∷ [])) ≡ cond (p y) (map f (filter p xs) ++ f y ∷ []) (map f (filter p xs))
kept p f xs y = ap (map f) (filter-append p xs (y ∷ [])) ∙ map-append f (filter p xs) (filter p (y ∷ [])) ∙ kept_by p f (map f (filter p xs)) y

pub placed_push : (before xs : List Token) (t : Token) → placed before (xs ++ t ∷ []) ≡ placed before xs ++ place (before ++ xs) t ∷ []
placed_push before [] t = ap (λ (b : List Token). place b t ∷ []) (sym (append-nil before))
placed_push before (x ∷ xs) t =
    ap (λ (l : List Placed). place before x ∷ l) (placed_push (before ++ x ∷ []) xs t ∙ ap (λ (b : List Token). placed (before ++ x ∷ []) xs ++ place b t ∷ []) (append_assoc before (x ∷ []) xs))

pub counted : {X : Type 0} (p : X → Bool) (xs : List X) (y : X) → count_by p (xs ++ y ∷ []) ≡ cond (p y) (count_by p xs + 1) (count_by p xs)
counted p xs y = sum_by_push (λ x. cond (p x) 1 0) xs y ∙ one (p y) (count_by p xs)
  where
    one : (b : Bool) (n : ℕ) → n + cond b 1 0 ≡ cond b (n + 1) n
    one true n = refl
    one false n = omega arith

-- ---- one token more

equal : (a b : ℕ) → a ≡ b → (a == b) ≡ true
equal a b e = grind (arith, nat_tests)

unequal : (a b : ℕ) → a ≢ b → (a == b) ≡ false
unequal a b e = grind (arith, nat_tests)

-- neither a heading nor a line's end nor what stands outside is a token of a clause
heading_is_none : (i h l e : Bool) → h ≡ true → ((i && not h) && not l) && e ≡ false
heading_is_none i h l e is = rw is (elim i as (λ b. ((b && not true) && not l) && e ≡ false) [ true ↦ refl | false ↦ refl ])

other_is_none : (i h l e : Bool) → i && not l ≡ false → ((i && not h) && not l) && e ≡ false
other_is_none true true l e is = refl
other_is_none true false l e is = rw is refl
other_is_none false h l e is = refl

outside_is_none : (i h l e : Bool) → e ≡ false → ((i && not h) && not l) && e ≡ false
outside_is_none true true l e is = refl
outside_is_none true false true e is = refl
outside_is_none true false false e is = is
outside_is_none false h l e is = refl

clause_is_some : (i h l e : Bool) → i && not l ≡ true → h ≡ false → e ≡ true → ((i && not h) && not l) && e ≡ true
clause_is_some i h l e inside plain is = rw (plain, is) (elim i as (λ b. b && not l ≡ true → ((b && not false) && not l) && true ≡ true) [ true ↦ λ x. rw x refl | false ↦ λ x. x ] inside)

heading_no_end : (k : TokenKind) → is_heading k ≡ true → is_line_end k ≡ false
heading_no_end token.Simd h = refl
heading_no_end token.Simdfn h = refl
heading_no_end (token.Name id) h = refl
heading_no_end (token.Int ty n) h = refl
heading_no_end (token.Sign m) h = refl
heading_no_end token.LineEnd h = absurd (false≢true h)

clause_no_end : (i l : Bool) → i && not l ≡ true → l ≡ false
clause_no_end true true h = sym h
clause_no_end true false h = refl
clause_no_end false l h = absurd (false≢true h)

moved : {names : List (List ℕ)} {ts : List Token} {syms : List Sym} {lines more : List (List Sym)} {ends later : ℕ}
    → more ≡ lines → later ≡ ends → IsSplit names ts syms lines ends → IsSplit names ts syms more later
moved {names = names} {ts = ts} {syms = syms} {lines = lines} {later = later} l e split =
    subst (λ m. IsSplit names ts syms m later) (sym l) (subst (λ n. IsSplit names ts syms lines n) (sym e) split)

module _ (names : List (List ℕ)) (ts : List Token) (t : Token) where
  here : Placed
  here = place ts t

  pub outside_push : outside names (ts ++ t ∷ []) ≡ cond (stands_outside (place ts t)) (outside names ts ++ sym_of names (place ts t) ∷ []) (outside names ts)
  unfolding outside
  outside_push = ap (λ l. map (sym_of names) (filter stands_outside l)) (placed_push [] ts t) ∙ kept stands_outside (sym_of names) (placed [] ts) (place ts t)

  pub clauses_push : (n : ℕ) → clauses names (ts ++ t ∷ []) n ≡ cond (is_clause_of n (place ts t)) (clauses names ts n ++ sym_of names (place ts t) ∷ []) (clauses names ts n)
  unfolding clauses
  clauses_push n = ap (λ l. map (sym_of names) (filter (is_clause_of n) l)) (placed_push [] ts t) ∙ kept (is_clause_of n) (sym_of names) (placed [] ts) (place ts t)

  pub no_clause : (n : ℕ) → is_clause_of n (place ts t) ≡ false → clauses names (ts ++ t ∷ []) n ≡ clauses names ts n
  no_clause n e = clauses_push n ∙ rw e refl

  pub a_clause : (n : ℕ) → is_clause_of n (place ts t) ≡ true → clauses names (ts ++ t ∷ []) n ≡ clauses names ts n ++ sym_of names (place ts t) ∷ []
  a_clause n e = clauses_push n ∙ rw e refl

  pub begun_push : begun (ts ++ t ∷ []) ≡ cond (is_heading t.kind) (begun ts + 1) (begun ts)
  begun_push = counted (λ x. is_heading x.kind) ts t

  pub ended_push : ended (ts ++ t ∷ []) ≡ cond (is_line_end t.kind) (ended ts + 1) (ended ts)
  ended_push = counted (λ x. is_line_end x.kind) ts t

  module _ {syms : List Sym} {lines : List (List Sym)} {ends : ℕ} (split : IsSplit names ts syms lines ends) where
    pub inside_is : nat_lt ends (length lines) ≡ in_line (place ts t)
    inside_is = let a = split.ends_are in let b = split.count in cc

    pub syms_push : next_outside (in_line (place ts t)) t.kind (sym_of names (place ts t)) syms ≡ outside names (ts ++ t ∷ [])
    syms_push = rw (split.syms_are, outside_push) refl

    with_heading : is_heading t.kind ≡ true → is_line_end t.kind ≡ false
        → IsSplit names (ts ++ t ∷ []) (next_outside (in_line (place ts t)) t.kind (sym_of names (place ts t)) syms) (lines ++ [] ∷ []) ends
    with_heading h l =
        let more : begun (ts ++ t ∷ []) ≡ begun ts + 1 = begun_push ∙ rw h refl in
        let none : (n : ℕ) → clauses names (ts ++ t ∷ []) n ≡ clauses names ts n = λ n. no_clause n (heading_is_none (in_line (place ts t)) (is_heading t.kind) (is_line_end t.kind) (number (place ts t) == n) h) in
        record {
          syms_are = syms_push;
          count = omega (arith, length-append lines ([] ∷ []), more, split.count);
          lines_are = λ k within. elim (cases_lt k (length lines)) [
            | inl below ↦ get_or_append_left lines ([] ∷ []) [] k below ∙ split.lines_are k below ∙ sym (none (suc k))
            | inr above ↦
                let last : length lines ≡ k = omega (arith, length-append lines ([] ∷ [])) in
                get_or_push lines [] [] k last ∙ sym (none (suc k) ∙ split.later_are (suc k) (omega (arith, split.count)))
          ];
          later_are = λ n above. none n ∙ split.later_are n (omega (arith, more));
          ends_are = split.ends_are ∙ sym (ended_push ∙ rw l refl);
        }

    with_clause : is_heading t.kind ≡ false → in_line (place ts t) && not (is_line_end t.kind) ≡ true → is_line_end t.kind ≡ false
        → IsSplit names (ts ++ t ∷ []) (next_outside (in_line (place ts t)) t.kind (sym_of names (place ts t)) syms) (with_last (sym_of names (place ts t)) lines) ends
    with_clause h i l =
        let same : begun (ts ++ t ∷ []) ≡ begun ts = begun_push ∙ rw h refl in
        let last = length lines - 1 in
        let grown = get_or lines last [] ++ sym_of names (place ts t) ∷ [] in
        record {
          syms_are = syms_push;
          count = length-set lines last grown ∙ split.count ∙ sym same;
          lines_are = λ k within. let below : k < length lines = omega (arith, length-set lines last grown) in elim (cases_order k last) [
            | inl here ↦
                let is : number (place ts t) ≡ suc k = omega (arith, same, split.count) in
                subst (λ (j : ℕ). get_or (with_last (sym_of names (place ts t)) lines) j [] ≡ clauses names (ts ++ t ∷ []) (suc k)) (sym here)
                (get_or-set_same lines last grown [] (omega arith) ∙ ap (λ (j : ℕ). get_or lines j [] ++ sym_of names (place ts t) ∷ []) (sym here)
                ∙ ap (λ (line : List Sym). line ++ sym_of names (place ts t) ∷ []) (split.lines_are k below)
                ∙ sym (a_clause (suc k) (clause_is_some (in_line (place ts t)) (is_heading t.kind) (is_line_end t.kind) (number (place ts t) == suc k) i h (equal _ _ is))))
            | inr apart ↦
                let other : k ≢ last = λ e. elim apart [ inl x ↦ omega arith | inr x ↦ omega arith ] in
                let far : number (place ts t) ≢ suc k = λ e. other (omega (arith, same, split.count)) in
                get_or-set_other lines last k grown [] other ∙ split.lines_are k below
                ∙ sym (no_clause (suc k) (outside_is_none (in_line (place ts t)) (is_heading t.kind) (is_line_end t.kind) (number (place ts t) == suc k) (unequal _ _ far)))
          ];
          later_are = λ n above. no_clause n (outside_is_none (in_line (place ts t)) (is_heading t.kind) (is_line_end t.kind) (number (place ts t) == n) (unequal _ _ (λ e. omega arith))) ∙ split.later_are n (omega (arith, same));
          ends_are = split.ends_are ∙ sym (ended_push ∙ rw l refl);
        }

    with_other : is_heading t.kind ≡ false → in_line (place ts t) && not (is_line_end t.kind) ≡ false
        → IsSplit names (ts ++ t ∷ []) (next_outside (in_line (place ts t)) t.kind (sym_of names (place ts t)) syms) lines (cond (is_line_end t.kind) (ends + 1) ends)
    with_other h i =
        let same : begun (ts ++ t ∷ []) ≡ begun ts = begun_push ∙ rw h refl in
        let none : (n : ℕ) → clauses names (ts ++ t ∷ []) n ≡ clauses names ts n = λ n. no_clause n (other_is_none (in_line (place ts t)) (is_heading t.kind) (is_line_end t.kind) (number (place ts t) == n) i) in
        record {
          syms_are = syms_push;
          count = split.count ∙ sym same;
          lines_are = λ k within. split.lines_are k within ∙ sym (none (suc k));
          later_are = λ n above. none n ∙ split.later_are n (omega (arith, same));
          ends_are = rw split.ends_are (sym ended_push);
        }

    -- with whatever token
    pub step : (inside : Bool) (s : Sym) → inside ≡ in_line (place ts t) → s ≡ sym_of names (place ts t)
        → IsSplit names (ts ++ t ∷ []) (next_outside inside t.kind s syms) (next_lines inside t.kind s lines) (cond (is_line_end t.kind) (ends + 1) ends)
    step inside s i e = rw (i, e) (elim (cases_Bool (is_heading t.kind)) [
      | inl h ↦ let plain = heading_no_end t.kind h in moved (rw h refl) (rw plain refl) (with_heading h plain)
      | inr h ↦ elim (cases_Bool (in_line (place ts t) && not (is_line_end t.kind))) [
        | inl c ↦ let plain = clause_no_end _ _ c in moved (rw (h, c) refl) (rw plain refl) (with_clause h c plain)
        | inr c ↦ moved (rw (h, c) refl) refl (with_other h c)
      ]
    ])

-- ---- the loop

-- the split of the first `at` tokens
pub record Splitting (names : List (List ℕ)) (ts : List Token) (at : ℕ) (syms : List Sym) (lines : List (List Sym)) (ends : ℕ) : Type 0 where
  pub split : IsSplit names (take at ts) syms lines ends
  pub few : length lines ≤ at
  pub fewer : ends ≤ at

pub start : (names : List (List ℕ)) (ts : List Token) → Splitting names ts 0 [] [] 0
unfolding outside clauses
start names ts = record {
  split = record { syms_are = refl; count = refl; lines_are = λ k within. absurd (omega arith); later_are = λ n above. refl; ends_are = refl };
  few = omega arith;
  fewer = omega arith;
}

heads_less : (b : Bool) (n : ℕ) → cond b (n + 1) n ≡ n + cond b 1 0
heads_less true n = refl
heads_less false n = sym (omega arith)

set_length : (inside : Bool) (k : TokenKind) (s : Sym) (lines : List (List Sym)) (at : ℕ) → length lines ≤ at → length (next_lines inside k s lines) ≤ at + 1
set_length inside k s lines at few = elim (is_heading k) as (λ h. length (cond h (lines ++ [] ∷ []) (cond (inside && not (is_line_end k)) (with_last s lines) lines)) ≤ at + 1) [
  | true ↦ omega (arith, length-append lines ([] ∷ []))
  | false ↦ elim (inside && not (is_line_end k)) as (λ b. length (cond b (with_last s lines) lines) ≤ at + 1) [
    | true ↦ let last = length lines - 1 in omega (arith, length-set lines last (get_or lines last [] ++ s ∷ []))
    | false ↦ omega arith
  ]
]

at_most : (b : Bool) (n at : ℕ) → n ≤ at → n + cond b 1 0 ≤ at + 1
at_most true n at h = omega arith
at_most false n at h = omega arith

as_cond : (b : Bool) → bool_byte b ≡ cond b 1 0
as_cond true = refl
as_cond false = refl

pub next : (names : List (List ℕ)) (ts all : List Token) (at : ℕ) (d t : Token) (syms : List Sym) (lines : List (List Sym)) (ends count : ℕ) (kind : SymKind) (more later : ℕ)
    → Splitting names ts at syms lines ends → at < length ts → all ≡ ts → get_or all at d ≡ t → count ≡ length lines
    → more ≡ bool_byte (is_heading t.kind) → kind ≡ sym_kind names (count + more) t.kind → later ≡ bool_byte (is_line_end t.kind)
    → let s : Sym = record { line = t.line; at = at; kind = kind } in
    Splitting names ts (at + 1) (next_outside (nat_lt ends count) t.kind s syms) (next_lines (nat_lt ends count) t.kind s lines) (ends + later)
next names ts all at d t syms lines ends count kind more later l within same_list found c m k e =
    let front = take at ts in
    let inside = nat_lt ends count in
    let is : get_or ts at d ≡ t = ap (λ xs. get_or xs at d) (sym same_list) ∙ found in
    let len : length front ≡ at = length-take-le at ts (omega arith) in
    let s : Sym = record { line = t.line; at = at; kind = kind } in
    let longer : take (at + 1) ts ≡ front ++ t ∷ [] = take_more ts at d within ∙ ap (λ (x : Token). front ++ x ∷ []) is in
    let number : count + more ≡ begun (front ++ t ∷ []) =
    ap₂ (λ (a b : ℕ). a + b) (c ∙ l.split.count) (m ∙ as_cond (is_heading t.kind)) ∙ sym (begun_push names front t ∙ heads_less (is_heading t.kind) (begun front)) in
    let same : s ≡ sym_of names (place front t) =
    ap₂ (λ (n : ℕ) (x : SymKind). let y : Sym = record { line = t.line; at = n; kind = x } in y) (sym len) (k ∙ ap (λ n. sym_kind names n t.kind) number) in
    let split = step names front t l.split inside s (ap (λ n. nat_lt ends n) c ∙ inside_is names front t l.split) same in
    record {
      split = rw (longer, e, as_cond (is_line_end t.kind)) (moved refl (sym (heads_less (is_line_end t.kind) ends)) split);
      few = set_length inside t.kind s lines at l.few;
      fewer = rw (e, as_cond (is_line_end t.kind)) (at_most (is_line_end t.kind) ends at l.fewer);
    }

pub finished : (names : List (List ℕ)) (ts : List Token) (at : ℕ) {syms : List Sym} {lines : List (List Sym)} {ends : ℕ} → Splitting names ts at syms lines ends → length ts ≤ at
    → IsSplit names ts syms lines ends
finished names ts at {syms = syms} {lines = lines} {ends = ends} l over = subst (λ (front : List Token). IsSplit names front syms lines ends) (take_all at ts over) l.split
