-- Which directive lines have clauses.
use Rattle.std.proofs.Common.{◌≡◌, ℕ, ◌+◌, ◌<◌, ◌==◌, Bool, true, false, not, ◌&&◌, cond, List, [], ◌∷◌, ◌++◌, map, filter, refl, ap, arith}
use Rattle.std.proofs.lemmas.List.Sums.{sum_by-append}
use Rattle.std.proofs.lemmas.Bool.Decides.{nat_tests}
use Rattle.vk_tokens.specs.declared.tokens.Token.{Token}
use Rattle.vk_parse_words.specs.Lines.{is_heading, is_line_end, begun, ended, Placed, place, placed, number, in_line, sym_of, is_clause_of, clauses}

begun_append : (a b : List Token) → begun (a ++ b) ≡ begun a + begun b
begun_append a b = sum_by-append (λ t. cond (is_heading t.kind) 1 0) a b

-- a token of another line's clauses
other_line : (i h l e : Bool) → (i ≡ true → e ≡ false) → ((i && not h) && not l) && e ≡ false
other_line true true l e apart = refl
other_line true false true e apart = refl
other_line true false false e apart = apart refl
other_line false h l e apart = refl

-- a line that begins has a number of at least 1
first_line : (p : Placed) → in_line p ≡ true → (number p == 0) ≡ false
first_line p within =
    let begins : ended p.before < begun p.before = grind (arith, nat_tests) in
    let more = begun_append p.before (p.token ∷ []) in
    grind (arith, nat_tests)

no_zeroth : (before ts : List Token) → filter (is_clause_of 0) (placed before ts) ≡ []
no_zeroth before [] = refl
no_zeroth before (t ∷ ts) =
    let p = place before t in
    rw (other_line (in_line p) (is_heading t.kind) (is_line_end t.kind) (number p == 0) (first_line p)) (no_zeroth (before ++ t ∷ []) ts)

no_later : (n : ℕ) (before ts : List Token) → begun before + begun ts < n → filter (is_clause_of n) (placed before ts) ≡ []
no_later n before [] above = refl
no_later n before (t ∷ ts) above =
    let p = place before t in
    let more = begun_append before (t ∷ []) in
    let all : begun (t ∷ ts) ≡ begun (t ∷ []) + begun ts = begun_append (t ∷ []) ts in
    let another : (number p == n) ≡ false = grind (arith, nat_tests) in
    rw (other_line (in_line p) (is_heading t.kind) (is_line_end t.kind) (number p == n) (λ _. another)) (no_later n (before ++ t ∷ []) ts (omega (arith, above, more, all)))

pub no_line_zero : (names : List (List ℕ)) (ts : List Token) → clauses names ts 0 ≡ []
unfolding clauses
no_line_zero names ts = ap (map (sym_of names)) (no_zeroth [] ts)

pub no_line_above : (names : List (List ℕ)) (ts : List Token) (n : ℕ) → begun ts < n → clauses names ts n ≡ []
unfolding clauses
no_line_above names ts n above = ap (map (sym_of names)) (no_later n [] ts (omega (arith, above)))
