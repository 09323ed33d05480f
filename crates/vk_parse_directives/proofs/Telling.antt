-- The loop over the clauses of a line.
use Rattle.std.proofs.Common.{◌≡◌, ℕ, zero, suc, ◌-◌, ◌<◌, ◌≤◌, true, false, List, [], ◌∷◌, ◌++◌, length, take, drop, refl, sym, ap, ◌∙◌, subst, append-nil, append_assoc, length-drop, arith}
use Rattle.std.proofs.lemmas.List.{take_all}
use Rattle.vk_ast.specs.Directives.{ClauseTree}
use Rattle.vk_grammar_expr.specs.declared.symbols.Sym.{Sym}
use Rattle.vk_parse_directives.specs.Cuts.{piece_len, skips_comma}
use Rattle.vk_parse_directives.specs.Inner.Reading.{clause_in, clauses_in, clauses_of}

-- What was told and what is left are together the clauses of `w`.
pub record Telling (names : List (List ℕ)) (w rest : List Sym) (told : List ClauseTree) : Type 0 where
  pub turns : ℕ
  pub room : length rest ≤ turns
  pub goes : told ++ clauses_in names turns rest ≡ clauses_of names w

pub start : (names : List (List ℕ)) (w : List Sym) → Telling names w w []
unfolding clauses_of
start names w = record { turns = length w; room = omega arith; goes = refl }

none_left : (names : List (List ℕ)) (turns : ℕ) (rest : List Sym) → length rest < 1 → clauses_in names turns rest ≡ []
none_left names zero rest none = refl
none_left names (suc m) [] none = refl
none_left names (suc m) (t ∷ rest) none = absurd (omega arith)

pub finish : (names : List (List ℕ)) (w rest : List Sym) (told : List ClauseTree) → Telling names w rest told → length rest < 1 → told ≡ clauses_of names w
finish names w rest told l none = sym (append-nil told) ∙ ap (λ cs. told ++ cs) (sym (none_left names l.turns rest none)) ∙ l.goes

skipped : (names : List (List ℕ)) (turns : ℕ) (rest : List Sym) → length rest ≤ turns → 1 ≤ length rest → skips_comma rest ≡ true
    → (m : ℕ) × (length (take (length rest - 1) (drop 1 rest)) ≤ m) × (clauses_in names turns rest ≡ clauses_in names m (take (length rest - 1) (drop 1 rest)))
skipped names zero rest room some skips = absurd (omega arith)
skipped names (suc m) [] room some skips = absurd (omega arith)
skipped names (suc m) (t ∷ rest) room some skips =
    let whole : take (length (t ∷ rest) - 1) rest ≡ rest = take_all (length (t ∷ rest) - 1) rest (omega arith) in
    (m, rw whole (omega arith), rw (whole, skips) refl)

pub skip : (names : List (List ℕ)) (w rest : List Sym) (told : List ClauseTree) → Telling names w rest told → 1 ≤ length rest → skips_comma rest ≡ true
    → Telling names w (take (length rest - 1) (drop 1 rest)) told
skip names w rest told l some skips =
    let go = skipped names l.turns rest l.room some skips in
    record { turns = go.0; room = go.1; goes = ap (λ cs. told ++ cs) (sym go.2) ∙ l.goes }

pieced : (names : List (List ℕ)) (turns : ℕ) (rest : List Sym) → length rest ≤ turns → 1 ≤ length rest → skips_comma rest ≡ false → 1 ≤ piece_len rest
    → (m : ℕ) × (length (drop (piece_len rest) rest) ≤ m) × (clauses_in names turns rest ≡ (clause_in names (take (piece_len rest) rest) ∷ clauses_in names m (drop (piece_len rest) rest)))
pieced names zero rest room some skips one = absurd (omega arith)
pieced names (suc m) [] room some skips one = absurd (omega arith)
pieced names (suc m) (t ∷ rest) room some skips one = (m, omega (arith, length-drop (piece_len (t ∷ rest)) (t ∷ rest)), rw skips refl)

pub clause : (names : List (List ℕ)) (w rest text behind : List Sym) (n : ℕ) (told : List ClauseTree) (c : ClauseTree) → Telling names w rest told → 1 ≤ length rest → skips_comma rest ≡ false
    → text ≡ take n rest → behind ≡ drop n rest → n ≡ piece_len rest → 1 ≤ n → c ≡ clause_in names text
    → Telling names w behind (told ++ c ∷ [])
clause names w rest text behind n told c l some skips front back count one is =
    let go = pieced names l.turns rest l.room some skips (omega arith) in
    let text_is : take (piece_len rest) rest ≡ text = ap (λ k. take k rest) (sym count) ∙ sym front in
    let behind_is : drop (piece_len rest) rest ≡ behind = ap (λ k. drop k rest) (sym count) ∙ sym back in
    record {
      turns = go.0;
      room = subst (λ (b : List Sym). length b ≤ go.0) behind_is go.1;
      goes = append_assoc told (c ∷ []) (clauses_in names go.0 behind)
          ∙ ap (λ cs. told ++ cs) (sym (go.2 ∙ rw (text_is, behind_is) (ap (λ (x : ClauseTree). x ∷ clauses_in names go.0 behind) (sym is))))
          ∙ l.goes;
    }
