-- What the reader of clauses tells, against the relation.
use Rattle.std.proofs.Common.{◌≡◌, ℕ, zero, suc, ◌+◌, ◌≤◌, Bool, true, false, ◌&&◌, cond, List, [], ◌∷◌, ◌++◌, length, take, drop, Option, Some, None, refl, sym, ap, ◌∙◌, subst, inl, inr, length-drop, arith}
use Rattle.std.proofs.lemmas.Bool.{cases_Bool, false≢true}
use Rattle.vk_ast.specs.declared.directives.PlacedName.{PlacedName}
use Rattle.vk_ast.specs.Tree.{Tree}
use Rattle.vk_ast.specs.Directives.{Says, ClauseTree}
use Rattle.vk_tokens.specs.declared.tokens.Mark.TheVariants as mark
use Rattle.vk_grammar_expr.specs.declared.symbols.Sym.{Sym}
use Rattle.vk_grammar_expr.specs.Symbols.{IsSign, is_sign, head}
use Rattle.vk_grammar_expr.proofs.Signs.{sign_is}
use Rattle.vk_parse_directives.specs.declared.words.Word.{Word}
use Rattle.vk_parse_directives.specs.declared.words.Word.TheVariants as word
use Rattle.vk_parse_directives.specs.Words.{word_at}
use Rattle.vk_parse_directives.specs.Cuts.{is_any_word, is_comma, group_len, piece_len, begins_clause, skips_comma, before_colon, behind_colon}
use Rattle.vk_parse_directives.specs.Clauses.{Wraps, AreIds, IsForm, a_simdlen, a_uniform, an_aligned, an_aligned_to, a_linear, an_inbranch, a_notinbranch, HasForm, known, IsClause, of_a_form, of_no_form, AreClauses, no_clauses, behind_comma, a_clause}
use Rattle.vk_parse_directives.specs.Inner.Reading.{◌>>=◌, cond_in, ids_in, optional_in, inside, aligned_in, linear_in, form_in, known_in, told_as, clause_in, clauses_in, clauses_of}
use Rattle.vk_parse_directives.proofs.Conds.{cond_only, cond_of}
use Rattle.vk_parse_directives.proofs.Forms.{some_is, gave, comma_of, ids_found, ids_only, inside_of, wraps}
use Rattle.vk_parse_directives.proofs.Colons.{none_ids, before_plain, behind_plain, before_u, behind_u, cut, uncut}
use Rattle.vk_parse_directives.proofs.Linears.{linear_found, linear_only}

module _ (names : List (List ℕ)) where
  -- ---- forms

  aligned_by : {x w : List Sym} {ids : List PlacedName} {o : Option Tree} (b : Option (List Sym)) → behind_colon x ≡ b → Wraps x w → AreIds ids (before_colon x) → optional_in b ≡ Some o
      → IsForm names word.Aligned (Says.aligned ids o) w
  aligned_by {x} {w} {ids} None is wr all e =
      subst (λ (o : Option Tree). IsForm names word.Aligned (Says.aligned ids o) w) (some_is e) (an_aligned wr (subst (AreIds ids) (uncut x is) all))
  aligned_by {x} {w} {ids} (Some y) is wr all e =
      let c = cut x is in
      let g = gave (cond_in y) (λ t. Some (Some t)) e in
      subst (λ (o : Option Tree). IsForm names word.Aligned (Says.aligned ids o) w) (some_is g.then_is)
      (an_aligned_to (subst (λ (l : List Sym). Wraps l w) c.parts wr) all c.is (cond_only y g.value g.is))

  aligned_found : {x w : List Sym} {s : Says} → Wraps x w → aligned_in x ≡ Some s → IsForm names word.Aligned s w
  unfolding aligned_in
  aligned_found {x} {w} wr e =
      let g = gave (ids_in (before_colon x)) (λ ids. optional_in (behind_colon x) >>= (λ o. Some (Says.aligned ids o))) e in
      let h = gave (optional_in (behind_colon x)) (λ o. Some (Says.aligned g.value o)) g.then_is in
      subst (λ (s : Says). IsForm names word.Aligned s w) (some_is h.then_is) (aligned_by (behind_colon x) refl wr (ids_found (before_colon x) g.is) h.is)

  form_found : (v : Word) (w : List Sym) {s : Says} → form_in names (Some v) w ≡ Some s → IsForm names v s w
  unfolding form_in
  form_found word.Simdlen w e =
      let g = gave (inside w) (λ x. cond_in x >>= (λ t. Some (Says.simdlen t))) e in
      let h = gave (cond_in g.value) (λ t. Some (Says.simdlen t)) g.then_is in
      subst (λ (s : Says). IsForm names word.Simdlen s w) (some_is h.then_is) (a_simdlen (wraps w g.is) (cond_only g.value h.value h.is))
  form_found word.Uniform w e =
      let g = gave (inside w) (λ x. ids_in x >>= (λ ids. Some (Says.uniform ids))) e in
      let h = gave (ids_in g.value) (λ ids. Some (Says.uniform ids)) g.then_is in
      subst (λ (s : Says). IsForm names word.Uniform s w) (some_is h.then_is) (a_uniform (wraps w g.is) (ids_found g.value h.is))
  form_found word.Aligned w e = let g = gave (inside w) aligned_in e in aligned_found (wraps w g.is) g.then_is
  form_found word.Linear w e = let g = gave (inside w) (linear_in names) e in a_linear (wraps w g.is) (linear_found names g.value g.then_is)
  form_found word.Inbranch [] e = subst (λ (s : Says). IsForm names word.Inbranch s []) (some_is e) an_inbranch
  form_found word.Inbranch (t ∷ w) e = absurd (cc)
  form_found word.Notinbranch [] e = subst (λ (s : Says). IsForm names word.Notinbranch s []) (some_is e) a_notinbranch
  form_found word.Notinbranch (t ∷ w) e = absurd (cc)
  form_found word.Val w e = absurd (cc)
  form_found word.Ref w e = absurd (cc)
  form_found word.Uval w e = absurd (cc)
  form_found word.Step w e = absurd (cc)

  within : {A : Type 0} {x w : List Sym} (f : List Sym → Option A) → Wraps x w → (inside w >>= f) ≡ f x
  within f wr = ap (λ o. o >>= f) (inside_of wr)

  aligned_only : {ids : List PlacedName} {o : Option Tree} (x y : List Sym) (b : Option (List Sym)) → before_colon x ≡ y → behind_colon x ≡ b → AreIds ids y → optional_in b ≡ Some o
      → aligned_in x ≡ Some (Says.aligned ids o)
  unfolding aligned_in
  aligned_only x y b before behind all is = rw (before, behind, ids_only all, is) refl

  form_only : {v : Word} {s : Says} {w : List Sym} → IsForm names v s w → form_in names (Some v) w ≡ Some s
  unfolding form_in
  form_only (a_simdlen wr c) = within (λ x. cond_in x >>= (λ t. Some (Says.simdlen t))) wr ∙ ap (λ o. o >>= (λ t. Some (Says.simdlen t))) (cond_of c)
  form_only (a_uniform wr all) = within (λ x. ids_in x >>= (λ ids. Some (Says.uniform ids))) wr ∙ ap (λ o. o >>= (λ ids. Some (Says.uniform ids))) (ids_only all)
  form_only (an_aligned {x = x} wr all) = let n = none_ids all in within aligned_in wr ∙ aligned_only x x None (before_plain n) (behind_plain n) all refl
  form_only (an_aligned_to {x = x} {u = u} {y = y} wr all i c) =
      let n = none_ids all in
      within aligned_in wr ∙ aligned_only (x ++ (u ∷ y)) x (Some y) (before_u n i y) (behind_u n i y) all (ap (λ o. o >>= (λ t. Some (Some t))) (cond_of c))
  form_only (a_linear wr l) = within (linear_in names) wr ∙ linear_only names l
  form_only an_inbranch = refl
  form_only a_notinbranch = refl

  -- ---- clauses

  no_word : (w : List Sym) {s : Says} → form_in names None w ≡ Some s → ⊥
  unfolding form_in
  no_word w e = cc

  known_by : (o : Option Word) (t : Sym) (w : List Sym) {s : Says} → word_at names t.kind ≡ o → form_in names o w ≡ Some s → HasForm names s (t ∷ w)
  known_by (Some v) t w is e = known is (form_found v w e)
  known_by None t w is e = absurd (no_word w e)

  known_found : (x : List Sym) {s : Says} → known_in names x ≡ Some s → HasForm names s x
  known_found [] e = absurd (cc)
  known_found (t ∷ w) e = known_by (word_at names t.kind) t w refl e

  known_only : {s : Says} {x : List Sym} → HasForm names s x → known_in names x ≡ Some s
  known_only (known {w = w} is f) = ap (λ o. form_in names o w) is ∙ form_only f

  clause_by : (x : List Sym) (o : Option Says) → known_in names x ≡ o → IsClause names (told_as names x o) x
  clause_by x (Some s) is = of_a_form (known_found x is)
  clause_by x None is = of_no_form (λ s f. let e = sym is ∙ known_only f in absurd (cc))

  clause_found : (x : List Sym) → IsClause names (clause_in names x) x
  unfolding clause_in
  clause_found x = clause_by x (known_in names x) refl

  other_by : (x : List Sym) (o : Option Says) → known_in names x ≡ o → ((s : Says) → HasForm names s x → ⊥) → told_as names x None ≡ told_as names x o
  other_by x (Some s) is none = absurd (none s (known_found x is))
  other_by x None is none = refl

  clause_only : {c : ClauseTree} {x : List Sym} → IsClause names c x → c ≡ clause_in names x
  unfolding clause_in
  clause_only {x = x} (of_a_form f) = sym (ap (told_as names x) (known_only f))
  clause_only {x = x} (of_no_form none) = other_by x (known_in names x) refl none

  -- ---- lists of clauses

  piece_some : (t : Sym) (rest : List Sym) → 1 ≤ piece_len (t ∷ rest)
  piece_some t rest = elim (is_any_word t.kind && is_sign mark.OpenParen (head rest)) as (λ b. 1 ≤ cond b (1 + group_len 0 rest) 1) [ true ↦ omega arith | false ↦ omega arith ]

  skip_is : (t : Sym) (rest : List Sym) → skips_comma (t ∷ rest) ≡ true → (IsSign mark.Comma t) × (begins_clause rest ≡ true)
  skip_is t rest e = both (is_comma t) (begins_clause rest) refl e
    where
      both : (a b : Bool) → is_comma t ≡ a → a && b ≡ true → (IsSign mark.Comma t) × (b ≡ true)
      both true b is h = (comma_of is, h)
      both false b is h = absurd (false≢true h)

  clauses_found : (n : ℕ) (w : List Sym) → length w ≤ n → AreClauses names (clauses_in names n w) w
  clauses_found zero [] room = no_clauses
  clauses_found zero (t ∷ rest) room = absurd (omega arith)
  clauses_found (suc n) [] room = no_clauses
  clauses_found (suc n) (t ∷ rest) room =
      let w = t ∷ rest in
      let k = piece_len w in
      elim (cases_Bool (skips_comma w)) [
        | inl skips ↦ let both = skip_is t rest skips in rw skips (behind_comma both.0 both.1 (clauses_found n rest (omega arith)))
        | inr goes ↦ rw goes (a_clause goes (clause_found (take k w)) (clauses_found n (drop k w) (let one = piece_some t rest in omega (arith, one, length-drop k w))))
      ]

  pub all_found : (w : List Sym) → AreClauses names (clauses_of names w) w
  unfolding clauses_of
  all_found w = clauses_found (length w) w (omega arith)

  clauses_only : {cs : List ClauseTree} {w : List Sym} → AreClauses names cs w → (n : ℕ) → length w ≤ n → cs ≡ clauses_in names n w
  clauses_only no_clauses zero room = refl
  clauses_only no_clauses (suc n) room = refl
  clauses_only (behind_comma i b all) zero room = absurd (omega arith)
  clauses_only (behind_comma {cs = cs} i b all) (suc n) room = rw (sign_is i, b) (clauses_only {cs = cs} all n (omega arith))
  clauses_only (a_clause goes c all) zero room = absurd (omega arith)
  clauses_only (a_clause {cs = cs} {t = t} {rest = rest} goes c all) (suc n) room =
      let w = t ∷ rest in
      let k = piece_len w in
      let later = clauses_only {cs = cs} all n (let one = piece_some t rest in omega (arith, one, length-drop k w)) in
      rw goes (ap (λ (y : ClauseTree). y ∷ cs) (clause_only c) ∙ ap (λ (l : List ClauseTree). clause_in names (take k w) ∷ l) later)

  pub all_only : {cs : List ClauseTree} {w : List Sym} → AreClauses names cs w → cs ≡ clauses_of names w
  unfolding clauses_of
  all_only {w = w} all = clauses_only all (length w) (omega arith)
