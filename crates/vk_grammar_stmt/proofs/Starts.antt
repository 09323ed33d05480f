-- How statements begin: each first token that may begin one does.
use Rattle.std.proofs.Common.{◌≡◌, ℕ, Bool, true, false, ◌||◌, ◌⊎◌, inl, inr, List, [], ◌∷◌, ◌++◌, Some, None, refl, sym, ap, subst, true≢false}
use Rattle.vk_ast.specs.declared.names.NameId.{NameId}
use Rattle.vk_ast.specs.declared.expressions.BinOp.{BinOp}
use Rattle.vk_ast.specs.declared.expressions.BinOp.TheVariants as op
use Rattle.vk_ast.specs.Statements.{StmtTree}
use Rattle.vk_tokens.specs.declared.tokens.Mark.TheVariants as mark
use Rattle.vk_grammar_expr.specs.declared.symbols.Sym.{Sym}
use Rattle.vk_grammar_expr.specs.declared.symbols.SymKind.{SymKind}
use Rattle.vk_grammar_expr.specs.declared.symbols.SymKind.TheVariants as kind
use Rattle.vk_grammar_expr.specs.declared.symbols.Keyword.TheVariants as keyword
use Rattle.vk_grammar_expr.specs.declared.symbols.TypeWord.TheVariants as word
use Rattle.vk_grammar_expr.specs.Symbols.{Is, is_type_part, is_start}
use Rattle.vk_grammar_expr.specs.Types.{IsType, type_in, no_parts, a_part, words_of, word_before, has_words}
use Rattle.vk_grammar_expr.specs.Grammar.{level, full}
use Rattle.vk_grammar_expr.proofs.Steps.{Follows, Goes, goes, refuse_follows, deep_follows, choose_follows}
use Rattle.vk_grammar_expr.proofs.Signs.{sign_of, sign_of_is}
use Rattle.vk_grammar_expr.proofs.Starts.{zero_sym, zero_tree, zero_spelled, Spelled, start_goes}
use Rattle.vk_grammar_stmt.specs.Words.{IsKeyword, has_const, step_at, step_of, IsStep, begins_here, is_stmt_start}
use Rattle.vk_grammar_stmt.specs.Trees.{Clauses, directive_at, unit_at}
use Rattle.vk_grammar_stmt.specs.Grammar.{InParens, in_parens, left_out, a_step_before, a_value, no_act, an_act, bare, none_named, AreLocals, locals, first_act, in_braces, IsPlain, a_block, a_part, an_if, a_while, a_do, a_for, a_break, a_continue, a_return, a_simd, a_lost_line, IsStmt, a_plain, some_locals, IsEntry, plain_entry, locals_entry, no_entries}
use Rattle.vk_grammar_stmt.specs.Inner.Reading.{no_level}
use Rattle.vk_grammar_stmt.proofs.Signs.{Has, has, word_of, word_of_is}

-- ---- the shortest texts

-- `;`
abbrev pub semicolon : Sym
semicolon = sign_of mark.Semicolon

abbrev pub empty_tree : StmtTree
empty_tree = StmtTree.empty 0 0

pub empty_plain : (clauses : Clauses) → IsPlain clauses empty_tree 0 (semicolon ∷ [])
empty_plain clauses = a_part (no_act sign_of_is)

pub empty_stmt : (clauses : Clauses) → IsStmt clauses empty_tree 0 (semicolon ∷ [])
empty_stmt clauses = a_plain (empty_plain clauses)

-- `( 0 )`
abbrev pub zero_parens : List Sym
zero_parens = sign_of mark.OpenParen ∷ (zero_sym ∷ (sign_of mark.CloseParen ∷ []))

pub zero_condition : InParens zero_tree 1 zero_parens
zero_condition = in_parens sign_of_is (zero_spelled full) sign_of_is

-- a name
abbrev pub no_name : NameId
no_name = record { 0 = 0 }

abbrev pub name_sym : Sym
name_sym = record { line = 0; at = 0; kind = kind.Name no_name }

abbrev pub int_sym : Sym
int_sym = record { line = 0; at = 0; kind = kind.TypeWord word.Int }

-- ---- each first token

module _ (clauses : Clauses) where
  abbrev Plain : StmtTree → List Sym → Type 0
  Plain = Has (IsPlain clauses)

  abbrev pub Either : List Sym → Type 0
  Either u = Goes Plain u ⊎ Goes (Has AreLocals) u

  pub if_goes : (t : Sym) → IsKeyword keyword.If t → Goes Plain (t ∷ [])
  if_goes t i = goes (zero_parens ++ (semicolon ∷ [])) (StmtTree.if_only t.line t.at zero_tree empty_tree) (has _ (an_if i zero_condition (empty_stmt clauses)))

  pub while_goes : (t : Sym) → IsKeyword keyword.While t → Goes Plain (t ∷ [])
  while_goes t i = goes (zero_parens ++ (semicolon ∷ [])) (StmtTree.while_loop t.line t.at zero_tree empty_tree) (has _ (a_while i zero_condition (empty_stmt clauses)))

  pub do_goes : (t : Sym) → IsKeyword keyword.Do t → Goes Plain (t ∷ [])
  do_goes t i = goes (semicolon ∷ (word_of keyword.While ∷ (zero_parens ++ (semicolon ∷ [])))) (StmtTree.do_loop t.line t.at empty_tree zero_tree)
      (has _ (a_do i (empty_stmt clauses) word_of_is zero_condition sign_of_is))

  pub for_goes : (t : Sym) → IsKeyword keyword.For t → Goes Plain (t ∷ [])
  for_goes t i = goes (sign_of mark.OpenParen ∷ (semicolon ∷ (semicolon ∷ (sign_of mark.CloseParen ∷ (semicolon ∷ []))))) (StmtTree.for_loop t.line t.at empty_tree None empty_tree empty_tree)
      (has _ (a_for i sign_of_is (first_act (no_act sign_of_is)) (left_out sign_of_is) (no_act sign_of_is) (empty_stmt clauses)))

  pub simd_goes : (n : ℕ) (t : Sym) → Is (kind.Simd n) t → Goes Plain (t ∷ [])
  simd_goes n t i = goes (semicolon ∷ []) (StmtTree.simd t.line t.at (directive_at clauses t n) empty_tree) (has _ (a_simd i (empty_stmt clauses)))

  step_goes : (t : Sym) (o : BinOp) → IsStep o t → Goes Plain (t ∷ [])
  step_goes t o i = goes (zero_sym ∷ (semicolon ∷ [])) (StmtTree.assign t.line t.at (Some o) zero_tree (unit_at t))
      (has _ (a_part (an_act (a_step_before i (zero_spelled (level 0))) sign_of_is)))

  value_goes : (t : Sym) → is_start (Some t.kind) ≡ true → Goes Plain (t ∷ [])
  value_goes t e = let g : Goes (Spelled full) (t ∷ []) = start_goes full t e in
      goes (g.after ++ (semicolon ∷ [])) (StmtTree.value t.line t.at g.value.tree) (has _ (a_part (an_act (a_value g.is) sign_of_is)))

  kept : (k : SymKind) → has_words (word_before k (word.Int ∷ [])) ≡ true
  kept (kind.TypeWord w) = refl
  kept _ = refl

  type_with_int : (t : Sym) → is_type_part (Some t.kind) ≡ true → IsType (t ∷ (int_sym ∷ []))
  unfolding is_type_part words_of
  type_with_int t e = record { parts = a_part e (a_part refl no_parts); has = kept t.kind }

  local_goes : (t : Sym) → is_type_part (Some t.kind) ≡ true → Goes (Has AreLocals) (t ∷ [])
  local_goes t e = let c : List Sym = t ∷ (int_sym ∷ []) in
      goes (int_sym ∷ (name_sym ∷ (semicolon ∷ []))) (StmtTree.local 0 0 (type_in c) (has_const c) no_name None ∷ [])
      (has _ (locals (type_with_int t e) (bare (record { is = refl })) none_named sign_of_is))

  or_goes : (t : Sym) (a b : Bool) → a ≡ is_type_part (Some t.kind) → b ≡ is_start (Some t.kind) → (a || b) ≡ true → Either (t ∷ [])
  or_goes t true b e f i = inr (local_goes t (sym e))
  or_goes t false true e f i = inl (value_goes t (sym f))
  or_goes t false false e f i = absurd (true≢false (sym i))

  kind_goes : (t : Sym) (k : SymKind) → t.kind ≡ k → begins_here k ≡ true → Either (t ∷ [])
  unfolding begins_here step_at step_of
  kind_goes t (kind.Sign mark.OpenBrace) i e = inl (goes (sign_of mark.CloseBrace ∷ []) (StmtTree.block t.line t.at _) (has _ (a_block (in_braces (record { is = i }) no_entries sign_of_is))))
  kind_goes t (kind.Sign mark.Semicolon) i e = inl (goes [] (StmtTree.empty t.line t.at) (has _ (a_part (no_act (record { is = i })))))
  kind_goes t (kind.Sign mark.Increment) i e = inl (step_goes t op.Add (record { is = subst (λ k. step_at (Some k) ≡ Some op.Add) (sym i) refl }))
  kind_goes t (kind.Sign mark.Decrement) i e = inl (step_goes t op.Sub (record { is = subst (λ k. step_at (Some k) ≡ Some op.Sub) (sym i) refl }))
  kind_goes t (kind.Keyword keyword.If) i e = inl (if_goes t (record { is = i }))
  kind_goes t (kind.Keyword keyword.While) i e = inl (while_goes t (record { is = i }))
  kind_goes t (kind.Keyword keyword.Do) i e = inl (do_goes t (record { is = i }))
  kind_goes t (kind.Keyword keyword.For) i e = inl (for_goes t (record { is = i }))
  kind_goes t (kind.Keyword keyword.Break) i e = inl (goes (semicolon ∷ []) (StmtTree.break_loop t.line t.at) (has _ (a_break (record { is = i }) sign_of_is)))
  kind_goes t (kind.Keyword keyword.Continue) i e = inl (goes (semicolon ∷ []) (StmtTree.continue_loop t.line t.at) (has _ (a_continue (record { is = i }) sign_of_is)))
  kind_goes t (kind.Keyword keyword.Return) i e = inl (goes (semicolon ∷ []) (StmtTree.return_value t.line t.at None) (has _ (a_return (record { is = i }) (left_out sign_of_is))))
  kind_goes t (kind.Simd n) i e = inl (simd_goes n t (record { is = i }))
  kind_goes t (kind.Simdfn n) i e = inl (goes [] (StmtTree.lost t.line t.at (directive_at clauses t n)) (has _ (a_lost_line (record { is = i }))))
  kind_goes t k i e = or_goes t (is_type_part (Some k)) (is_start (Some k)) (ap (λ z. is_type_part (Some z)) (sym i)) (ap (λ z. is_start (Some z)) (sym i)) e

  -- ---- where no level may stand

  no_level_follows : {A : Type 0} {R : A → List Sym → Type 0} → ((u : List Sym) → Either u → Goes R u) → Goes R [] → (w : List Sym) → Follows R [] no_level w
  unfolding no_level is_stmt_start
  no_level_follows into least [] = choose_follows is_stmt_start (λ e. absurd (true≢false (sym e))) (λ e. refuse_follows least)
  no_level_follows into least (t ∷ r) = choose_follows is_stmt_start (λ e. deep_follows (into (t ∷ []) (kind_goes t t.kind refl e))) (λ e. refuse_follows least)

  stmt_goes : (u : List Sym) → Either u → Goes (Has (IsStmt clauses)) u
  stmt_goes u (inl g) = goes g.after g.value (has _ (a_plain g.is.is))
  stmt_goes u (inr g) = goes g.after _ (has _ (some_locals g.is.is))

  entry_goes : (u : List Sym) → Either u → Goes (Has (IsEntry clauses)) u
  entry_goes u (inl g) = goes g.after (g.value ∷ []) (has _ (plain_entry g.is.is))
  entry_goes u (inr g) = goes g.after g.value (has _ (locals_entry g.is.is))

  pub no_stmt_follows : (w : List Sym) → Follows (Has (IsStmt clauses)) [] no_level w
  no_stmt_follows w = no_level_follows stmt_goes (goes (semicolon ∷ []) empty_tree (has _ (empty_stmt clauses))) w

  pub no_entry_follows : (w : List Sym) → Follows (Has (IsEntry clauses)) [] no_level w
  no_entry_follows w = no_level_follows entry_goes (goes (semicolon ∷ []) (empty_tree ∷ []) (has _ (plain_entry (empty_plain clauses)))) w
