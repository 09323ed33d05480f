-- What the reader of statements tells follows the grammar: the laws of `Steps` of expressions, function by function.
use Rattle.std.proofs.Common.{◌≡◌, ℕ, zero, suc, Bool, true, false, nat_lt, List, [], ◌∷◌, ◌++◌, Some, None, refl, sym, ap, ◌∙◌, subst, append_assoc, true≢false}
use Rattle.vk_types.specs.declared.types.Ty.{Ty}
use Rattle.vk_ast.specs.Tree.{Tree}
use Rattle.vk_ast.specs.Statements.{StmtTree}
use Rattle.vk_tokens.specs.declared.tokens.Mark.{Mark}
use Rattle.vk_tokens.specs.declared.tokens.Mark.TheVariants as mark
use Rattle.vk_grammar_expr.specs.declared.symbols.Sym.{Sym}
use Rattle.vk_grammar_expr.specs.declared.symbols.SymKind.{SymKind}
use Rattle.vk_grammar_expr.specs.declared.symbols.SymKind.TheVariants as kind
use Rattle.vk_grammar_expr.specs.declared.symbols.Keyword.TheVariants as keyword
use Rattle.vk_grammar_expr.specs.Symbols.{head, line_at, number_at, Is, IsSign, is_sign, is_type_part}
use Rattle.vk_grammar_expr.specs.Types.{type_in, a_part}
use Rattle.vk_grammar_expr.specs.Grammar.{Tall, level, full, Spells}
use Rattle.vk_grammar_expr.specs.Inner.Parser.{Parser, pure, pick_some, many}
use Rattle.vk_grammar_expr.specs.Inner.Reading.{expression}
use Rattle.vk_grammar_expr.proofs.Steps.{Follows, Goes, goes, finished, pure_follows, refuse_follows, deep_follows, pick_follows, pick_some_follows, look_follows, choose_follows, choose_some_follows, into_follows, bind_follows, bind_is_follows, seq_follows, take_follows, tail_follows, many_follows}
use Rattle.vk_grammar_expr.proofs.Signs.{sign_kind, sign_of, sign_of_is, take_sign_follows, sign_deep_follows, expect_follows, then_expect_follows}
use Rattle.vk_grammar_expr.proofs.Starts.{spelled_starts, zero_sym, zero_tree, zero_spelled, in_sort, Spelled}
use Rattle.vk_grammar_expr.proofs.Sound.{here_bind_follows, IsTypeText, type_words_follows, expression_follows}
use Rattle.vk_grammar_expr.proofs.Climb.{onwards_follows}
use Rattle.vk_grammar_stmt.specs.Words.{IsKeyword, is_keyword, name_at, has_const, assign_at, step_at, begins_here, is_stmt_start}
use Rattle.vk_grammar_stmt.specs.Trees.{Clauses, directive_at, stmts_in, joined, single, unit_at, is_open}
use Rattle.vk_grammar_stmt.specs.Grammar.{InParens, in_parens, IsOptional, left_out, given, IsAct, a_step_before, a_step_behind, a_value, IsPart, no_act, an_act, IsNamed, bare, AreNamed, none_named, AreLocals, IsFirst, first_act, IsBlock, in_braces, IsPlain, a_block, a_part, an_if, a_while, a_for, a_break, a_continue, a_return, a_simd, a_lost_line, IsStmt, a_plain, IsEntry, plain_entry, locals_entry, AreEntries, no_entries, more_entries}
use Rattle.vk_grammar_stmt.specs.Inner.Reading.{is_not, no_level, cond, unary, condition, optional, step_before, assigned, stepped, valued, behind_operand, act, part, initial, named_local, local, later_local, local_list, locals, one_locals, jump, returned, block, else_part, choice, while_loop, do_loop, first_part, for_rest, for_loop, simd_line, lost_line, deeper, plain_at, plain, one_statement, one_entry, statement, entry, body}
use Rattle.vk_grammar_stmt.proofs.Starts.{semicolon, empty_tree, empty_stmt, zero_parens, zero_condition, no_name, name_sym, if_goes, while_goes, do_goes, for_goes, simd_goes, no_stmt_follows, no_entry_follows}
use Rattle.vk_grammar_stmt.proofs.Closed.{OnOk, Gives, Shut, statement_shuts}
use Rattle.vk_grammar_stmt.proofs.Forms.{an_assign, IsInitial, not_initial, an_initial, initialised, IsLater, later, later_joined, AreNames, names, declared, locals_parted, AreOne, one_of, locals_stmt, locals_first, an_else, do_as, for_as}
use Rattle.vk_grammar_stmt.proofs.Signs.{Has, has, take_word_follows, word_of, word_of_is, expect_word_follows, take_name_follows, take_assign_follows, take_step_follows, here_then_follows, not_true}

module _ (e turns : ℕ) where
  pub cond_follows : (w : List Sym) → Follows (Spelled full) [] (cond e turns) w
  unfolding cond
  cond_follows w = expression_follows turns (suc e) full w

  unary_follows : (w : List Sym) → Follows (Spelled (level 0)) [] (unary e turns) w
  unfolding unary
  unary_follows w = expression_follows turns (suc e) (level 0) w

  condition_follows : (w : List Sym) → Follows (Has InParens) [] (condition e turns) w
  unfolding condition
  condition_follows w = expect_follows
      (λ u r opens. then_expect_follows {S = Spelled full} (cond_follows r) (λ c v z r2 s shuts. pure_follows (has _ (in_parens opens s shuts))) (λ c v z s shuts. finished c.tree (has _ (in_parens opens s shuts))))
      (λ u opens. goes (zero_sym ∷ (sign_of mark.CloseParen ∷ [])) zero_tree (has _ (in_parens opens (zero_spelled full) sign_of_is)))

  pub optional_follows : (m : Mark) (w : List Sym) → Follows (Has (IsOptional m)) [] (optional e turns m) w
  unfolding optional
  optional_follows m w = choose_follows (is_sign m) (λ i. take_sign_follows i (λ t r is. pure_follows (has _ (left_out is))))
      (λ i. then_expect_follows {S = Spelled full} (cond_follows w) (λ c v z r s is. pure_follows (has _ (given s is))) (λ c v z s is. finished (Some c.tree) (has _ (given s is))))

  -- ---- assignments and expressions

  behind_follows : (t : Sym) (x : List Sym) (p : Tall) (w : List Sym) → Spells (level 0) p.tree p.height (t ∷ x) → Follows (Has IsAct) (t ∷ x) (behind_operand e turns t.line t.at p) w
  unfolding behind_operand assigned stepped valued
  behind_follows t x p w s = look_follows (λ k. pick_some (assign_at k) (assigned e turns t.line t.at p) (pick_some (step_at k) (stepped e turns t.line t.at p) (valued e turns t.line t.at p)))
      (pick_some_follows (assign_at (head w))
      (λ o i. take_assign_follows i (λ u r is. bind_follows {S = Spelled full} (cond_follows r)
      (λ a y r2 parts s2. pure_follows (has _ (an_assign s is s2))) (λ a y s2. finished (StmtTree.assign t.line t.at o p.tree a.tree) (has _ (an_assign s is s2)))))
      (λ _. pick_some_follows (step_at (head w))
      (λ o i. take_step_follows i (λ u r is. pure_follows (has _ (a_step_behind s is))))
      (λ _. seq_follows {S = Spelled full} (onwards_follows e turns (expression turns e) (λ s. expression_follows turns e s) t x p w s)
      (λ a v r parts s2. pure_follows (has _ (a_value s2))) (λ a y s2. finished (StmtTree.value (line_at y) (number_at y) a.tree) (has _ (a_value s2))))))

  act_follows : (w : List Sym) → Follows (Has IsAct) [] (act e turns) w
  unfolding act step_before
  act_follows w = choose_some_follows step_at
      (λ o i. take_step_follows i (λ t r is. bind_follows {S = Spelled (level 0)} (unary_follows r)
      (λ p x r2 parts s. pure_follows (has _ (a_step_before is s))) (λ p x s. finished (StmtTree.assign t.line t.at (Some o) p.tree (unit_at t)) (has _ (a_step_before is s)))))
      (λ i. here_bind_follows {S = Spelled (level 0)} (behind_operand e turns) (unary_follows w) (λ a v s. spelled_starts s) (λ a t x r s. behind_follows t x a r s)
      (λ a v s. finished (StmtTree.value (line_at v) (number_at v) a.tree) (has _ (a_value (in_sort full s)))))

  part_follows : (m : Mark) (w : List Sym) → Follows (Has (IsPart m)) [] (part e turns m) w
  unfolding part
  part_follows m w = choose_follows (is_sign m) (λ i. take_sign_follows i (λ t r is. pure_follows (has _ (no_act is))))
      (λ i. then_expect_follows {S = Has IsAct} (act_follows w) (λ s v z r a is. pure_follows (has _ (an_act a.is is))) (λ s v z a is. finished s (has _ (an_act a.is is))))

  -- ---- declarations

  initial_follows : (w : List Sym) → Follows (Has IsInitial) [] (initial e turns) w
  unfolding initial
  initial_follows w = choose_follows (is_sign mark.Assign)
      (λ i. take_sign_follows i (λ t r is. bind_follows {S = Spelled full} (cond_follows r) (λ a x r2 parts s. pure_follows (has _ (an_initial is s))) (λ a x s. finished (Some a.tree) (has _ (an_initial is s)))))
      (λ i. pure_follows (has _ not_initial))

  -- the shortest declaration of a name
  named : (ty : Ty) (fixed : Bool) → Has (IsNamed ty fixed) (StmtTree.local 0 0 ty fixed no_name None) (name_sym ∷ [])
  named ty fixed = has _ (bare (record { is = refl }))

  local_follows : (ty : Ty) (fixed : Bool) (w : List Sym) → Follows (Has (IsNamed ty fixed)) [] (local e turns ty fixed) w
  unfolding local named_local
  local_follows ty fixed w = choose_some_follows name_at
      (λ id i. take_name_follows i (λ t r is. bind_follows {S = Has IsInitial} (initial_follows r) (λ c x r2 parts a. pure_follows (has _ (initialised is a.is)))
      (λ c x a. finished (StmtTree.local t.line t.at ty fixed id c) (has _ (initialised is a.is)))))
      (λ i. refuse_follows (goes (name_sym ∷ []) (StmtTree.local 0 0 ty fixed no_name None) (named ty fixed)))

  later_follows : (room : Bool) (ty : Ty) (fixed : Bool) (w : List Sym) → is_sign mark.Comma (head w) ≡ true → Follows (Has (IsLater ty fixed)) [] (later_local e turns room ty fixed) w
  unfolding later_local
  later_follows room ty fixed w i = pick_follows room
      (λ _. take_sign_follows i (λ t r is. tail_follows {S = Has (IsNamed ty fixed)} (local_follows ty fixed r) (λ s v d. has _ (later is d.is))))
      (λ _. sign_deep_follows i (λ t is. goes (name_sym ∷ []) (StmtTree.local 0 0 ty fixed no_name None) (has _ (later is (named ty fixed).is))))

  local_list_follows : (room : Bool) (ty : Ty) (fixed : Bool) (w : List Sym) → Follows (Has (AreNames ty fixed)) [] (local_list e turns room ty fixed) w
  unfolding local_list
  local_list_follows room ty fixed w = bind_follows {S = Has (IsNamed ty fixed)} (local_follows ty fixed w)
      (λ s x r parts d. bind_follows {S = Has (AreNamed ty fixed)}
      (many_follows (is_sign mark.Comma) (later_local e turns room ty fixed) (has _ none_named) (λ s list x y a b. has _ (later_joined a.is b.is)) (later_follows room ty fixed) turns r)
      (λ list y r2 parts2 l. pure_follows (has _ (names d.is l.is))) (λ list y l. finished (s ∷ list) (has _ (names d.is l.is))))
      (λ s x d. goes [] (s ∷ []) (has _ (names d.is none_named)))

  pub locals_follows : (room : Bool) (w : List Sym) → Follows (Has AreLocals) [] (locals e turns room) w
  unfolding locals
  locals_follows room w = bind_follows {S = IsTypeText} (type_words_follows turns w)
      (λ c v r parts text. then_expect_follows {S = Has (AreNames (type_in c) (has_const c))} (local_list_follows room (type_in c) (has_const c) r)
      (λ list x z r2 l shuts. pure_follows (has _ (declared text l.is shuts))) (λ list x z l shuts. finished list (has _ (declared text l.is shuts))))
      (λ c v text. goes (name_sym ∷ (semicolon ∷ [])) (StmtTree.local 0 0 (type_in c) (has_const c) no_name None ∷ [])
      (subst (Has AreLocals (StmtTree.local 0 0 (type_in c) (has_const c) no_name None ∷ [])) (append_assoc v (name_sym ∷ []) (semicolon ∷ []))
      (has _ (declared text (names (named (type_in c) (has_const c)).is none_named) sign_of_is))))

  one_locals_follows : (room : Bool) (w : List Sym) → Follows (Has AreOne) [] (one_locals e turns room) w
  unfolding one_locals
  one_locals_follows room w = here_then_follows {S = Has AreLocals} (λ l k list. pure (single l k list)) (locals_follows room w) (λ list v d. locals_parted d.is)
      (λ list v r d. pure_follows (has _ (one_of d.is))) (λ list v d. finished (single (line_at v) (number_at v) list) (has _ (one_of d.is)))

pub brace_no_type : {t : Sym} → IsSign mark.OpenBrace t → is_type_part (Some t.kind) ≡ false
unfolding is_type_part
brace_no_type i = subst (λ k. is_type_part (Some k) ≡ false) (sym i.is) refl

pub brace_starts : {t : Sym} → IsSign mark.OpenBrace t → is_stmt_start (Some t.kind) ≡ true
unfolding is_stmt_start begins_here
brace_starts i = subst (λ k. is_stmt_start (Some k) ≡ true) (sym i.is) refl

module _ (clauses : Clauses) (e d turns : ℕ) (sub : Parser StmtTree) (sub_entry : Parser (List StmtTree)) (subs : (w : List Sym) → Follows (Has (IsStmt clauses)) [] sub w)
    (entries : (w : List Sym) → Follows (Has (IsEntry clauses)) [] sub_entry w) (shuts : Gives Shut sub) where
  zero_stmt : IsStmt clauses empty_tree 0 (semicolon ∷ [])
  zero_stmt = empty_stmt clauses

  entries_follows : (w : List Sym) → Follows (λ lists. Has (AreEntries clauses) (joined lists)) [] (many turns (is_not mark.CloseBrace) sub_entry) w
  entries_follows w = many_follows (is_not mark.CloseBrace) sub_entry (has _ no_entries) (λ list lists x y a b. has _ (more_entries a.is b.is)) (λ w i. entries w) turns w

  block_follows : (t : Sym) (r : List Sym) → IsSign mark.OpenBrace t → Follows (Has (IsBlock clauses)) [] (block clauses e d turns sub sub_entry) (t ∷ r)
  unfolding block
  block_follows t r opens = take_follows (then_expect_follows {S = λ lists. Has (AreEntries clauses) (joined lists)} (entries_follows r)
      (λ lists x v r2 a shuts. pure_follows (has _ (in_braces opens a.is shuts))) (λ lists x v a shuts. finished (StmtTree.block t.line t.at (stmts_in (joined lists))) (has _ (in_braces opens a.is shuts))))

  -- ---- selection

  else_follows : (t : Sym) (c : Tree) (h : ℕ) (x : List Sym) (s : StmtTree) (k : ℕ) (y w : List Sym) → IsKeyword keyword.If t → InParens c h x → IsStmt clauses s k y
      → (is_open s ≡ true → is_keyword keyword.Else (head w) ≡ false) → Follows (Has (IsPlain clauses)) (t ∷ (x ++ y)) (else_part clauses e d turns sub sub_entry t c s) w
  unfolding else_part
  else_follows t c h x s k y w i p a shut = choose_follows (is_keyword keyword.Else)
      (λ j. let closed : is_open s ≡ false = not_true (is_open s) (λ o. true≢false (sym j ∙ shut o)) in
      take_word_follows j (λ u r is. bind_follows {S = Has (IsStmt clauses)} (subs r) (λ other z r2 parts b. pure_follows (has _ (an_else i p a closed is b.is)))
      (λ other z b. finished (StmtTree.if_else t.line t.at c s other) (has _ (an_else i p a closed is b.is)))))
      (λ j. pure_follows (has _ (an_if i p a)))

  choice_follows : (t : Sym) (r : List Sym) → IsKeyword keyword.If t → Follows (Has (IsPlain clauses)) [] (choice clauses e d turns sub sub_entry) (t ∷ r)
  unfolding choice
  choice_follows t r i = take_follows (bind_follows {S = Has InParens} (condition_follows e turns r)
      (λ c x r2 parts p. bind_is_follows {S = Has (IsStmt clauses)} (subs r2)
      (λ s y r3 parts2 is a. else_follows t c p.height x s a.height y r3 i p.is a.is (subst (OnOk Shut) is (shuts.gives r2)))
      (λ s y a. finished (StmtTree.if_only t.line t.at c s) (has _ (an_if i p.is a.is))))
      (λ c x p. goes (semicolon ∷ []) (StmtTree.if_only t.line t.at c empty_tree) (has _ (an_if i p.is zero_stmt))))

  -- ---- loops

  while_follows : (t : Sym) (r : List Sym) → IsKeyword keyword.While t → Follows (Has (IsPlain clauses)) [] (while_loop clauses e d turns sub sub_entry) (t ∷ r)
  unfolding while_loop
  while_follows t r i = take_follows (bind_follows {S = Has InParens} (condition_follows e turns r)
      (λ c x r2 parts p. bind_follows {S = Has (IsStmt clauses)} (subs r2) (λ s y r3 parts2 a. pure_follows (has _ (a_while i p.is a.is)))
      (λ s y a. finished (StmtTree.while_loop t.line t.at c s) (has _ (a_while i p.is a.is))))
      (λ c x p. goes (semicolon ∷ []) (StmtTree.while_loop t.line t.at c empty_tree) (has _ (a_while i p.is zero_stmt))))

  do_end : (t : Sym) (x : List Sym) (s : StmtTree) (h : ℕ) (u : Sym) → IsKeyword keyword.Do t → IsStmt clauses s h x → IsKeyword keyword.While u → Goes (Has (IsPlain clauses)) (t ∷ (x ++ (u ∷ [])))
  do_end t x s h u i a j = goes (zero_parens ++ (semicolon ∷ [])) (StmtTree.do_loop t.line t.at s zero_tree)
      (subst (Has (IsPlain clauses) (StmtTree.do_loop t.line t.at s zero_tree)) (ap (λ q. t ∷ q) (append_assoc (x ++ (u ∷ [])) zero_parens (semicolon ∷ []))) (has _ (do_as i a j zero_condition sign_of_is)))

  do_follows : (t : Sym) (r : List Sym) → IsKeyword keyword.Do t → Follows (Has (IsPlain clauses)) [] (do_loop clauses e d turns sub sub_entry) (t ∷ r)
  unfolding do_loop
  do_follows t r i = take_follows (bind_follows {S = Has (IsStmt clauses)} (subs r)
      (λ s x r2 parts a. expect_word_follows (λ u r3 j. then_expect_follows {S = Has InParens} (condition_follows e turns r3)
      (λ c y v r4 p shuts. pure_follows (has _ (do_as i a.is j p.is shuts))) (λ c y v p shuts. finished (StmtTree.do_loop t.line t.at s c) (has _ (do_as i a.is j p.is shuts))))
      (λ u j. do_end t x s a.height u i a.is j))
      (λ s x a. let g : Goes (Has (IsPlain clauses)) (t ∷ (x ++ (word_of keyword.While ∷ []))) = do_end t x s a.height (word_of keyword.While) i a.is word_of_is in
      goes (word_of keyword.While ∷ g.after) g.value (subst (Has (IsPlain clauses) g.value) (ap (λ q. t ∷ q) (append_assoc x (word_of keyword.While ∷ []) g.after)) g.is)))

  first_follows : (w : List Sym) → Follows (Has IsFirst) [] (first_part clauses e d turns sub sub_entry) w
  unfolding first_part
  first_follows w = choose_follows is_type_part (λ i. into_follows {S = Has (AreOne)} (λ s u a. has _ (locals_first a.is)) (one_locals_follows e turns (nat_lt 1 d) w))
      (λ i. into_follows {S = Has (IsPart mark.Semicolon)} (λ s u a. has _ (first_act a.is)) (part_follows e turns mark.Semicolon w))

  for_rest_follows : (t u : Sym) (x : List Sym) (a : StmtTree) (h : ℕ) (w : List Sym) → IsKeyword keyword.For t → IsSign mark.OpenParen u → IsFirst a h x
      → Follows (Has (IsPlain clauses)) (t ∷ (u ∷ x)) (for_rest clauses e d turns sub sub_entry t a) w
  unfolding for_rest
  for_rest_follows t u x a h w i opens f = bind_follows {S = Has (IsOptional mark.Semicolon)} (optional_follows e turns mark.Semicolon w)
      (λ c y r parts o. bind_follows {S = Has (IsPart mark.CloseParen)} (part_follows e turns mark.CloseParen r)
      (λ b z r2 parts2 p. bind_follows {S = Has (IsStmt clauses)} (subs r2) (λ s q r3 parts3 body. pure_follows (has _ (for_as i opens f o.is p.is body.is)))
      (λ s q body. finished (StmtTree.for_loop t.line t.at a c b s) (has _ (for_as i opens f o.is p.is body.is))))
      (λ b z p. goes (semicolon ∷ []) (StmtTree.for_loop t.line t.at a c b empty_tree) (has _ (for_as i opens f o.is p.is zero_stmt))))
      (λ c y o. goes (sign_of mark.CloseParen ∷ (semicolon ∷ [])) (StmtTree.for_loop t.line t.at a c empty_tree empty_tree)
      (subst (Has (IsPlain clauses) (StmtTree.for_loop t.line t.at a c empty_tree empty_tree))
      (ap (λ v. t ∷ (u ∷ v)) (append_assoc (x ++ y) (sign_of mark.CloseParen ∷ []) (semicolon ∷ []))) (has _ (for_as i opens f o.is (no_act sign_of_is) zero_stmt))))

  for_end : (t u : Sym) (x : List Sym) (a : StmtTree) (h : ℕ) → IsKeyword keyword.For t → IsSign mark.OpenParen u → IsFirst a h x → Goes (Has (IsPlain clauses)) (t ∷ (u ∷ x))
  for_end t u x a h i opens f = goes (semicolon ∷ (sign_of mark.CloseParen ∷ (semicolon ∷ []))) (StmtTree.for_loop t.line t.at a None empty_tree empty_tree)
      (has _ (a_for i opens f (left_out sign_of_is) (no_act sign_of_is) zero_stmt))

  for_follows : (t : Sym) (r : List Sym) → IsKeyword keyword.For t → Follows (Has (IsPlain clauses)) [] (for_loop clauses e d turns sub sub_entry) (t ∷ r)
  unfolding for_loop
  for_follows t r i = take_follows (expect_follows (λ u r2 opens. bind_follows {S = Has IsFirst} (first_follows r2) (λ a x r3 parts f. for_rest_follows t u x a f.height r3 i opens f.is)
      (λ a x f. for_end t u x a f.height i opens f.is))
      (λ u opens. let g : Goes (Has (IsPlain clauses)) (t ∷ (u ∷ (semicolon ∷ []))) = for_end t u (semicolon ∷ []) empty_tree 0 i opens (first_act (no_act sign_of_is)) in
      goes (semicolon ∷ g.after) g.value g.is))

  -- ---- jumps and lines of directives

  jump_follows : (node : (line token : ℕ) → StmtTree) (t : Sym) (r : List Sym) → ((v : Sym) → IsSign mark.Semicolon v → IsPlain clauses (node t.line t.at) 0 (t ∷ (v ∷ [])))
      → Follows (Has (IsPlain clauses)) [] (jump e turns node) (t ∷ r)
  unfolding jump
  jump_follows node t r is = take_follows (expect_follows (λ v r2 shuts. pure_follows (has _ (is v shuts))) (λ v shuts. finished (node t.line t.at) (has _ (is v shuts))))

  return_follows : (t : Sym) (r : List Sym) → IsKeyword keyword.Return t → Follows (Has (IsPlain clauses)) [] (returned e turns) (t ∷ r)
  unfolding returned
  return_follows t r i = take_follows (bind_follows {S = Has (IsOptional mark.Semicolon)} (optional_follows e turns mark.Semicolon r)
      (λ c x r2 parts o. pure_follows (has _ (a_return i o.is))) (λ c x o. finished (StmtTree.return_value t.line t.at c) (has _ (a_return i o.is))))

  simd_follows : (n : ℕ) (t : Sym) (r : List Sym) → Is (kind.Simd n) t → Follows (Has (IsPlain clauses)) [] (simd_line clauses e d turns sub sub_entry n) (t ∷ r)
  unfolding simd_line
  simd_follows n t r i = take_follows (bind_follows {S = Has (IsStmt clauses)} (subs r)
      (λ s x r2 parts a. pure_follows (has _ (a_simd i a.is))) (λ s x a. finished (StmtTree.simd t.line t.at (directive_at clauses t n) s) (has _ (a_simd i a.is))))

  lost_follows : (n : ℕ) (t : Sym) (r : List Sym) → Is (kind.Simdfn n) t → Follows (Has (IsPlain clauses)) [] (lost_line clauses e d turns sub sub_entry n) (t ∷ r)
  unfolding lost_line
  lost_follows n t r i = take_follows (pure_follows (has _ (a_lost_line i)))

  -- ---- statements

  -- what surely has a statement in it
  deeper_follows : {p : Parser StmtTree} (t : Sym) (r : List Sym) → Follows (Has (IsPlain clauses)) [] p (t ∷ r) → Goes (Has (IsPlain clauses)) (t ∷ [])
      → Follows (Has (IsPlain clauses)) [] (deeper clauses e d turns sub sub_entry p) (t ∷ r)
  deeper_follows t r h g = pick_follows (nat_lt 0 d) (λ _. h) (λ _. deep_follows g)

  kind_follows : (t : Sym) (r : List Sym) (k : SymKind) → t.kind ≡ k → Follows (Has (IsPlain clauses)) [] (plain_at clauses e d turns sub sub_entry (Some k)) (t ∷ r)
  kind_follows t r (kind.Sign mark.OpenBrace) i = into_follows {S = Has (IsBlock clauses)} (λ s u a. has _ (a_block a.is)) (block_follows t r (record { is = i }))
  kind_follows t r (kind.Keyword keyword.If) i = deeper_follows t r (choice_follows t r (record { is = i })) (if_goes clauses t (record { is = i }))
  kind_follows t r (kind.Keyword keyword.While) i = deeper_follows t r (while_follows t r (record { is = i })) (while_goes clauses t (record { is = i }))
  kind_follows t r (kind.Keyword keyword.Do) i = deeper_follows t r (do_follows t r (record { is = i })) (do_goes clauses t (record { is = i }))
  kind_follows t r (kind.Keyword keyword.For) i = deeper_follows t r (for_follows t r (record { is = i })) (for_goes clauses t (record { is = i }))
  kind_follows t r (kind.Keyword keyword.Break) i = jump_follows StmtTree.break_loop t r (λ v shuts. a_break (record { is = i }) shuts)
  kind_follows t r (kind.Keyword keyword.Continue) i = jump_follows StmtTree.continue_loop t r (λ v shuts. a_continue (record { is = i }) shuts)
  kind_follows t r (kind.Keyword keyword.Return) i = return_follows t r (record { is = i })
  kind_follows t r (kind.Simd n) i = deeper_follows t r (simd_follows n t r (record { is = i })) (simd_goes clauses n t (record { is = i }))
  kind_follows t r (kind.Simdfn n) i = lost_follows n t r (record { is = i })
  kind_follows t r _ i = into_follows {S = Has (IsPart mark.Semicolon)} (λ s u a. has _ (a_part a.is)) (part_follows e turns mark.Semicolon (t ∷ r))

  plain_follows : (w : List Sym) → Follows (Has (IsPlain clauses)) [] (plain clauses e d turns sub sub_entry) w
  unfolding plain
  plain_follows [] = look_follows (plain_at clauses e d turns sub sub_entry) (into_follows {S = Has (IsPart mark.Semicolon)} (λ s u a. has _ (a_part a.is)) (part_follows e turns mark.Semicolon []))
  plain_follows (t ∷ r) = look_follows (plain_at clauses e d turns sub sub_entry) (kind_follows t r t.kind refl)

  -- at a `{`
  block_here_follows : (t : Sym) (r : List Sym) → IsSign mark.OpenBrace t → Follows (Has (IsBlock clauses)) [] (one_statement clauses e d turns sub sub_entry) (t ∷ r)
  unfolding one_statement plain
  block_here_follows t r i = choose_follows is_type_part (λ j. absurd (true≢false (sym j ∙ brace_no_type i)))
      (λ _. look_follows (plain_at clauses e d turns sub sub_entry) (subst (λ k. Follows (Has (IsBlock clauses)) [] (plain_at clauses e d turns sub sub_entry (Some k)) (t ∷ r)) (sym i.is) (block_follows t r i)))

  one_statement_follows : (w : List Sym) → Follows (Has (IsStmt clauses)) [] (one_statement clauses e d turns sub sub_entry) w
  unfolding one_statement
  one_statement_follows w = choose_follows is_type_part
      (λ i. into_follows {S = Has (AreOne)} (λ s u a. has _ (locals_stmt a.is)) (one_locals_follows e turns (nat_lt 0 d) w))
      (λ i. into_follows {S = Has (IsPlain clauses)} (λ s u a. has _ (a_plain a.is)) (plain_follows w))

  one_entry_follows : (w : List Sym) → Follows (Has (IsEntry clauses)) [] (one_entry clauses e d turns sub sub_entry) w
  unfolding one_entry
  one_entry_follows w = choose_follows is_type_part
      (λ i. into_follows {S = Has AreLocals} (λ list u a. has _ (locals_entry a.is)) (locals_follows e turns true w))
      (λ i. bind_follows {S = Has (IsPlain clauses)} (plain_follows w) (λ s v r parts a. pure_follows (has _ (plain_entry a.is))) (λ s v a. finished (s ∷ []) (has _ (plain_entry a.is))))

mutual
  unfolding statement

  -- What the reader tells of a statement follows the grammar.
  pub statement_follows : (clauses : Clauses) (e turns d : ℕ) (w : List Sym) → Follows (Has (IsStmt clauses)) [] (statement clauses e turns d) w
  statement_follows clauses e turns zero w = no_stmt_follows clauses w
  statement_follows clauses e turns (suc d) w = one_statement_follows clauses e d turns (statement clauses e turns d) (entry clauses e turns d) (statement_follows clauses e turns d) (entry_follows clauses e turns d)
      (statement_shuts clauses e turns d) w

  pub entry_follows : (clauses : Clauses) (e turns d : ℕ) (w : List Sym) → Follows (Has (IsEntry clauses)) [] (entry clauses e turns d) w
  entry_follows clauses e turns zero w = no_entry_follows clauses w
  entry_follows clauses e turns (suc d) w = one_entry_follows clauses e d turns (statement clauses e turns d) (entry clauses e turns d) (statement_follows clauses e turns d) (entry_follows clauses e turns d)
      (statement_shuts clauses e turns d) w

-- ---- the block of a function

block_goes : (clauses : Clauses) (t : Sym) → IsSign mark.OpenBrace t → Goes (Has (IsBlock clauses)) (t ∷ [])
block_goes clauses t i = goes (sign_of mark.CloseBrace ∷ []) (StmtTree.block t.line t.at (stmts_in [])) (has _ (in_braces i no_entries sign_of_is))

braces_follow : (clauses : Clauses) (e turns d : ℕ) (t : Sym) (r : List Sym) → IsSign mark.OpenBrace t → Follows (Has (IsBlock clauses)) [] (statement clauses e turns d) (t ∷ r)
unfolding statement no_level
braces_follow clauses e turns zero t r i = choose_follows is_stmt_start (λ _. deep_follows (block_goes clauses t i)) (λ j. absurd (true≢false (sym (brace_starts i) ∙ j)))
braces_follow clauses e turns (suc d) t r i = block_here_follows clauses e d turns (statement clauses e turns d) (entry clauses e turns d) (statement_follows clauses e turns d) (entry_follows clauses e turns d)
    (statement_shuts clauses e turns d) t r i

pub body_follows : (clauses : Clauses) (e turns d : ℕ) (w : List Sym) → Follows (Has (IsBlock clauses)) [] (body clauses e turns d) w
unfolding is_sign
body_follows clauses e turns d [] = choose_follows (is_sign mark.OpenBrace) (λ i. absurd (true≢false (sym i)))
    (λ _. let g : Goes (Has (IsBlock clauses)) (sign_of mark.OpenBrace ∷ []) = block_goes clauses (sign_of mark.OpenBrace) sign_of_is in refuse_follows (goes (sign_of mark.OpenBrace ∷ g.after) g.value g.is))
body_follows clauses e turns d (t ∷ r) = choose_follows (is_sign mark.OpenBrace) (λ i. braces_follow clauses e turns d t r (record { is = sign_kind mark.OpenBrace t.kind i }))
    (λ _. let g : Goes (Has (IsBlock clauses)) (sign_of mark.OpenBrace ∷ []) = block_goes clauses (sign_of mark.OpenBrace) sign_of_is in refuse_follows (goes (sign_of mark.OpenBrace ∷ g.after) g.value g.is))
