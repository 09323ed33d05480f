-- Behind a statement that is read and ends in an `if` without `else` there is no `else`.
use Rattle.std.proofs.Common.{◌≡◌, ℕ, zero, suc, Bool, true, false, nat_lt, List, [], ◌∷◌, Option, Some, None, Result, Ok, Err, refl, sym, ◌∙◌, true≢false}
use Rattle.vk_types.specs.declared.types.Ty.{Ty}
use Rattle.vk_ast.specs.Tree.{Tree}
use Rattle.vk_ast.specs.Statements.{StmtTree}
use Rattle.vk_tokens.specs.declared.tokens.Mark.{Mark}
use Rattle.vk_tokens.specs.declared.tokens.Mark.TheVariants as mark
use Rattle.vk_grammar_expr.specs.declared.symbols.Sym.{Sym}
use Rattle.vk_grammar_expr.specs.declared.symbols.SymKind.{SymKind}
use Rattle.vk_grammar_expr.specs.declared.symbols.SymKind.TheVariants as kind
use Rattle.vk_grammar_expr.specs.declared.symbols.Keyword.TheVariants as keyword
use Rattle.vk_grammar_expr.specs.Symbols.{head, line_at, number_at, is_sign, is_type_part}
use Rattle.vk_grammar_expr.specs.Inner.Parser.{Fault, Parser, take, pure, refuse, too_deep, then_do, ◌>>=◌, look, here, pick, pick_some, expect, many}
use Rattle.vk_grammar_expr.specs.Types.{type_in}
use Rattle.vk_grammar_expr.specs.Grammar.{Tall}
use Rattle.vk_grammar_expr.specs.Inner.Reading.{type_words, expression, onwards}
use Rattle.vk_grammar_stmt.specs.Words.{is_keyword, has_const, step_at, assign_at, name_at, is_stmt_start}
use Rattle.vk_grammar_stmt.specs.Trees.{Clauses, directive_at, stmts_in, joined, single, unit_at, is_open}
use Rattle.vk_grammar_stmt.specs.Inner.Reading.{expect_word, is_not, no_level, cond, unary, condition, optional, initial, later_local, step_before, assigned, stepped, valued, behind_operand, act, part, named_local, local, local_list, locals, one_locals, jump, returned, block, else_part, choice, while_loop, do_loop, first_part, for_rest, for_loop, simd_line, lost_line, plain_at, plain, one_statement, statement}

-- ---- what is true of all that is read, and of the tokens left

abbrev pub OnOk : {A : Type 0} → (A → List Sym → Type 0) → Result (A × List Sym) Fault → Type 0
OnOk P (Ok read) = P read.0 read.1
OnOk P (Err fault) = Unit {0}

pub record Gives {A : Type 0} (P : A → List Sym → Type 0) (p : Parser A) : Type 0 where
  pub gives : (w : List Sym) → OnOk P (p w)

pub pure_gives : {A : Type 0} {P : A → List Sym → Type 0} {a : A} → ((r : List Sym) → P a r) → Gives P (pure a)
pure_gives h = record { gives = h }

pub refuse_gives : {A : Type 0} {P : A → List Sym → Type 0} → Gives P refuse
refuse_gives = record { gives = λ w. tt }

pub deep_gives : {A : Type 0} {P : A → List Sym → Type 0} → Gives P too_deep
deep_gives = record { gives = λ w. tt }

module _ {A B : Type 0} (P : A → List Sym → Type 0) (Q : B → List Sym → Type 0) (f : A → Parser B) (next : (a : A) (r : List Sym) → P a r → OnOk Q (f a r)) where
  then_gives : (o : Result (A × List Sym) Fault) → OnOk P o → OnOk Q (then_do o f)
  then_gives (Ok read) h = next read.0 read.1 h
  then_gives (Err fault) h = tt

pub bind_gives : {A B : Type 0} {P : A → List Sym → Type 0} {Q : B → List Sym → Type 0} {p : Parser A} (f : A → Parser B) → Gives P p → ((a : A) (r : List Sym) → P a r → OnOk Q (f a r)) → Gives Q (p >>= f)
bind_gives {P = P} {Q = Q} {p = p} f h next = record { gives = λ w. then_gives P Q f next (p w) (h.gives w) }

module _ {A B : Type 0} (Q : B → List Sym → Type 0) (f : A → Parser B) (next : (a : A) → Gives Q (f a)) where
  then_any : (o : Result (A × List Sym) Fault) → OnOk Q (then_do o f)
  then_any (Ok read) = (next read.0).gives read.1
  then_any (Err fault) = tt

-- whatever is read first
pub bind_any : {A B : Type 0} {Q : B → List Sym → Type 0} {f : A → Parser B} (p : Parser A) → ((a : A) → Gives Q (f a)) → Gives Q (p >>= f)
bind_any {Q = Q} {f = f} p next = record { gives = λ w. then_any Q f next (p w) }

pub look_gives : {A : Type 0} {P : A → List Sym → Type 0} {f : Option SymKind → Parser A} → ((k : Option SymKind) → Gives P (f k)) → Gives P (look f)
look_gives h = record { gives = λ w. (h (head w)).gives w }

pub here_gives : {A : Type 0} {P : A → List Sym → Type 0} {f : ℕ → ℕ → Parser A} → ((l k : ℕ) → Gives P (f l k)) → Gives P (here f)
here_gives h = record { gives = λ w. (h (line_at w) (number_at w)).gives w }

pub pick_gives : {A : Type 0} {P : A → List Sym → Type 0} {p q : Parser A} (b : Bool) → Gives P p → Gives P q → Gives P (pick b p q)
pick_gives true h i = h
pick_gives false h i = i

pub pick_some_gives : {A B : Type 0} {P : B → List Sym → Type 0} {f : A → Parser B} {q : Parser B} (o : Option A) → ((a : A) → Gives P (f a)) → Gives P q → Gives P (pick_some o f q)
pick_some_gives (Some a) h i = h a
pick_some_gives None h i = i

pub choose_gives : {A : Type 0} {P : A → List Sym → Type 0} {p q : Parser A} (test : Option SymKind → Bool) → Gives P p → Gives P q → Gives P (look (λ k. pick (test k) p q))
choose_gives test h i = record { gives = λ w. (pick_gives (test (head w)) h i).gives w }

pub choose_some_gives : {A B : Type 0} {P : B → List Sym → Type 0} {f : A → Parser B} {q : Parser B} (of : Option SymKind → Option A) → ((a : A) → Gives P (f a)) → Gives P q → Gives P (look (λ k. pick_some (of k) f q))
choose_some_gives of h i = record { gives = λ w. (pick_some_gives (of (head w)) h i).gives w }

-- ---- statements that no `else` belongs to

abbrev pub Closed : StmtTree → List Sym → Type 0
Closed s r = is_open s ≡ false

abbrev pub Shut : StmtTree → List Sym → Type 0
Shut s r = is_open s ≡ true → is_keyword keyword.Else (head r) ≡ false

makes : (s : StmtTree) → is_open s ≡ false → Gives Closed (pure s)
makes s c = record { gives = λ w. c }

closed_shuts : {p : Parser StmtTree} → Gives Closed p → Gives Shut p
closed_shuts {p} h = record { gives = λ w. at (p w) (h.gives w) }
  where
    at : (o : Result (StmtTree × List Sym) Fault) → OnOk Closed o → OnOk Shut o
    at (Ok read) c = λ i. absurd (true≢false (sym i ∙ c))
    at (Err fault) c = tt

module _ (e turns : ℕ) where
  behind_closed : (l k : ℕ) (p : Tall) → Gives Closed (behind_operand e turns l k p)
  unfolding behind_operand assigned stepped valued
  behind_closed l k p = look_gives (λ s. pick_some_gives (assign_at s) (λ o. bind_any take (λ t. bind_any (cond e turns) (λ a. makes (StmtTree.assign l k o p.tree a.tree) refl)))
      (pick_some_gives (step_at s) (λ o. bind_any take (λ t. makes (StmtTree.assign l k (Some o) p.tree (unit_at t)) refl))
      (bind_any (onwards e turns (expression turns e) l k p) (λ a. makes (StmtTree.value l k a.tree) refl))))

  act_closed : Gives Closed (act e turns)
  unfolding act step_before
  act_closed = choose_some_gives step_at (λ o. bind_any take (λ t. bind_any (unary e turns) (λ p. makes (StmtTree.assign t.line t.at (Some o) p.tree (unit_at t)) refl)))
      (here_gives (λ l k. bind_any (unary e turns) (behind_closed l k)))

  part_closed : (m : Mark) → Gives Closed (part e turns m)
  unfolding part
  part_closed m = choose_gives (is_sign m) (bind_any take (λ t. makes (StmtTree.empty t.line t.at) refl)) (bind_gives {P = Closed} (λ s. expect m >>= (λ _. pure s)) act_closed (λ s r c. (bind_any {Q = Closed} {f = λ t. pure s} (expect m) (λ t. pure_gives (λ r. c))).gives r))

  local_closed : (ty : Ty) (fixed : Bool) → Gives Closed (local e turns ty fixed)
  unfolding local named_local
  local_closed ty fixed = choose_some_gives name_at (λ id. bind_any take (λ t. bind_any (initial e turns) (λ a. makes (StmtTree.local t.line t.at ty fixed id a) refl))) refuse_gives

  abbrev SingleClosed : List StmtTree → List Sym → Type 0
  SingleClosed list r = (l k : ℕ) → is_open (single l k list) ≡ false

  single_closed : (s : StmtTree) (rest : List StmtTree) → is_open s ≡ false → (l k : ℕ) → is_open (single l k (s ∷ rest)) ≡ false
  single_closed s [] c l k = c
  single_closed s (next ∷ rest) c l k = refl

  locals_closed : (room : Bool) → Gives SingleClosed (locals e turns room)
  unfolding locals local_list
  locals_closed room = bind_any (type_words turns) (λ c. bind_gives {P = SingleClosed} (λ list. expect mark.Semicolon >>= (λ _. pure list)) (bind_gives {P = Closed} (λ s. many turns (is_sign mark.Comma) (later_local e turns room (type_in c) (has_const c)) >>= (λ rest. pure (s ∷ rest))) (local_closed (type_in c) (has_const c))
      (λ s r i. (bind_any {Q = SingleClosed} {f = λ rest. pure (s ∷ rest)} (many turns (is_sign mark.Comma) (later_local e turns room (type_in c) (has_const c))) (λ rest. pure_gives (λ r. single_closed s rest i))).gives r))
      (λ list r i. (bind_any {Q = SingleClosed} {f = λ t. pure list} (expect mark.Semicolon) (λ t. pure_gives (λ r. i))).gives r))

  one_locals_closed : (room : Bool) → Gives Closed (one_locals e turns room)
  unfolding one_locals
  one_locals_closed room = here_gives (λ l k. bind_gives {P = SingleClosed} (λ list. pure (single l k list)) (locals_closed room) (λ list r i. i l k))

  jump_closed : (node : (line token : ℕ) → StmtTree) → ((l k : ℕ) → is_open (node l k) ≡ false) → Gives Closed (jump e turns node)
  unfolding jump
  jump_closed node c = bind_any take (λ t. bind_any (expect mark.Semicolon) (λ v. makes (node t.line t.at) (c t.line t.at)))

-- ---- statements with others in them

module _ (clauses : Clauses) (e d turns : ℕ) (sub : Parser StmtTree) (sub_entry : Parser (List StmtTree)) (shuts : Gives Shut sub) where
  -- what ends with a statement is open where that is
  ends_shut : (node : StmtTree → StmtTree) → ((s : StmtTree) → is_open (node s) ≡ is_open s) → Gives Shut (sub >>= (λ s. pure (node s)))
  ends_shut node same = bind_gives {P = Shut} (λ s. pure (node s)) shuts (λ s r h i. h (sym (same s) ∙ i))

  block_closed : Gives Closed (block clauses e d turns sub sub_entry)
  unfolding block
  block_closed = bind_any take (λ t. bind_any (many turns (is_not mark.CloseBrace) sub_entry) (λ lists. bind_any (expect mark.CloseBrace) (λ v. makes (StmtTree.block t.line t.at (stmts_in (joined lists))) refl)))

  else_shuts : (t : Sym) (c : Tree) (s : StmtTree) → Gives Shut (else_part clauses e d turns sub sub_entry t c s)
  unfolding else_part
  else_shuts t c s = record { gives = λ w. at w (is_keyword keyword.Else (head w)) refl }
    where
      at : (w : List Sym) (b : Bool) → is_keyword keyword.Else (head w) ≡ b → OnOk Shut (pick b (take >>= (λ _. sub >>= (λ other. pure (StmtTree.if_else t.line t.at c s other)))) (pure (StmtTree.if_only t.line t.at c s)) w)
      at w true i = (bind_any {Q = Shut} {f = λ _. sub >>= (λ other. pure (StmtTree.if_else t.line t.at c s other))} take (λ u. ends_shut (λ other. StmtTree.if_else t.line t.at c s other) (λ other. refl))).gives w
      at w false i = λ j. i

  plain_at_shuts : (k : Option SymKind) → Gives Shut (plain_at clauses e d turns sub sub_entry k)
  unfolding choice while_loop do_loop for_loop for_rest returned simd_line lost_line
  plain_at_shuts (Some (kind.Sign mark.OpenBrace)) = closed_shuts block_closed
  plain_at_shuts (Some (kind.Keyword keyword.If)) = pick_gives (nat_lt 0 d) (bind_any take (λ t. bind_any (condition e turns) (λ c. bind_any sub (λ s. else_shuts t c s)))) deep_gives
  plain_at_shuts (Some (kind.Keyword keyword.While)) = pick_gives (nat_lt 0 d) (bind_any take (λ t. bind_any (condition e turns) (λ c. ends_shut (StmtTree.while_loop t.line t.at c) (λ s. refl)))) deep_gives
  plain_at_shuts (Some (kind.Keyword keyword.Do)) = closed_shuts (pick_gives (nat_lt 0 d) (bind_any take (λ t. bind_any sub (λ s. bind_any (expect_word keyword.While) (λ u. bind_any (condition e turns) (λ c. bind_any (expect mark.Semicolon) (λ v. makes (StmtTree.do_loop t.line t.at s c) refl)))))) deep_gives)
  plain_at_shuts (Some (kind.Keyword keyword.For)) = pick_gives (nat_lt 0 d) (bind_any take (λ t. bind_any (expect mark.OpenParen) (λ u. bind_any (first_part clauses e d turns sub sub_entry) (λ a. bind_any (optional e turns mark.Semicolon) (λ c. bind_any (part e turns mark.CloseParen) (λ b. ends_shut (StmtTree.for_loop t.line t.at a c b) (λ s. refl))))))) deep_gives
  plain_at_shuts (Some (kind.Keyword keyword.Break)) = closed_shuts (jump_closed e turns StmtTree.break_loop (λ l k. refl))
  plain_at_shuts (Some (kind.Keyword keyword.Continue)) = closed_shuts (jump_closed e turns StmtTree.continue_loop (λ l k. refl))
  plain_at_shuts (Some (kind.Keyword keyword.Return)) = closed_shuts (bind_any take (λ t. bind_any (optional e turns mark.Semicolon) (λ a. makes (StmtTree.return_value t.line t.at a) refl)))
  plain_at_shuts (Some (kind.Simd n)) = pick_gives (nat_lt 0 d) (bind_any take (λ t. ends_shut (StmtTree.simd t.line t.at (directive_at clauses t n)) (λ s. refl))) deep_gives
  plain_at_shuts (Some (kind.Simdfn n)) = closed_shuts (bind_any take (λ t. makes (StmtTree.lost t.line t.at (directive_at clauses t n)) refl))
  plain_at_shuts _ = closed_shuts (part_closed e turns mark.Semicolon)

  one_shuts : Gives Shut (one_statement clauses e d turns sub sub_entry)
  unfolding one_statement plain
  one_shuts = choose_gives is_type_part (closed_shuts (one_locals_closed e turns (nat_lt 0 d))) (look_gives plain_at_shuts)

pub statement_shuts : (clauses : Clauses) (e turns d : ℕ) → Gives Shut (statement clauses e turns d)
unfolding statement no_level
statement_shuts clauses e turns zero = choose_gives is_stmt_start deep_gives refuse_gives
statement_shuts clauses e turns (suc d) = one_shuts clauses e d turns (statement clauses e turns d) _ (statement_shuts clauses e turns d)
