-- The reader of statements, by recursive descent. Each expression begins anew: it may have `e` levels below its root. `d` is
-- how many levels of statements may stand below one. `turns` bounds the loops; one more than there are tokens is enough.
use Rattle.std.specs.Prelude.{ℕ, zero, suc, nat_lt, Bool, true, List, [], ◌∷◌, Option, Some, None, not}
use Rattle.vk_types.specs.declared.types.Ty.{Ty}
use Rattle.vk_ast.specs.declared.names.NameId.{NameId}
use Rattle.vk_ast.specs.declared.expressions.BinOp.{BinOp}
use Rattle.vk_ast.specs.Tree.{Tree}
use Rattle.vk_ast.specs.Statements.{StmtTree}
use Rattle.vk_tokens.specs.declared.tokens.Mark.{Mark}
use Rattle.vk_tokens.specs.declared.tokens.Mark.TheVariants as mark
use Rattle.vk_grammar_expr.specs.declared.symbols.Sym.{Sym}
use Rattle.vk_grammar_expr.specs.declared.symbols.SymKind.{SymKind}
use Rattle.vk_grammar_expr.specs.declared.symbols.SymKind.TheVariants as kind
use Rattle.vk_grammar_expr.specs.declared.symbols.Keyword.{Keyword}
use Rattle.vk_grammar_expr.specs.declared.symbols.Keyword.TheVariants as keyword
use Rattle.vk_grammar_expr.specs.Symbols.{is_sign, is_type_part}
use Rattle.vk_grammar_expr.specs.Types.{type_in}
use Rattle.vk_grammar_expr.specs.Grammar.{Tall, level, full}
use Rattle.vk_grammar_expr.specs.Inner.Parser.{Parser, pure, refuse, too_deep, ◌>>=◌, take, look, here, pick, pick_some, expect, many, whole}
use Rattle.vk_grammar_expr.specs.Inner.Reading.{type_words, expression, onwards}
use Rattle.vk_grammar_stmt.specs.Words.{is_keyword, name_at, has_const, assign_at, step_at, is_stmt_start}
use Rattle.vk_grammar_stmt.specs.Trees.{Clauses, directive_at, stmts_in, joined, single, unit_at}

-- this keyword
abbrev pub expect_word : Keyword → Parser Sym
expect_word w = look (λ k. pick (is_keyword w k) take refuse)

-- this sign may not stand here
abbrev pub is_not : Mark → Option SymKind → Bool
is_not m k = not (is_sign m k)

-- where no level may stand: too deep where a statement begins
unfoldable pub no_level : {A : Type 0} → Parser A
no_level = look (λ k. pick (is_stmt_start k) too_deep refuse)

module _ (e turns : ℕ) where
  unfoldable pub cond : Parser Tall
  cond = expression turns (suc e) full

  unfoldable pub unary : Parser Tall
  unary = expression turns (suc e) (level 0)

  -- `( cond )`
  unfoldable pub condition : Parser Tree
  condition = expect mark.OpenParen >>= (λ _. cond >>= (λ c. expect mark.CloseParen >>= (λ _. pure c.tree)))

  -- `[cond]`, with the sign that ends it
  unfoldable pub optional : Mark → Parser (Option Tree)
  optional m = look (λ k. pick (is_sign m k) (take >>= (λ _. pure None)) (cond >>= (λ c. expect m >>= (λ _. pure (Some c.tree)))))

  -- ---- assignments and expressions

  -- at `++` or `--`
  unfoldable pub step_before : BinOp → Parser StmtTree
  step_before o = take >>= (λ t. unary >>= (λ p. pure (StmtTree.assign t.line t.at (Some o) p.tree (unit_at t))))

  -- behind an operand of level 0 that begins at line `l` and token `k`
  unfoldable pub assigned : (l k : ℕ) → Tall → Option BinOp → Parser StmtTree
  assigned l k p o = take >>= (λ _. cond >>= (λ a. pure (StmtTree.assign l k o p.tree a.tree)))

  unfoldable pub stepped : (l k : ℕ) → Tall → BinOp → Parser StmtTree
  stepped l k p o = take >>= (λ t. pure (StmtTree.assign l k (Some o) p.tree (unit_at t)))

  unfoldable pub valued : (l k : ℕ) → Tall → Parser StmtTree
  valued l k p = onwards e turns (expression turns e) l k p >>= (λ a. pure (StmtTree.value l k a.tree))

  unfoldable pub behind_operand : (l k : ℕ) → Tall → Parser StmtTree
  behind_operand l k p = look (λ s. pick_some (assign_at s) (assigned l k p) (pick_some (step_at s) (stepped l k p) (valued l k p)))

  unfoldable pub act : Parser StmtTree
  act = look (λ s. pick_some (step_at s) step_before (here (λ l k. unary >>= behind_operand l k)))

  -- `[act]`, with the sign that ends it
  unfoldable pub part : Mark → Parser StmtTree
  part m = look (λ k. pick (is_sign m k) (take >>= (λ t. pure (StmtTree.empty t.line t.at))) (act >>= (λ s. expect m >>= (λ _. pure s))))

  -- ---- declarations

  -- behind a name
  unfoldable pub initial : Parser (Option Tree)
  initial = look (λ k. pick (is_sign mark.Assign k) (take >>= (λ _. cond >>= (λ a. pure (Some a.tree)))) (pure None))

  unfoldable pub named_local : Ty → Bool → NameId → Parser StmtTree
  named_local ty fixed id = take >>= (λ t. initial >>= (λ a. pure (StmtTree.local t.line t.at ty fixed id a)))

  unfoldable pub local : Ty → Bool → Parser StmtTree
  local ty fixed = look (λ k. pick_some (name_at k) (named_local ty fixed) refuse)

  -- at a comma; `room` tells whether there may be several names
  unfoldable pub later_local : (room : Bool) → Ty → Bool → Parser StmtTree
  later_local room ty fixed = pick room (take >>= (λ _. local ty fixed)) too_deep

  unfoldable pub local_list : (room : Bool) → Ty → Bool → Parser (List StmtTree)
  local_list room ty fixed = local ty fixed >>= (λ first. many turns (is_sign mark.Comma) (later_local room ty fixed) >>= (λ rest. pure (first ∷ rest)))

  unfoldable pub locals : (room : Bool) → Parser (List StmtTree)
  locals room = type_words turns >>= (λ c. local_list room (type_in c) (has_const c) >>= (λ list. expect mark.Semicolon >>= (λ _. pure list)))

  -- where one statement is wanted
  unfoldable pub one_locals : (room : Bool) → Parser StmtTree
  one_locals room = here (λ l k. locals room >>= (λ list. pure (single l k list)))

  -- ---- statements with none in them

  -- at a keyword
  unfoldable pub jump : ((line token : ℕ) → StmtTree) → Parser StmtTree
  jump node = take >>= (λ t. expect mark.Semicolon >>= (λ _. pure (node t.line t.at)))

  unfoldable pub returned : Parser StmtTree
  returned = take >>= (λ t. optional mark.Semicolon >>= (λ a. pure (StmtTree.return_value t.line t.at a)))

module _ (clauses : Clauses) (e d turns : ℕ) (sub : Parser StmtTree) (sub_entry : Parser (List StmtTree)) where
  -- at a `{`
  unfoldable pub block : Parser StmtTree
  block = take >>= (λ t. many turns (is_not mark.CloseBrace) sub_entry >>= (λ lists. expect mark.CloseBrace >>= (λ _.
      pure (StmtTree.block t.line t.at (stmts_in (joined lists))))))

  -- behind the first branch of an `if`, which stands at `t`
  unfoldable pub else_part : Sym → Tree → StmtTree → Parser StmtTree
  else_part t c s = look (λ k. pick (is_keyword keyword.Else k) (take >>= (λ _. sub >>= (λ other. pure (StmtTree.if_else t.line t.at c s other))))
      (pure (StmtTree.if_only t.line t.at c s)))

  unfoldable pub choice : Parser StmtTree
  choice = take >>= (λ t. condition e turns >>= (λ c. sub >>= else_part t c))

  unfoldable pub while_loop : Parser StmtTree
  while_loop = take >>= (λ t. condition e turns >>= (λ c. sub >>= (λ s. pure (StmtTree.while_loop t.line t.at c s))))

  unfoldable pub do_loop : Parser StmtTree
  do_loop = take >>= (λ t. sub >>= (λ s. expect_word keyword.While >>= (λ _. condition e turns >>= (λ c. expect mark.Semicolon >>= (λ _.
      pure (StmtTree.do_loop t.line t.at s c))))))

  -- the first part in the head of a `for`, which is a level below it
  unfoldable pub first_part : Parser StmtTree
  first_part = look (λ k. pick (is_type_part k) (one_locals e turns (nat_lt 1 d)) (part e turns mark.Semicolon))

  unfoldable pub for_rest : Sym → StmtTree → Parser StmtTree
  for_rest t a = optional e turns mark.Semicolon >>= (λ c. part e turns mark.CloseParen >>= (λ b. sub >>= (λ s. pure (StmtTree.for_loop t.line t.at a c b s))))

  unfoldable pub for_loop : Parser StmtTree
  for_loop = take >>= (λ t. expect mark.OpenParen >>= (λ _. first_part >>= for_rest t))

  unfoldable pub simd_line : ℕ → Parser StmtTree
  simd_line n = take >>= (λ t. sub >>= (λ s. pure (StmtTree.simd t.line t.at (directive_at clauses t n) s)))

  unfoldable pub lost_line : ℕ → Parser StmtTree
  lost_line n = take >>= (λ t. pure (StmtTree.lost t.line t.at (directive_at clauses t n)))

  -- what has a statement in it for sure
  abbrev pub deeper : Parser StmtTree → Parser StmtTree
  deeper p = pick (nat_lt 0 d) p too_deep

  abbrev pub plain_at : Option SymKind → Parser StmtTree
  plain_at (Some (kind.Sign mark.OpenBrace)) = block
  plain_at (Some (kind.Keyword keyword.If)) = deeper choice
  plain_at (Some (kind.Keyword keyword.While)) = deeper while_loop
  plain_at (Some (kind.Keyword keyword.Do)) = deeper do_loop
  plain_at (Some (kind.Keyword keyword.For)) = deeper for_loop
  plain_at (Some (kind.Keyword keyword.Break)) = jump e turns StmtTree.break_loop
  plain_at (Some (kind.Keyword keyword.Continue)) = jump e turns StmtTree.continue_loop
  plain_at (Some (kind.Keyword keyword.Return)) = returned e turns
  plain_at (Some (kind.Simd n)) = deeper (simd_line n)
  plain_at (Some (kind.Simdfn n)) = lost_line n
  plain_at _ = part e turns mark.Semicolon

  unfoldable pub plain : Parser StmtTree
  plain = look plain_at

  -- where one statement is wanted
  unfoldable pub one_statement : Parser StmtTree
  one_statement = look (λ k. pick (is_type_part k) (one_locals e turns (nat_lt 0 d)) plain)

  -- in a block
  unfoldable pub one_entry : Parser (List StmtTree)
  one_entry = look (λ k. pick (is_type_part k) (locals e turns true) (plain >>= (λ s. pure (s ∷ []))))

-- Statements of at most `d` levels: one, and what one in a block makes.
unfoldable mutual
  pub statement : Clauses → (e turns d : ℕ) → Parser StmtTree
  statement clauses e turns zero = no_level
  statement clauses e turns (suc d) = one_statement clauses e d turns (statement clauses e turns d) (entry clauses e turns d)

  pub entry : Clauses → (e turns d : ℕ) → Parser (List StmtTree)
  entry clauses e turns zero = no_level
  entry clauses e turns (suc d) = one_entry clauses e d turns (statement clauses e turns d) (entry clauses e turns d)

-- the block of a function
abbrev pub body : Clauses → (e turns d : ℕ) → Parser StmtTree
body clauses e turns d = look (λ k. pick (is_sign mark.OpenBrace k) (statement clauses e turns d) refuse)

-- a whole statement and nothing else
abbrev pub whole_statement : Clauses → (e turns d : ℕ) → Parser StmtTree
whole_statement clauses e turns d = whole (statement clauses e turns d)
