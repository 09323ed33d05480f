-- The grammar of statements (C17 6.8), as a relation between trees, the greatest height of an expression in them, and
-- their texts:
--
--   block  = "{" { stmt } "}"
--   stmt   = block | ";" | locals | act ";" | if "(" cond ")" stmt [ else stmt ]
--          | while "(" cond ")" stmt | do stmt while "(" cond ")" ";"
--          | for "(" ( locals | [act] ";" ) [cond] ";" [act] ")" stmt
--          | break ";" | continue ";" | return [cond] ";" | SIMD stmt | SIMDFN
--   locals = ctype ID [ "=" cond ] { "," ID [ "=" cond ] } ";"
--   act    = unary asg cond | ( "++" | "--" ) unary | unary ( "++" | "--" ) | cond
--
-- Each name that is declared is a statement of its own. A statement has the line and the number of its first token, a
-- local variable those of its name. An `else` belongs to the nearest `if`.
use Rattle.std.specs.Prelude.{◌≡◌, ◌≤◌, ℕ, max, Bool, false, List, [], ◌∷◌, ◌++◌, Option, Some, None}
use Rattle.vk_types.specs.declared.types.Ty.{Ty}
use Rattle.vk_ast.specs.declared.names.NameId.{NameId}
use Rattle.vk_ast.specs.declared.expressions.BinOp.{BinOp}
use Rattle.vk_ast.specs.Tree.{Tree}
use Rattle.vk_ast.specs.Statements.{StmtTree}
use Rattle.vk_tokens.specs.declared.tokens.Mark.{Mark}
use Rattle.vk_tokens.specs.declared.tokens.Mark.TheVariants as mark
use Rattle.vk_grammar_expr.specs.declared.symbols.Sym.{Sym}
use Rattle.vk_grammar_expr.specs.declared.symbols.SymKind.TheVariants as kind
use Rattle.vk_grammar_expr.specs.declared.symbols.Keyword.TheVariants as keyword
use Rattle.vk_grammar_expr.specs.Symbols.{line_at, number_at, Is, IsSign}
use Rattle.vk_grammar_expr.specs.Types.{IsType, type_in}
use Rattle.vk_grammar_expr.specs.Grammar.{level, full, Spells}
use Rattle.vk_grammar_stmt.specs.Words.{IsKeyword, has_const, IsAssign, IsStep}
use Rattle.vk_grammar_stmt.specs.Trees.{Clauses, directive_at, stmts_in, single, unit_at, is_open, levels_of}

-- `( cond )`
pub data InParens : Tree → (height : ℕ) → List Sym → Type 0 where
  in_parens : {u : Sym} {c : Tree} {h : ℕ} {x : List Sym} {v : Sym} → IsSign mark.OpenParen u → Spells full c h x → IsSign mark.CloseParen v
      → InParens c h (u ∷ (x ++ (v ∷ [])))

-- `[cond]`, with the sign that ends it
pub data IsOptional (m : Mark) : Option Tree → (height : ℕ) → List Sym → Type 0 where
  left_out : {v : Sym} → IsSign m v → IsOptional m None 0 (v ∷ [])
  given : {c : Tree} {h : ℕ} {x : List Sym} {v : Sym} → Spells full c h x → IsSign m v → IsOptional m (Some c) h (x ++ (v ∷ []))

-- assignments and expressions (6.8.3); the 1 of `++` and `--` stands at that sign
pub data IsAct : StmtTree → (height : ℕ) → List Sym → Type 0 where
  an_assignment : {p e : Tree} {h k : ℕ} {x : List Sym} {o : Option BinOp} {t : Sym} {y : List Sym} → Spells (level 0) p h x → IsAssign o t → Spells full e k y
      → IsAct (StmtTree.assign (line_at x) (number_at x) o p e) (max h k) (x ++ (t ∷ y))
  a_step_before : {o : BinOp} {t : Sym} {p : Tree} {h : ℕ} {x : List Sym} → IsStep o t → Spells (level 0) p h x
      → IsAct (StmtTree.assign t.line t.at (Some o) p (unit_at t)) h (t ∷ x)
  a_step_behind : {p : Tree} {h : ℕ} {x : List Sym} {o : BinOp} {t : Sym} → Spells (level 0) p h x → IsStep o t
      → IsAct (StmtTree.assign (line_at x) (number_at x) (Some o) p (unit_at t)) h (x ++ (t ∷ []))
  a_value : {e : Tree} {h : ℕ} {x : List Sym} → Spells full e h x → IsAct (StmtTree.value (line_at x) (number_at x) e) h x

-- `[act]`, with the sign that ends it, at which an empty statement stands
pub data IsPart (m : Mark) : StmtTree → (height : ℕ) → List Sym → Type 0 where
  no_act : {v : Sym} → IsSign m v → IsPart m (StmtTree.empty v.line v.at) 0 (v ∷ [])
  an_act : {s : StmtTree} {h : ℕ} {x : List Sym} {v : Sym} → IsAct s h x → IsSign m v → IsPart m s h (x ++ (v ∷ []))

-- `ID [ "=" cond ]` of a type
pub data IsNamed (ty : Ty) (fixed : Bool) : StmtTree → (height : ℕ) → List Sym → Type 0 where
  bare : {id : NameId} {t : Sym} → Is (kind.Name id) t → IsNamed ty fixed (StmtTree.local t.line t.at ty fixed id None) 0 (t ∷ [])
  with_value : {id : NameId} {t u : Sym} {e : Tree} {h : ℕ} {x : List Sym} → Is (kind.Name id) t → IsSign mark.Assign u → Spells full e h x
      → IsNamed ty fixed (StmtTree.local t.line t.at ty fixed id (Some e)) h (t ∷ (u ∷ x))

pub data AreNamed (ty : Ty) (fixed : Bool) : List StmtTree → (height : ℕ) → List Sym → Type 0 where
  none_named : AreNamed ty fixed [] 0 []
  more_named : {t : Sym} {s : StmtTree} {h : ℕ} {list : List StmtTree} {k : ℕ} {x y : List Sym} → IsSign mark.Comma t → IsNamed ty fixed s h x → AreNamed ty fixed list k y
      → AreNamed ty fixed (s ∷ list) (max h k) ((t ∷ x) ++ y)

-- declarations of local variables (6.7)
pub data AreLocals : List StmtTree → (height : ℕ) → List Sym → Type 0 where
  locals : {c : List Sym} {s : StmtTree} {h : ℕ} {list : List StmtTree} {k : ℕ} {x y : List Sym} {v : Sym} → IsType c → IsNamed (type_in c) (has_const c) s h x
      → AreNamed (type_in c) (has_const c) list k y → IsSign mark.Semicolon v → AreLocals (s ∷ list) (max h k) (c ++ (x ++ (y ++ (v ∷ []))))

-- the first part in the head of a `for`
pub data IsFirst : StmtTree → (height : ℕ) → List Sym → Type 0 where
  first_act : {s : StmtTree} {h : ℕ} {x : List Sym} → IsPart mark.Semicolon s h x → IsFirst s h x
  first_locals : {list : List StmtTree} {h : ℕ} {x : List Sym} → AreLocals list h x → IsFirst (single (line_at x) (number_at x) list) h x

mutual
  -- blocks (6.8.2)
  pub data IsBlock (clauses : Clauses) : StmtTree → (height : ℕ) → List Sym → Type 0 where
    in_braces : {u : Sym} {list : List StmtTree} {h : ℕ} {x : List Sym} {v : Sym} → IsSign mark.OpenBrace u → AreEntries clauses list h x → IsSign mark.CloseBrace v
        → IsBlock clauses (StmtTree.block u.line u.at (stmts_in list)) h (u ∷ (x ++ (v ∷ [])))

  -- statements that are no declarations
  pub data IsPlain (clauses : Clauses) : StmtTree → (height : ℕ) → List Sym → Type 0 where
    a_block : {s : StmtTree} {h : ℕ} {x : List Sym} → IsBlock clauses s h x → IsPlain clauses s h x
    a_part : {s : StmtTree} {h : ℕ} {x : List Sym} → IsPart mark.Semicolon s h x → IsPlain clauses s h x
    -- selection (6.8.4)
    an_if : {t : Sym} {c : Tree} {h : ℕ} {x : List Sym} {s : StmtTree} {k : ℕ} {y : List Sym} → IsKeyword keyword.If t → InParens c h x → IsStmt clauses s k y
        → IsPlain clauses (StmtTree.if_only t.line t.at c s) (max h k) (t ∷ (x ++ y))
    an_if_else : {t : Sym} {c : Tree} {h : ℕ} {x : List Sym} {s : StmtTree} {k : ℕ} {y : List Sym} {u : Sym} {other : StmtTree} {m : ℕ} {z : List Sym}
        → IsKeyword keyword.If t → InParens c h x → IsStmt clauses s k y → is_open s ≡ false → IsKeyword keyword.Else u → IsStmt clauses other m z
        → IsPlain clauses (StmtTree.if_else t.line t.at c s other) (max h (max k m)) (t ∷ (x ++ (y ++ (u ∷ z))))
    -- loops (6.8.5)
    a_while : {t : Sym} {c : Tree} {h : ℕ} {x : List Sym} {s : StmtTree} {k : ℕ} {y : List Sym} → IsKeyword keyword.While t → InParens c h x → IsStmt clauses s k y
        → IsPlain clauses (StmtTree.while_loop t.line t.at c s) (max h k) (t ∷ (x ++ y))
    a_do : {t : Sym} {s : StmtTree} {h : ℕ} {x : List Sym} {u : Sym} {c : Tree} {k : ℕ} {y : List Sym} {v : Sym} → IsKeyword keyword.Do t → IsStmt clauses s h x
        → IsKeyword keyword.While u → InParens c k y → IsSign mark.Semicolon v
        → IsPlain clauses (StmtTree.do_loop t.line t.at s c) (max h k) (t ∷ (x ++ (u ∷ (y ++ (v ∷ [])))))
    a_for : {t u : Sym} {a : StmtTree} {h : ℕ} {x : List Sym} {c : Option Tree} {k : ℕ} {y : List Sym} {b : StmtTree} {m : ℕ} {z : List Sym} {s : StmtTree} {n : ℕ} {q : List Sym}
        → IsKeyword keyword.For t → IsSign mark.OpenParen u → IsFirst a h x → IsOptional mark.Semicolon c k y → IsPart mark.CloseParen b m z → IsStmt clauses s n q
        → IsPlain clauses (StmtTree.for_loop t.line t.at a c b s) (max h (max k (max m n))) (t ∷ (u ∷ (x ++ (y ++ (z ++ q)))))
    -- jumps (6.8.6)
    a_break : {t v : Sym} → IsKeyword keyword.Break t → IsSign mark.Semicolon v → IsPlain clauses (StmtTree.break_loop t.line t.at) 0 (t ∷ (v ∷ []))
    a_continue : {t v : Sym} → IsKeyword keyword.Continue t → IsSign mark.Semicolon v → IsPlain clauses (StmtTree.continue_loop t.line t.at) 0 (t ∷ (v ∷ []))
    a_return : {t : Sym} {c : Option Tree} {h : ℕ} {x : List Sym} → IsKeyword keyword.Return t → IsOptional mark.Semicolon c h x
        → IsPlain clauses (StmtTree.return_value t.line t.at c) h (t ∷ x)
    -- lines of directives
    a_simd : {n : ℕ} {t : Sym} {s : StmtTree} {h : ℕ} {x : List Sym} → Is (kind.Simd n) t → IsStmt clauses s h x
        → IsPlain clauses (StmtTree.simd t.line t.at (directive_at clauses t n) s) h (t ∷ x)
    a_lost_line : {n : ℕ} {t : Sym} → Is (kind.Simdfn n) t → IsPlain clauses (StmtTree.lost t.line t.at (directive_at clauses t n)) 0 (t ∷ [])

  -- where one statement is wanted
  pub data IsStmt (clauses : Clauses) : StmtTree → (height : ℕ) → List Sym → Type 0 where
    a_plain : {s : StmtTree} {h : ℕ} {x : List Sym} → IsPlain clauses s h x → IsStmt clauses s h x
    some_locals : {list : List StmtTree} {h : ℕ} {x : List Sym} → AreLocals list h x → IsStmt clauses (single (line_at x) (number_at x) list) h x

  -- the statements that one in a block makes: several, where it is a declaration of several names
  pub data IsEntry (clauses : Clauses) : List StmtTree → (height : ℕ) → List Sym → Type 0 where
    plain_entry : {s : StmtTree} {h : ℕ} {x : List Sym} → IsPlain clauses s h x → IsEntry clauses (s ∷ []) h x
    locals_entry : {list : List StmtTree} {h : ℕ} {x : List Sym} → AreLocals list h x → IsEntry clauses list h x

  -- and those in a block
  pub data AreEntries (clauses : Clauses) : List StmtTree → (height : ℕ) → List Sym → Type 0 where
    no_entries : AreEntries clauses [] 0 []
    more_entries : {list : List StmtTree} {h : ℕ} {rest : List StmtTree} {k : ℕ} {x y : List Sym} → IsEntry clauses list h x → AreEntries clauses rest k y
        → AreEntries clauses (list ++ rest) (max h k) (x ++ y)

-- The texts of whole statements; and those with expressions of a height of at most `e` and at most `d` levels of statements.
abbrev pub IsStatement : Clauses → List Sym → Type 0
IsStatement clauses u = (s : StmtTree) × ((h : ℕ) × IsStmt clauses s h u)

abbrev pub IsStatementWithin : Clauses → (e d : ℕ) → List Sym → Type 0
IsStatementWithin clauses e d u = (s : StmtTree) × ((h : ℕ) × (IsStmt clauses s h u × ((h ≤ e) × (levels_of s ≤ d))))
