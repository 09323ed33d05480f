-- What the code answers, against the readers of statements on lists of tokens.
use Rattle.std.specs.Borrow.{Bor}
use Rattle.std.specs.Prelude.{◌≡◌, ℕ, nat_lt, Bool, List, map, Some, Result, Ok, Err}
use Rattle.vk_ast.specs.declared.statements.Stmt.{Stmt}
use Rattle.vk_ast.specs.Statements.{StmtTree, stmt_of}
use Rattle.vk_tokens.specs.declared.tokens.Mark.TheVariants as mark
use Rattle.vk_grammar_expr.specs.declared.symbols.Sym.{Sym}
use Rattle.vk_grammar_expr.specs.declared.symbols.SymKind.{SymKind}
use Rattle.vk_grammar_expr.specs.declared.symbols.Keyword.TheVariants as keyword
use Rattle.vk_grammar_expr.specs.Inner.Parser.{Fault, Parser, pure, too_deep, pick, many, ◌>>=◌}
use Rattle.vk_grammar_stmt.specs.Words.{is_keyword}
use Rattle.vk_grammar_stmt.specs.Trees.{Clauses, joined}
use Rattle.vk_grammar_stmt.specs.Inner.Reading.{statement, entry, is_not}
use Rattle.vk_parse_expr.specs.declared.fail.ReadFail.{ReadFail}
use Rattle.vk_parse_expr.specs.declared.fail.ReadFail.TheVariants as fails
use Rattle.vk_parse_expr.specs.Inner.Answers.{Gives}

-- the token is `const`
abbrev pub is_const : SymKind → Bool
is_const k = is_keyword keyword.Const (Some k)

-- this statement, unless memory ran out
abbrev pub Makes : Result Stmt ReadFail → StmtTree → Type 0
Makes (Ok s) tree = stmt_of s ≡ tree
Makes (Err fail) tree = fail ≡ fails.Memory

-- a statement and the tokens that are left
abbrev pub ReadsStmt : Result (Stmt × Bor (List Sym)) ReadFail → Result (StmtTree × List Sym) Fault → Type 0
ReadsStmt = Gives (λ x. (stmt_of x.0, x.1.now))

-- statements and the tokens that are left
abbrev pub ReadsStmts : Result (List Stmt × Bor (List Sym)) ReadFail → Result (List StmtTree × List Sym) Fault → Type 0
ReadsStmts = Gives (λ x. (map stmt_of x.0, x.1.now))

-- a reader of what has statements of at most `d` levels in it, and expressions of at most 64 levels
abbrev pub over : {A : Type 0} → (Clauses → (e d turns : ℕ) → Parser StmtTree → Parser (List StmtTree) → A) → Clauses → (d turns : ℕ) → A
over reader clauses d turns = reader clauses 63 d turns (statement clauses 63 turns d) (entry clauses 63 turns d)

-- a reader of what has a statement in it for sure
abbrev pub inside : Parser StmtTree → (d : ℕ) → Parser StmtTree
inside reader d = pick (nat_lt 0 d) reader too_deep

-- what the entries before a `}` make
abbrev pub entries : Clauses → (d turns : ℕ) → Parser (List StmtTree)
entries clauses d turns = many turns (is_not mark.CloseBrace) (entry clauses 63 turns d) >>= (λ lists. pure (joined lists))
