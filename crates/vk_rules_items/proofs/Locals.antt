-- Local variables of statements one after another.
use Rattle.std.proofs.Common.{◌≡◌, ℕ, ◌+◌, ◌<◌, List, [], ◌∷◌, ◌++◌, length, take, get_or, sym, ap, ◌∙◌, arith}
use Rattle.std.proofs.lemmas.List.{take_more}
use Rattle.std.specs.Global.{Vec}
use Rattle.vk_ast.specs.declared.statements.Stmt.{Stmt}
use Rattle.vk_ast.specs.declared.statements.StmtKind.TheVariants.{Block}
use Rattle.vk_ast.specs.Statements.{stmt_kind_of, stmt_of, list_stmts}
use Rattle.vk_ast.proofs.Rows.{block_seen}
use Rattle.vk_rules_book.specs.Items.{locals_of, all_locals}

one_more : (ss : List Stmt) (s : Stmt) → all_locals (list_stmts (ss ++ s ∷ [])) ≡ all_locals (list_stmts ss) + locals_of (stmt_of s)
one_more [] s = omega arith
one_more (x ∷ ss) s = omega (arith, one_more ss s)

-- the local variables of one statement more of a list
pub next_locals : (ss : List Stmt) (i : ℕ) (s : Stmt) → i < length ss → s ≡ get_or ss i s
    → all_locals (list_stmts (take (i + 1) ss)) ≡ all_locals (list_stmts (take i ss)) + locals_of (stmt_of s)
next_locals ss i s below is =
    ap (λ xs. all_locals (list_stmts xs)) (take_more ss i s below ∙ ap (λ x. take i ss ++ x ∷ []) (sym is)) ∙ one_more (take i ss) s

-- those of a block
pub block_locals : (line token : ℕ) (ss : Vec Stmt) → locals_of (stmt_kind_of (Block ss) line token) ≡ all_locals (list_stmts ss.items)
block_locals line token ss = ap locals_of (block_seen line token ss)
