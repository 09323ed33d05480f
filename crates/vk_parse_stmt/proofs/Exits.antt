-- Where a part of a statement was not read.
use Rattle.std.specs.Borrow.{Bor}
use Rattle.std.specs.Result.{IsErrAnd}
use Rattle.std.proofs.Common.{◌≡◌, List, Result, Ok, Err, sym, ap, subst}
use Rattle.vk_ast.specs.declared.statements.Stmt.{Stmt}
use Rattle.vk_ast.specs.Statements.{StmtTree}
use Rattle.vk_grammar_expr.specs.declared.symbols.Sym.{Sym}
use Rattle.vk_grammar_expr.specs.Inner.Parser.{Fault, Parser, then_do}
use Rattle.vk_parse_expr.specs.declared.fail.ReadFail.{ReadFail}
use Rattle.vk_parse_expr.specs.declared.fail.ReadFail.TheVariants as fails
use Rattle.vk_parse_expr.specs.Inner.Answers.{Fails}
use Rattle.vk_parse_stmt.specs.Inner.Answers.{ReadsStmt}

fails_on : {A : Type 0} (fail : ReadFail) (read : Result (A × List Sym) Fault) (next : A → Parser StmtTree) → Fails fail read → Fails fail (then_do read next)
fails_on (fails.Syntax n) read next f = ap (λ r. then_do r next) f
fails_on (fails.Deep n) read next f = ap (λ r. then_do r next) f
fails_on fails.Memory read next f = tt

pub not_read : {A : Type 0} (result : Result (Stmt × Bor (List Sym)) ReadFail) (fail : ReadFail) (read : Result (A × List Sym) Fault) (next : A → Parser StmtTree) → result ≡ Err fail → Fails fail read
    → ReadsStmt result (then_do read next)
not_read result fail read next e f = subst (λ r. ReadsStmt r (then_do read next)) (sym e) (fails_on fail read next f)

pub is_err : {A : Type 0} (result : Result A ReadFail) (fail : ReadFail) → IsErrAnd result (λ e. e ≡ fail) → result ≡ Err fail
is_err (Ok x) fail e = absurd e
is_err (Err f) fail e = ap Err e
