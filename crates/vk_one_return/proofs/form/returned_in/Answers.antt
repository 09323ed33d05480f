-- A block is seen with its statements.
use Rattle.std.proofs.Common.{ap, sym, ◌∙◌}
use Rattle.vk_ast.specs.declared.statements.StmtKind.{StmtKind}
use Rattle.vk_ast.specs.Statements.{list_stmts, stmt_kind_of}
use Rattle.vk_ast.proofs.Rows.{block_seen}
use Rattle.vk_one_return.specs.Form.{returned_alone, returned_in}
use Rattle.vk_one_return.proofs.form.returned_in.Goals as goal

pub returns-in-Block : goal.returns-in-Block
returns-in-Block c =
    c.returned_alone.ensures ∙ ap (λ ss. returned_alone (list_stmts ss)) c.deref.ensures.value
    ∙ sym (ap (λ (k : StmtKind). returned_in (stmt_kind_of k c.args.body.now.line c.args.body.now.token)) c.in-Block.is
    ∙ ap returned_in (block_seen c.args.body.now.line c.args.body.now.token c.in-Block.statements))
