use Rattle.std.proofs.Common.{List, ℕ, subst}
use Rattle.vk_ast.specs.Names.{IsAdded}
use Rattle.vk_parse.proofs.Copying.{copied}
use Rattle.vk_parse.proofs.table.copy_table.Goals as goal

pub loop-id-preserved : goal.loop-id-preserved
loop-id-preserved c =
    copied c.args.names.now c.add.new.self c.loop-id.id c.text.result.now c.in_ok-add.field-0.0 c.len-id-end.ensures.distinct c.text.ensures
    (subst (λ (ts : List (List ℕ)). IsAdded ts c.add.new.self c.text.result.now c.in_ok-add.field-0.0) c.loop-id.invariant c.in_ok-add.ensures.added)
