use Rattle.std.proofs.Common.{◌≡◌, min, take}
use Rattle.vk_ast.specs.Statements.{list_stmts}
use Rattle.vk_rules_book.specs.Items.{all_locals}
use Rattle.vk_rules_items.proofs.sizes.+locals_of.Given as goal

abbrev pub invariant-loop-statement : goal.invariant-loop-statement
invariant-loop-statement l = l.locals ≡ min (all_locals (list_stmts (take l.statement-index l.statement-items))) 4294967295
