use Rattle.std.proofs.Common.{◌≡◌, cond, None, take}
use Rattle.std.specs.List.{list_any}
use Rattle.vk_ast.specs.declared.names.NameId.{NameId}
use Rattle.vk_rules_book.specs.Signatures.{is_named}
use Rattle.vk_rules_directives.specs.Inner.Tables.{type_at}
use Rattle.vk_rules_directives.proofs.params.unlearn.Given as goal

abbrev pub invariant-loop-p : goal.invariant-loop-p
invariant-loop-p l = (id : NameId) → type_at l.types.items id ≡ cond (list_any (is_named id) (take l.p-index l.params)) None (type_at l.fn.types.items id)
