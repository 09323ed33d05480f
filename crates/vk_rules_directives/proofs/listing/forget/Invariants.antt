use Rattle.std.proofs.Common.{◌≡◌, ◌&&◌, not, take}
use Rattle.vk_ast.specs.declared.names.NameId.{NameId}
use Rattle.vk_rules_directives.specs.Inner.Tables.{has, names_one}
use Rattle.vk_rules_directives.proofs.listing.forget.Given as goal

abbrev pub invariant-loop-e : goal.invariant-loop-e
invariant-loop-e l = (id : NameId) → has l.set id ≡ (has l.fn.set id && not (names_one (take l.e-index l.entries) id))
