-- Assignments to elements of memory.
use Rattle.std.specs.Prelude.{◌≡◌, ◌+◌, ◌*◌, true, List, length}
use Rattle.vk_types.specs.declared.types.Ty.{Ty}
use Rattle.vk_kinds.specs.declared.heads.CType.TheVariants.{Void}
use Rattle.vk_ast.specs.Tree.{Tree, nodes_of}
use Rattle.vk_rules_book.specs.declared.typings.Typing.TheVariants.{Cell}
use Rattle.vk_rules_book.specs.Scopes.{Scope}
use Rattle.vk_rules_book.specs.Typings.{typing_of}
use Rattle.vk_meaning.specs.Expressions.{address_of, integer_type, value_of}
use Rattle.vk_meaning.specs.Statements.{assigned}
use Rattle.vk_construct.specs.Adds.{AddsValue, IsTableOf, Written}
use Rattle.vk_construct.specs.Computes.{Table}
use Rattle.vk_flat.specs.declared.emitter.Under.{Under}
use Rattle.vk_flat_pointers.specs.declared.homes.Named.{Named}
use Rattle.vk_flat_trees.specs.Emits.{Grows}
use Rattle.vk_flat_trees.specs.Names.{AreNames}

-- The code of `place = e` has come behind, wherever the names are variables and the place is an element that may be written: in at
-- most eight instructions a node, and two.
pub record EmitsAssigned (old new : Written) (names : List Named) (place e : Tree) (u : Under) : Type 0 where
  pub code : (scope : Scope) (tb : Table) (to : Ty) → AreNames names scope tb → typing_of scope place ≡ Cell to true → IsTableOf old tb (length old.regs) →
      AddsValue old new tb (λ c vs. assigned c (integer_type (typing_of scope place)) (address_of c scope vs place) (value_of c scope vs e)) Void 0 u.mask (length old.regs) u.free
      (8 * (nodes_of place + nodes_of e) + 2)
  pub grows : Grows old new
