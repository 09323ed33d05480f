-- Assignments to elements, from the code of their parts.
use Rattle.std.proofs.Common.{arith, sym, ◌≡◌, ◌+◌, ◌*◌, ◌<◌, Bool, true, List, length, subst, ap, ◌∙◌, Ok}
use Rattle.vk_types.specs.Numbers.{wrap_number}
use Rattle.vk_kinds.specs.declared.heads.CType.TheVariants.{Int, Ptr, Void}
use Rattle.vk_ast.specs.Tree.{Tree, cast, nodes_of}
use Rattle.vk_rules_book.specs.declared.typings.Typing.{Typing}
use Rattle.vk_rules_book.specs.declared.typings.Typing.TheVariants.{Cell}
use Rattle.vk_rules_book.specs.Scopes.{Scope}
use Rattle.vk_rules_book.specs.Typings.{typing_of}
use Rattle.vk_meaning.specs.Expressions.{address_of, integer_type, value_of}
use Rattle.vk_meaning.specs.Statements.{assigned}
use Rattle.vk_construct.specs.Adds.{AddsValue, IsTableOf, Written}
use Rattle.vk_construct.specs.Applies.{one}
use Rattle.vk_construct.specs.Computes.{Table}
use Rattle.vk_construct.proofs.Adding.{is_inside, no_fewer}
use Rattle.vk_construct.proofs.Evaluating.{emits_less}
use Rattle.vk_construct_memory.specs.Pointers.{HasPointer}
use Rattle.vk_construct_memory.proofs.Loading.{emits_stored}
use Rattle.vk_construct_places.specs.Places.{AddsPlace, part_nodes}
use Rattle.vk_flat.specs.declared.emitter.Place.{Place}
use Rattle.vk_flat.specs.declared.emitter.Under.{Under}
use Rattle.vk_flat.specs.Emitters.{Brings}
use Rattle.vk_flat_pointers.specs.declared.homes.Named.{Named}
use Rattle.vk_flat_pointers.specs.declared.homes.Pointer.{Pointer}
use Rattle.vk_flat_pointers.specs.Pieces.{HasStored}
use Rattle.vk_flat_trees.specs.Emits.{EmitsNumber, EmitsPlace}
use Rattle.vk_flat_trees.specs.Names.{AreNames}
use Rattle.vk_flat_trees.proofs.Emitting.{cast_emits, grows_then, table_then}
use Rattle.vk_flat_trees.proofs.Pointing.{grows_put}
use Rattle.vk_flat_elements.specs.Assigned.{EmitsAssigned}

abbrev written_in : Typing → Bool
written_in (Cell t w) = w
written_in t = true

pub assigned_emits : (a b c d g : Written) (names : List Named) (place e : Tree) (p : Pointer) (x y : Place) (u : Under) → u.mask < u.free → EmitsPlace a b names place p u → EmitsNumber b c names e x u →
    Brings c d (one (λ z. Ok (wrap_number p.to z)) x.ty x.register) y u 1 → y.ty ≡ p.to → HasStored d g p y u → EmitsAssigned a g names place e u
assigned_emits a b c d g names place e p x y u lm first second third same last = record {
  code = λ scope tb to vars ty it. at scope tb vars it (ap written_in (sym (first.typed scope tb vars) ∙ ty));
  grows = grows_then a d g (grows_then a b d first.grows number.grows) (grows_put d g last.instr _ last.puts);
}
  where
    number : EmitsNumber b d names (cast 0 0 p.to e) y u
    number = cast_emits b c d names 0 0 p.to e x y u lm same second third

    at : (scope : Scope) (tb : Table) → AreNames names scope tb → IsTableOf a tb (length a.regs) → p.written ≡ true →
        AddsValue a g tb (λ k vs. assigned k (integer_type (typing_of scope place)) (address_of k scope vs place) (value_of k scope vs e)) Void 0 u.mask (length a.regs) u.free (8 * (nodes_of place + nodes_of e) + 2)
    at scope tb vars it written =
        let q = first.code scope tb vars it in
        let few = first.parts in
        let v = number.code scope tb vars (table_then a b _ _ 0 tb q it) in
        subst (λ t. AddsValue a g tb (λ k vs. assigned k t (address_of k scope vs place) (value_of k scope vs e)) Void 0 u.mask (length a.regs) u.free (8 * (nodes_of place + nodes_of e) + 2)) (sym (ap integer_type (first.typed scope tb vars)))
        (emits_less a g tb _ Void 0 u.mask (length a.regs) u.free (length a.regs) u.free (8 * part_nodes place + 1 + 8 * (1 + nodes_of e) + 1) (8 * (nodes_of place + nodes_of e) + 2) (omega arith) (omega arith) (omega (arith, few))
        (emits_stored a b d g tb (λ k vs. address_of k scope vs place) (λ k vs. value_of k scope vs e) last.instr p.to p.register y.register u.mask (length a.regs) (length b.regs) u.free (8 * part_nodes place + 1) (8 * (1 + nodes_of e)) it lm
        (no_fewer a b _ _ 0 q) (is_inside b.regs p.register (Ptr p.to p.written) first.place) (subst (λ w. AddsPlace a b scope tb place p.to w p.register u.mask u.free) written q)
        (subst (λ t. AddsValue b d tb (λ k vs. value_of k scope vs (cast 0 0 p.to e)) (Int t) y.register u.mask (length b.regs) u.free (8 * (1 + nodes_of e))) same v) last.puts last.mask last.running last.operation
        (subst (λ w. HasPointer g p.register p.to w) written last.pointer) last.value))
