-- Code of the nodes of an expression that give or use pointers.
use Rattle.std.proofs.Common.{arith, sym, ◌≡◌, ℕ, ◌+◌, ◌*◌, ◌<◌, Bool, false, List, length, Some, ap, ◌∙◌}
use Rattle.vk_types.specs.declared.types.Ty.{Ty}
use Rattle.vk_kinds.specs.declared.heads.CType.{CType}
use Rattle.vk_kinds.specs.declared.heads.CType.TheVariants.{Int, Ptr}
use Rattle.vk_ast.specs.declared.names.NameId.{NameId}
use Rattle.vk_ast.specs.declared.expressions.BinOp.TheVariants.{Add}
use Rattle.vk_ast.specs.Tree.{Tree, binary, deref, index, name, nodes_of}
use Rattle.vk_rules_book.specs.declared.typings.Typing.TheVariants.{Pointer}
use Rattle.vk_rules_book.specs.Scopes.{Scope}
use Rattle.vk_rules_book.specs.Typings.{typing_of}
use Rattle.vk_meaning.specs.Data.{and_then, loaded}
use Rattle.vk_meaning.specs.Points.{Variable, variable_named}
use Rattle.vk_meaning.specs.Expressions.{name_value, operator_value, pointed_type, subscripted, value_of}
use Rattle.vk_code.specs.declared.instruction.Instr.{Instr}
use Rattle.vk_code.specs.declared.instruction.Operation.TheVariants.{Load, PtrAdd}
use Rattle.vk_code.specs.Instruction.{operation_of}
use Rattle.vk_construct.specs.Computes.{Table}
use Rattle.vk_construct.specs.Adds.{HasType, IsTableOf, Puts, Written}
use Rattle.vk_construct.specs.Trees.{AddsTree, AreVariables}
use Rattle.vk_construct.proofs.Adding.{no_fewer, usable_read}
use Rattle.vk_construct.proofs.Evaluating.{emits_less, emits_same}
use Rattle.vk_construct.proofs.Instructions.{IsTarget}
use Rattle.vk_construct_memory.specs.Pointers.{AddsPointerTree, HasPointer, IsPointerTarget}
use Rattle.vk_construct_memory.proofs.Loading.{emits_loaded, emits_moved, emits_pointer}

-- a parameter that is a pointer to elements that are only read
pub pointer_name : (a : Written) (scope : Scope) (tb : Table) (l p : ℕ) (id : NameId) (v : Variable) (to : Ty) (m f : ℕ) → IsTableOf a tb (length a.regs) → AreVariables scope tb → variable_named scope id ≡ Some v → v.ctype ≡ Ptr to false → tb.reg v.number < a.params →
    AddsPointerTree a a scope tb (name l p id) to false (tb.reg v.number) m f
pointer_name a scope tb l p id v to m f it vars is ty lp =
    emits_less a a tb _ (Ptr to false) (tb.reg v.number) m (length a.regs) f (length a.regs) f 0 8 (omega arith) (omega arith) (omega arith)
    (emits_same a a tb _ _ (Ptr to false) (tb.reg v.number) m (length a.regs) f 0 (λ c vs w. ap (λ o. name_value c scope vs o id w) (sym is))
    (emits_pointer a tb v.number to false m (length a.regs) f it (vars.there id v is) type_is (λ q hw. usable_read q a (tb.reg v.number) to hw lp (it.typed v.number (vars.there id v is) ∙ ap Some type_is))))
  where
    type_is : tb.ty v.number ≡ Ptr to false
    type_is = vars.typed id v is ∙ ty

-- `P + E`
pub pointer_sum : (a b c d : Written) (scope : Scope) (tb : Table) (l p : ℕ) (base e : Tree) (i : Instr) (types : List CType) (to s : Ty) (r r' rd m f : ℕ) → IsTableOf a tb (length a.regs) → m < f → typing_of scope base ≡ Pointer to false → r < length b.regs →
    AddsPointerTree a b scope tb base to false r m f → AddsTree b c scope tb e s r' m f → Puts c d i types → i.m ≡ m → m < d.masks → operation_of i ≡ Some (PtrAdd rd r r') → IsPointerTarget d to false rd (length a.regs) → HasPointer d r to false → HasType d r' s →
    AddsPointerTree a d scope tb (binary l p Add base e) to false rd m f
pointer_sum a b c d scope tb l p base e i types to s r r' rd m f it lm ty lr x y z em lmd is target tr tr' =
    emits_less a d tb _ (Ptr to false) rd m (length a.regs) f (length a.regs) f (8 * nodes_of base + 8 * nodes_of e + 1) (8 * (1 + nodes_of base + nodes_of e)) (omega arith) (omega arith) (omega arith)
    (emits_same a d tb _ _ (Ptr to false) rd m (length a.regs) f (8 * nodes_of base + 8 * nodes_of e + 1) (λ k vs w. ap (λ t. operator_value Add t (typing_of scope e) (value_of k scope vs base) (value_of k scope vs e) w) (sym ty))
    (emits_moved a b c d tb _ _ i types to s r r' rd m (length a.regs) (length b.regs) f (8 * nodes_of base) (8 * nodes_of e) it lm (no_fewer a b _ _ 0 x) lr x y z em lmd is target tr tr'))

-- `P[E]`
pub tree_index : (a b c d g : Written) (scope : Scope) (tb : Table) (l p : ℕ) (base e : Tree) (i i' : Instr) (types types' : List CType) (to s : Ty) (r r' rd re m f : ℕ) → IsTableOf a tb (length a.regs) → m < f → typing_of scope base ≡ Pointer to false → r < length b.regs →
    AddsPointerTree a b scope tb base to false r m f → AddsTree b c scope tb e s r' m f → Puts c d i types → i.m ≡ m → m < d.masks → operation_of i ≡ Some (PtrAdd rd r r') → IsPointerTarget d to false rd (length a.regs) → HasPointer d r to false → HasType d r' s →
    Puts d g i' types' → i'.m ≡ m → m < g.masks → operation_of i' ≡ Some (Load re rd) → IsTarget g to re (length a.regs) → HasPointer g rd to false → AddsTree a g scope tb (index l p base e) to re m f
tree_index a b c d g scope tb l p base e i i' types types' to s r r' rd re m f it lm ty lr x y z em lmd is target tr tr' z' em' lmg is' target' trg =
    emits_less a g tb _ (Int to) re m (length a.regs) f (length a.regs) f (8 * nodes_of base + 8 * nodes_of e + 1 + 1) (8 * (1 + nodes_of base + nodes_of e)) (omega arith) (omega arith) (omega arith)
    (emits_same a g tb _ _ (Int to) re m (length a.regs) f (8 * nodes_of base + 8 * nodes_of e + 1 + 1) (λ k vs w. ap (λ t. and_then (subscripted (value_of k scope vs base) (value_of k scope vs e)) (loaded k.arrays (pointed_type t)) w) (sym ty))
    (emits_loaded a d g tb _ i' types' to false rd re m (length a.regs) f (8 * nodes_of base + 8 * nodes_of e + 1) it lm
    (emits_moved a b c d tb _ _ i types to s r r' rd m (length a.regs) (length b.regs) f (8 * nodes_of base) (8 * nodes_of e) it lm (no_fewer a b _ _ 0 x) lr x y z em lmd is target tr tr') z' em' lmg is' target' trg))

-- `*P`
pub tree_deref : (a b c : Written) (scope : Scope) (tb : Table) (l p : ℕ) (operand : Tree) (i : Instr) (types : List CType) (to : Ty) (written : Bool) (r d m f : ℕ) → IsTableOf a tb (length a.regs) → m < f → typing_of scope operand ≡ Pointer to written →
    AddsPointerTree a b scope tb operand to written r m f → Puts b c i types → i.m ≡ m → m < c.masks → operation_of i ≡ Some (Load d r) → IsTarget c to d (length a.regs) → HasPointer c r to written → AddsTree a c scope tb (deref l p operand) to d m f
tree_deref a b c scope tb l p operand i types to written r d m f it lm ty x z em lmc is target tr =
    emits_less a c tb _ (Int to) d m (length a.regs) f (length a.regs) f (8 * nodes_of operand + 1) (8 * (1 + nodes_of operand)) (omega arith) (omega arith) (omega arith)
    (emits_same a c tb _ _ (Int to) d m (length a.regs) f (8 * nodes_of operand + 1) (λ k vs w. ap (λ t. and_then (value_of k scope vs operand) (loaded k.arrays (pointed_type t)) w) (sym ty))
    (emits_loaded a b c tb _ i types to written r d m (length a.regs) f (8 * nodes_of operand) it lm x z em lmc is target tr))
