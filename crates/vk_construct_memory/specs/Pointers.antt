-- Code of an expression that gives a pointer.
use Rattle.std.specs.Prelude.{◌≡◌, ℕ, ◌*◌, ◌≤◌, Bool, length, Some, slice_get}
use Rattle.vk_types.specs.declared.types.Ty.{Ty}
use Rattle.vk_kinds.specs.declared.heads.CType.TheVariants.{Ptr}
use Rattle.vk_ast.specs.Tree.{Tree, nodes_of}
use Rattle.vk_rules_book.specs.Scopes.{Scope}
use Rattle.vk_meaning.specs.Expressions.{value_of}
use Rattle.vk_construct.specs.Computes.{Table}
use Rattle.vk_construct.specs.Adds.{AddsValue, Written}

-- a register of a pointer type
abbrev pub HasPointer : Written → (register : ℕ) → Ty → (written : Bool) → Type 0
HasPointer w r to written = slice_get w.regs r ≡ Some (Ptr to written)

-- a register of this pointer type, behind the parameters and not below k
pub record IsPointerTarget (w : Written) (to : Ty) (written : Bool) (d k : ℕ) : Type 0 where
  pub typed : HasPointer w d to written
  pub free : w.params ≤ d
  pub above : k ≤ d

-- under mask m the pointer comes into register r
abbrev pub AddsPointerTree : (old new : Written) → Scope → Table → Tree → Ty → (written : Bool) → (r m f : ℕ) → Type 0
AddsPointerTree old new scope tb e to written r m f = AddsValue old new tb (λ c vs. value_of c scope vs e) (Ptr to written) r m (length old.regs) f (8 * nodes_of e)
