-- Code of places in memory, and of pointers that are moved.
use Rattle.std.specs.Prelude.{◌≡◌, ℕ, ◌+◌, ◌*◌, ◌<◌, ◌≤◌, Bool, true, List, length, Some, ℤ, neg_ℤ}
use Rattle.vk_types.specs.declared.types.Ty.{Ty}
use Rattle.vk_types.specs.Numbers.{IsInRange}
use Rattle.vk_kinds.specs.declared.heads.CType.{CType}
use Rattle.vk_kinds.specs.declared.heads.CType.TheVariants.{Ptr}
use Rattle.vk_ast.specs.Tree.{Tree, deref, index, nodes_of}
use Rattle.vk_rules_book.specs.Scopes.{Scope}
use Rattle.vk_meaning.specs.World.{World}
use Rattle.vk_meaning.specs.Data.{fits_offset, moved, pointer}
use Rattle.vk_meaning.specs.Expressions.{address_of}
use Rattle.vk_code.specs.declared.instruction.Instr.{Instr}
use Rattle.vk_code.specs.declared.instruction.Operation.TheVariants.{Load, PtrAdd}
use Rattle.vk_code.specs.Instruction.{operation_of}
use Rattle.vk_lane.specs.Places.{IsFine}
use Rattle.vk_lane.specs.Entries.{LaneCall, place_of}
use Rattle.vk_construct.specs.Computes.{Table}
use Rattle.vk_construct.specs.Adds.{AddsValue, HasType, HasWritten, Puts, Written}
use Rattle.vk_construct_memory.specs.Pointers.{HasPointer, IsPointerTarget}

-- ---- places

-- the nodes of a place's parts
abbrev pub part_nodes : Tree → ℕ
part_nodes (index l k base subscript) = nodes_of base + nodes_of subscript
part_nodes (deref l k operand) = nodes_of operand
part_nodes e = 0

-- Under mask m a pointer to the place comes into register r; there are at most eight instructions a node of its parts, and one.
abbrev pub AddsPlace : (old new : Written) → Scope → Table → Tree → Ty → (written : Bool) → (r m f : ℕ) → Type 0
AddsPlace old new scope tb e to written r m f =
    AddsValue old new tb (λ c vs. address_of c scope vs e) (Ptr to written) r m (length old.regs) f (8 * part_nodes e + 1)

-- ---- pointers that are moved

-- What a lane may do with a pointer it may do with one to any other element of the array, wherever the code runs.
abbrev pub MayMove : Written → Ty → (written : Bool) → Type 0
MayMove w to written = (q : LaneCall) → HasWritten q w → (j : ℕ) → (place_of q).active j ≡ true → (array : ℕ) (o o' : ℤ) →
    IsFine (place_of q) j (Ptr to written) (pointer array o) → IsFine (place_of q) j (Ptr to written) (pointer array o')

-- the number is as good as the opposite of another one of this type: pointers moved by either are the same, or both stop
abbrev pub IsTurned : Ty → (ℤ → ℤ) → Type 0
IsTurned t g = (z : ℤ) → IsInRange t z → (array : ℕ) (o : ℤ) → fits_offset o ≡ true → (w : World) →
    moved (pointer array o) (g z) w ≡ moved (pointer array o) (neg_ℤ z) w

-- one instruction has come behind: the pointer in register r, moved by the number in register n, comes into register d
pub record Moves (old new : Written) (to : Ty) (written : Bool) (s : Ty) (r n d m k : ℕ) : Type 0 where
  pub instr : Instr
  pub types : List CType
  pub puts : Puts old new instr types
  pub mask : instr.m ≡ m
  pub running : m < new.masks
  pub operation : operation_of instr ≡ Some (PtrAdd d r n)
  pub target : IsPointerTarget new to written d k
  pub base : HasPointer new r to written
  pub count : HasType new n s

-- one instruction has come behind: the element that the pointer in register r points to comes into register d
pub record Loads (old new : Written) (to : Ty) (written : Bool) (r d m k : ℕ) : Type 0 where
  pub instr : Instr
  pub types : List CType
  pub puts : Puts old new instr types
  pub mask : instr.m ≡ m
  pub running : m < new.masks
  pub operation : operation_of instr ≡ Some (Load d r)
  pub typed : HasType new d to
  pub free : new.params ≤ d
  pub above : k ≤ d
  pub base : HasPointer new r to written
