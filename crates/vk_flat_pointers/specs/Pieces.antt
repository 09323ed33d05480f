-- What comes behind where a pointer is moved, loaded from or stored through.
use Rattle.std.specs.Prelude.{◌≡◌, ℕ, [], ◌∷◌, ◌++◌, ◌<◌, length, Some, ℤ, Ok}
use Rattle.vk_types.specs.declared.types.Ty.TheVariants.{I64}
use Rattle.vk_kinds.specs.declared.heads.CType.TheVariants.{Ptr}
use Rattle.vk_code.specs.declared.instruction.Instr.{Instr}
use Rattle.vk_code.specs.declared.instruction.Operation.TheVariants.{Store}
use Rattle.vk_code.specs.Instruction.{operation_of}
use Rattle.vk_construct.specs.Adds.{HasType, Puts, Written}
use Rattle.vk_construct.specs.Applies.{one}
use Rattle.vk_construct_memory.specs.Pointers.{HasPointer}
use Rattle.vk_construct_places.specs.Places.{IsTurned, Loads, Moves}
use Rattle.vk_flat.specs.declared.emitter.Place.{Place}
use Rattle.vk_flat.specs.declared.emitter.Under.{Under}
use Rattle.vk_flat.specs.Emitters.{Brings}
use Rattle.vk_flat_pointers.specs.declared.homes.Pointer.{Pointer}

-- with one register more, for a pointer of the same kind
abbrev pub with_pointer : Written → Pointer → Written
with_pointer w p = record w { regs = w.regs ++ Ptr p.to p.written ∷ [] }

-- the register has the type that it is said to have
abbrev pub IsPointerPlace : Written → Pointer → Type 0
IsPointerPlace w p = HasPointer w p.register p.to p.written

-- a pointer of the same kind, in another register
abbrev pub in_register : Pointer → ℕ → Pointer
in_register p r = record { register = r; to = p.to; written = p.written; moves = p.moves }

-- the pointer, moved by a number, comes into a new register
abbrev pub HasMoved : (old new : Written) → (base : Pointer) → (by : Place) → (d : Pointer) → Under → Type 0
HasMoved old new base by d u = Moves old new base.to base.written by.ty base.register by.register d.register u.mask (length old.regs)

-- the element that it points to comes into a new register
abbrev pub HasLoaded : (old new : Written) → Pointer → (d : Place) → Under → Type 0
HasLoaded old new p d u = Loads old new p.to p.written p.register d.register u.mask (length old.regs)

-- one instruction has come behind: the number, which has the type of the elements, is stored where the pointer points
pub record HasStored (old new : Written) (p : Pointer) (a : Place) (u : Under) : Type 0 where
  pub instr : Instr
  pub puts : Puts old new instr []
  pub mask : instr.m ≡ u.mask
  pub running : u.mask < new.masks
  pub operation : operation_of instr ≡ Some (Store p.register a.register)
  pub pointer : HasPointer new p.register p.to p.written
  pub value : HasType new a.register p.to

-- a number that is as good as the opposite of the one in `n` has come
pub record HasTurned (old new : Written) (n d : Place) (u : Under) : Type 0 where
  pub number : ℤ → ℤ
  pub turned : IsTurned n.ty number
  pub code : Brings old new (one (λ z. Ok (number z)) n.ty n.register) d u 7
  pub ty : d.ty ≡ I64
