-- Types of registers, told by their numbers.
use Rattle.std.specs.Prelude.{ℕ, ◌==◌, Bool}
use Rattle.vk_kinds.specs.declared.heads.CType.{CType}
use Rattle.vk_kinds.specs.Types.{ctype_number}
use Rattle.vk_code.specs.declared.code.SlotArg.{SlotArg}
use Rattle.vk_code.specs.Listing.{Routine, reg_type}

abbrev pub has_reg_type : Routine → ℕ → CType → Bool
has_reg_type c r t = reg_type c.regs r == ctype_number t

abbrev pub has_arg_type : Routine → SlotArg → CType → Bool
has_arg_type c a t = has_reg_type c a.reg t
