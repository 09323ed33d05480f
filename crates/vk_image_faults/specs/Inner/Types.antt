-- Types of registers, told by their numbers.
use Rattle.std.specs.Prelude.{ℕ, ◌==◌, Bool, List}
use Rattle.vk_kinds.specs.declared.heads.CType.{CType}
use Rattle.vk_kinds.specs.Types.{ctype_number}
use Rattle.vk_code.specs.Listing.{reg_type}
use Rattle.vk_code_format.specs.declared.rows.ArgRow.{ArgRow}

abbrev pub has_reg_type : List CType → ℕ → CType → Bool
has_reg_type regs r t = reg_type regs r == ctype_number t

abbrev pub has_arg_type : List CType → ArgRow → CType → Bool
has_arg_type regs a t = has_reg_type regs a.reg t
