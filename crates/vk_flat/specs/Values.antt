-- Types of registers.
use Rattle.std.specs.Prelude.{Bool, nat_lt}
use Rattle.vk_kinds.specs.declared.heads.CType.{CType}
use Rattle.vk_kinds.specs.Types.{ctype_number}

-- a type that a register may have: any but `void`
abbrev pub is_value : CType → Bool
is_value t = nat_lt (ctype_number t) 24
