-- Whether a parameter is fit for a type.
use Rattle.std.specs.Prelude.{Bool, List, map}
use Rattle.vk_kinds.specs.declared.heads.CType.{CType}
use Rattle.vk_kinds.specs.declared.kinds.Param.{Param}
use Rattle.vk_kinds.specs.Types.{ctype_number}
use Rattle.vk_object.specs.Parameters.{is_param_at}

-- a parameter is fit for one of the types
abbrev pub is_fit : List CType → CType → Param → Bool
is_fit types t p = is_param_at (map ctype_number types) (ctype_number t) p
