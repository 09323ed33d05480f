-- 0 is a number of every type.
use Rattle.std.proofs.Common.{pos, rules}
use Rattle.vk_types.specs.declared.types.Ty.{Ty}
use Rattle.vk_types.specs.declared.types.Ty.TheVariants.{I8, I16, I32, I64, U8, U16, U32, U64}
use Rattle.vk_types.specs.Numbers.{IsInRange}

pub zero_in_range : (t : Ty) → IsInRange t (pos 0)
zero_in_range I8 = search rules
zero_in_range I16 = search rules
zero_in_range I32 = search rules
zero_in_range I64 = search rules
zero_in_range U8 = search rules
zero_in_range U16 = search rules
zero_in_range U32 = search rules
zero_in_range U64 = search rules
