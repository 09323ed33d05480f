use Rattle.std.proofs.Common.{◌≡◌, Some, refl, sym, subst, arith}
use Rattle.std.proofs.lemmas.Option.{slice_get_past}
use Rattle.vk_types.specs.declared.types.Ty.{Ty}
use Rattle.vk_types.specs.declared.types.Ty.TheVariants.{I8, I16, I32, I64, U8, U16, U32, U64}
use Rattle.vk_types.specs.Formats.{type_number}
use Rattle.vk_code.specs.Instruction.{type_numbered, types}
use Rattle.vk_code.proofs.instruction.read_type.Goals as goal

own_number : (t : Ty) → type_numbered (type_number t) ≡ Some t
own_number I8 = refl
own_number I16 = refl
own_number I32 = refl
own_number I64 = refl
own_number U8 = refl
own_number U16 = refl
own_number U32 = refl
own_number U64 = refl

pub returns-in-Ok : goal.returns-in-Ok
returns-in-Ok c = sym (subst (λ n. type_numbered n ≡ Some c.in-Ok.ty) c.in-Ok.ensures (own_number c.in-Ok.ty))

pub returns-in-Err : goal.returns-in-Err
returns-in-Err c = sym (slice_get_past types c.args.number (omega (arith, c.in-Err.ensures.1)))
