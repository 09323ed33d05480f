-- Division is std's.
use Rattle.std.proofs.Common.{◌≡◌, true, Ok, refl, neg_ℤ, pos}
use Rattle.std.proofs.lemmas.Bool.{false≢true}
use Rattle.std.proofs.lemmas.Int.{quot-rem}
use Rattle.std.specs.Int.{int_wrap}
use Rattle.vk_types.specs.declared.types.Op2.TheVariants.{Div}
use Rattle.vk_types.specs.declared.types.Ty.{Ty}
use Rattle.vk_types.specs.declared.types.Ty.TheVariants.{I8, I16, I32, I64, U8, U16, U32, U64}
use Rattle.vk_types.specs.Conversions.{is_signed, least_of}
use Rattle.vk_types.specs.Operators.{op2_number}
use Rattle.vk_types.proofs.laws.division.Goals as goal

least_wraps : (t : Ty) → is_signed t ≡ true → op2_number Div t (least_of t) (neg_ℤ (pos 1)) ≡ Ok (least_of t)
unfolding int_wrap
least_wraps I8 h = refl
least_wraps I16 h = refl
least_wraps I32 h = refl
least_wraps I64 h = refl
least_wraps U8 h = absurd (false≢true h)
least_wraps U16 h = absurd (false≢true h)
least_wraps U32 h = absurd (false≢true h)
least_wraps U64 h = absurd (false≢true h)

pub returns-clause-sum : goal.returns-clause-sum
returns-clause-sum c = quot-rem

pub returns-clause-least : goal.returns-clause-least
returns-clause-least c = least_wraps
