-- What wraps is in range.
use Rattle.std.proofs.Common.{◌≡◌, ℤ, Result, Ok, Err, subst}
use Rattle.vk_types.specs.declared.types.Ty.{Ty}
use Rattle.vk_types.specs.declared.types.Stop.{Stop}
use Rattle.vk_types.specs.Numbers.{IsInRange, wrap_number}
use Rattle.vk_types.specs.Operators.{exact, exact_unary, result_type, wrapped}
use Rattle.vk_types.proofs.WrapNumber.{differs}
use Rattle.vk_types.proofs.laws.values.Goals as goal

in_range : (t : Ty) (z : ℤ) → IsInRange t (wrap_number t z)
in_range t z = (differs t z).in_range

value_in_range : (t : Ty) (r : Result ℤ Stop) (z : ℤ) → wrapped t r ≡ Ok z → IsInRange t z
value_in_range t (Ok x) z e = let same : wrap_number t x ≡ z = cc in subst (IsInRange t) same (in_range t x)
value_in_range t (Err stop) z e = cc

pub returns-clause-unary : goal.returns-clause-unary
returns-clause-unary c = λ op t x. in_range t (exact_unary op t x)

pub returns-clause-binary : goal.returns-clause-binary
returns-clause-binary c = λ op t x y z e. value_in_range (result_type op t) (exact op t x y) z e
