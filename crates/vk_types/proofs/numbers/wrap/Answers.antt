-- The signed arms: the pattern's number is what `int_wrap` leaves.
use Rattle.std.proofs.Common.{arith}
use Rattle.std.proofs.lemmas.Int.{to_z-of_z}
use Rattle.std.specs.Int.{int_wrap}
use Rattle.vk_types.proofs.numbers.wrap.Goals as goal

pub returns-in-I8-clause-number : goal.returns-in-I8-clause-number
unfolding int_wrap
returns-in-I8-clause-number c = grind (arith, to_z-of_z)

pub returns-in-I16-clause-number : goal.returns-in-I16-clause-number
unfolding int_wrap
returns-in-I16-clause-number c = grind (arith, to_z-of_z)

pub returns-in-I32-clause-number : goal.returns-in-I32-clause-number
unfolding int_wrap
returns-in-I32-clause-number c = grind (arith, to_z-of_z)

pub returns-in-I64-clause-number : goal.returns-in-I64-clause-number
unfolding int_wrap
returns-in-I64-clause-number c = grind (arith, to_z-of_z)
