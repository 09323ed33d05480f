-- By recursion on the tree. The type does not depend on the program, so any program serves.
use Rattle.std.proofs.Common.{zero, []}
use Rattle.vk_kinds.specs.declared.heads.CType.TheVariants.{Void}
use Rattle.vk_meaning.specs.Data.{given, nothing}
use Rattle.vk_meaning.specs.Expressions.{Context}
use Rattle.vk_meaning_constants.proofs.Constants.{numbers_agree, types_agree, values_agree}
use Rattle.vk_meaning_constants.proofs.laws.constants_have_their_values.Goals as goal

abbrev no_program : Context
no_program = record { arrays = []; array = λ id. zero; call = λ id ds. given nothing; turns = zero; text = []; result = Void }

pub returns-clause-ty : goal.returns-clause-ty
returns-clause-ty c = λ scope. types_agree no_program scope (λ n. nothing)

pub returns-clause-value : goal.returns-clause-value
returns-clause-value c = values_agree

pub returns-clause-number : goal.returns-clause-number
returns-clause-number c = numbers_agree
