use Rattle.std.proofs.Common.{◌≡◌, drop}
use Rattle.vk_lex.specs.Literals.{first_type}
use Rattle.vk_lex.proofs.literals.first_type.Given as goal

abbrev pub invariant-loop-t : goal.invariant-loop-t
invariant-loop-t l = first_type (drop l.t-index l.types) l.value ≡ first_type l.types l.value
