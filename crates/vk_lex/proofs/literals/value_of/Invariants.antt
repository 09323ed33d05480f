use Rattle.std.proofs.Common.{◌≡◌, ◌≤◌, ◌^◌, min, drop}
use Rattle.vk_lex.specs.Literals.{value_after}
use Rattle.vk_lex.proofs.literals.value_of.Given as goal

abbrev pub invariant-loop-digit : goal.invariant-loop-digit
invariant-loop-digit l = (min (value_after l.value l.base (drop l.digit-index l.digits)) (2 ^ 64) ≡ min (value_after 0 l.base l.digits) (2 ^ 64)) × (l.value ≤ 2 ^ 64)
