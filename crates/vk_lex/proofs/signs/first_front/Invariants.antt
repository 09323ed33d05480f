use Rattle.std.proofs.Common.{◌≡◌, drop}
use Rattle.vk_lex.specs.Inner.Signs.{first_front}
use Rattle.vk_lex.proofs.signs.first_front.Given as goal

abbrev pub invariant-loop-mark : goal.invariant-loop-mark
invariant-loop-mark l = first_front (drop l.mark-index l.marks) l.text ≡ first_front l.marks l.text
