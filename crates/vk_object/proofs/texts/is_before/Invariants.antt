use Rattle.std.proofs.Common.{◌≡◌, drop}
use Rattle.vk_object.specs.Texts.{is_before}
use Rattle.vk_object.proofs.texts.is_before.Given as goal

-- the texts begin alike
abbrev pub invariant-loop-at : goal.invariant-loop-at
invariant-loop-at l = is_before l.a l.b ≡ is_before (drop l.at l.a) (drop l.at l.b)
