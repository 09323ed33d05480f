use Rattle.std.proofs.Common.{◌≡◌, drop}
use Rattle.vk_direct.specs.Taking.{are_words_of}
use Rattle.vk_direct.proofs.taking.are_words_of.Given as goal

-- what is still to be judged
abbrev pub invariant-loop-ty : goal.invariant-loop-ty
invariant-loop-ty l = are_words_of l.lanes l.types l.words ≡ are_words_of l.lanes (drop l.ty-index l.types) l.rest
