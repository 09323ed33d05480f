use Rattle.std.proofs.Common.{◌≡◌, ℕ, ◌<◌, false, take}
use Rattle.vk_parse_words.specs.Faults.{ends_in_words, is_fault}
use Rattle.vk_parse_words.proofs.faults.first_word_fault.Given as goal

abbrev pub invariant-loop-at : goal.invariant-loop-at
invariant-loop-at l = (l.in_words ≡ ends_in_words (take l.at l.syms)) × ((k : ℕ) → k < l.at → is_fault l.syms k ≡ false)
