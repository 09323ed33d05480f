use Rattle.std.proofs.Common.{◌≡◌, drop}
use Rattle.vk_parse_words.specs.Words.{with_text, type_word_text}
use Rattle.vk_parse_words.proofs.words.first_type_word.Given as goal

abbrev pub invariant-loop-word : goal.invariant-loop-word
invariant-loop-word l = with_text type_word_text (drop l.word-index l.words) l.text ≡ with_text type_word_text l.words l.text
