use Rattle.std.proofs.Common.{◌≡◌, drop}
use Rattle.vk_parse_words.specs.Words.{with_text}
use Rattle.vk_parse_directives.specs.Words.{word_text}
use Rattle.vk_parse_directives.proofs.words.first_word.Given as goal

abbrev pub invariant-loop-word : goal.invariant-loop-word
invariant-loop-word l = with_text word_text (drop l.word-index l.words) l.text ≡ with_text word_text l.words l.text
