use Rattle.std.proofs.Common.{◌≡◌, drop}
use Rattle.vk_parse_words.specs.Words.{with_text, keyword_text}
use Rattle.vk_parse_words.proofs.words.first_keyword.Given as goal

abbrev pub invariant-loop-keyword : goal.invariant-loop-keyword
invariant-loop-keyword l = with_text keyword_text (drop l.keyword-index l.keywords) l.text ≡ with_text keyword_text l.keywords l.text
