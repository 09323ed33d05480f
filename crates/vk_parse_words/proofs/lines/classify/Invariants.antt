use Rattle.vk_parse_words.specs.Inner.Syms.{rows}
use Rattle.vk_parse_words.proofs.Split.{Splitting}
use Rattle.vk_parse_words.proofs.lines.classify.Given as goal

abbrev pub invariant-loop-at : goal.invariant-loop-at
invariant-loop-at l = Splitting l.tokens.names l.tokens.list.items l.at l.syms.outside.items (rows l.syms.lines.items) l.ended
