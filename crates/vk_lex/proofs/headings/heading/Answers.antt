use Rattle.std.proofs.Common.{refl}
use Rattle.vk_lex.proofs.Words.{no_heading}
use Rattle.vk_lex.proofs.headings.heading.Goals as goal

pub returns-in-None-past_word-clause-none : goal.returns-in-None-past_word-clause-none
returns-in-None-past_word-clause-none c = λ _. no_heading (c.in-None.ensures.none refl) (c.in-None-past_word.ensures.none refl)
