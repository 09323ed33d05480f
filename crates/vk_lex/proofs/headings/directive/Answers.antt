use Rattle.std.proofs.Common.{refl}
use Rattle.vk_lex.specs.Headings.{a_simd, a_simdfn}
use Rattle.vk_lex.proofs.Words.{words_then, no_directive, no_declare, bare_declare}
use Rattle.vk_lex.proofs.headings.directive.Goals as goal

pub returns-in-Some-clause-directive : goal.returns-in-Some-clause-directive
returns-in-Some-clause-directive c = a_simd c.in-Some.ensures.word

pub returns-in-Some-past_word-2-clause-directive : goal.returns-in-Some-past_word-2-clause-directive
returns-in-Some-past_word-2-clause-directive c = a_simdfn (words_then c.in-Some-past_word.ensures.word c.in-Some-past_word-2.ensures.word)

pub returns-in-None-past_word-2-clause-none : goal.returns-in-None-past_word-2-clause-none
returns-in-None-past_word-2-clause-none c = λ _.
    no_directive (c.in-None.ensures.none refl) (bare_declare c.in-Some-past_word.ensures.word (c.in-None-past_word-2.ensures.none refl))

pub returns-in-None-past_word-clause-none : goal.returns-in-None-past_word-clause-none
returns-in-None-past_word-clause-none c = λ _. no_directive (c.in-None.ensures.none refl) (no_declare (c.in-None-past_word.ensures.none refl))
