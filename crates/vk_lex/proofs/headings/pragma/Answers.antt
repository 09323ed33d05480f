use Rattle.std.proofs.Common.{refl}
use Rattle.vk_lex.specs.Headings.{a_pragma, a_directive}
use Rattle.vk_lex.proofs.Words.{words_then, no_pragma}
use Rattle.vk_lex.proofs.headings.pragma.Goals as goal

pub returns-in-Some-directive-clause-pragma : goal.returns-in-Some-directive-clause-pragma
returns-in-Some-directive-clause-pragma c = λ before words. a_directive (words_then words c.in-Some.ensures.word) c.in-Some-directive.ensures.directive

pub returns-in-None-directive-clause-none : goal.returns-in-None-directive-clause-none
returns-in-None-directive-clause-none c = λ before k m rest _ words. no_pragma words c.in-Some.ensures.word (c.in-None-directive.ensures.none refl) k m rest

pub returns-in-None-clause-pragma : goal.returns-in-None-clause-pragma
returns-in-None-clause-pragma c = λ before words. a_pragma words (c.in-None.ensures.none refl)
