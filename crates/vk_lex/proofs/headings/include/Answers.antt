use Rattle.std.proofs.Common.{refl}
use Rattle.vk_lex.specs.Headings.{an_include}
use Rattle.vk_lex.proofs.Words.{no_include}
use Rattle.vk_lex.proofs.headings.include.Goals as goal

pub returns-in-Some-clause-include : goal.returns-in-Some-clause-include
returns-in-Some-clause-include c = λ before words. an_include words c.in-Some.ensures.file

pub returns-in-None-clause-none : goal.returns-in-None-clause-none
returns-in-None-clause-none c = λ before k m rest _ words. no_include words (c.in-None.ensures.none refl) k m rest
