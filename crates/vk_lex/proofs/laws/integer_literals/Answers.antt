use Rattle.vk_lex.proofs.Integers.{literal_written, large_written}
use Rattle.vk_lex.proofs.laws.integer_literals.Goals as goal

pub returns-clause-typed : goal.returns-clause-typed
returns-clause-typed c = λ text t n d e. literal_written text d t n e

pub returns-clause-large : goal.returns-clause-large
returns-clause-large c = λ text d e. let l = large_written text d e in (l.0, l.1.0, l.1.1, l.1.2, l.1.3)
