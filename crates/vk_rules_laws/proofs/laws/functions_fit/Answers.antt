use Rattle.vk_ast.specs.Units.{function}
use Rattle.vk_rules_book.specs.Directives.{has_signature}
use Rattle.vk_rules_laws.proofs.Visited.{each_true, sound_of}
use Rattle.vk_rules_laws.proofs.laws.functions_fit.Goals as goal

pub returns-clause-parameters : goal.returns-clause-parameters
returns-clause-parameters c = λ unit quiet f is_in. (sound_of unit quiet (function f) is_in).1

pub returns-clause-directives : goal.returns-clause-directives
returns-clause-directives c = λ unit quiet f is_in d listed. each_true (has_signature f) f.directives d (sound_of unit quiet (function f) is_in).0 listed
