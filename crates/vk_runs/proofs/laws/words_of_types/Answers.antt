use Rattle.vk_runs.proofs.Typing.{words_given, words_kept}
use Rattle.vk_runs.proofs.laws.words_of_types.Goals as goal

pub returns-clause-registers : goal.returns-clause-registers
returns-clause-registers c = words_kept

pub returns-clause-results : goal.returns-clause-results
returns-clause-results c = words_given
