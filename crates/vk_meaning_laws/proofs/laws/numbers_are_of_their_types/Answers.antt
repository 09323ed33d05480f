use Rattle.vk_meaning_laws.proofs.Words.{first_words, results_ranged, words_kept}
use Rattle.vk_meaning_laws.proofs.laws.numbers_are_of_their_types.Goals as goal

pub returns-clause-results : goal.returns-clause-results
returns-clause-results c = results_ranged

pub returns-clause-first : goal.returns-clause-first
returns-clause-first c = first_words

pub returns-clause-memory : goal.returns-clause-memory
returns-clause-memory c = words_kept
