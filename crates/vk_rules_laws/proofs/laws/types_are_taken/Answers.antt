use Rattle.vk_rules_book.specs.Typings.{is_typed, takes_typed, typing_of}
use Rattle.vk_rules_book.specs.Visits.{expression}
use Rattle.vk_rules_laws.proofs.Visited.{nothing_at, taken, typed_quiet}
use Rattle.vk_rules_laws.proofs.laws.types_are_taken.Goals as goal

pub returns : goal.returns
returns c = λ unit quiet around scope r e is_in typed.
    taken (is_typed (typing_of scope e)) (takes_typed r (typing_of scope e)) (typed_quiet unit.texts around scope r e (nothing_at unit quiet (expression around scope r e) is_in)) typed
