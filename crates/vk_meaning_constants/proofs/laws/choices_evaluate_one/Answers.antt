-- The value is what was chosen, converted to the expression's type.
use Rattle.vk_rules_book.specs.Typings.{typing_of}
use Rattle.vk_meaning.specs.Expressions.{chosen, value_of}
use Rattle.vk_meaning_constants.proofs.Choices.{choice_is, takes_first, takes_second}
use Rattle.vk_meaning_constants.proofs.laws.choices_evaluate_one.Goals as goal

pub returns-clause-first : goal.returns-clause-first
returns-clause-first c = λ p scope vs l k a x y t n z w w' w'' h m on v r.
    choice_is (typing_of scope a) (typing_of scope x) (typing_of scope y) t z (chosen (value_of p scope vs a) (value_of p scope vs x) (value_of p scope vs y)) w w'' h r
    (takes_first (value_of p scope vs a) (value_of p scope vs x) (value_of p scope vs y) n w w' _ m on v)

pub returns-clause-second : goal.returns-clause-second
returns-clause-second c = λ p scope vs l k a x y t z w w' w'' h m v r.
    choice_is (typing_of scope a) (typing_of scope x) (typing_of scope y) t z (chosen (value_of p scope vs a) (value_of p scope vs x) (value_of p scope vs y)) w w'' h r
    (takes_second (value_of p scope vs a) (value_of p scope vs x) (value_of p scope vs y) w w' _ m v)
