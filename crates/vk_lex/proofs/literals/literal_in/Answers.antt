use Rattle.std.proofs.Common.{rules}
use Rattle.vk_lex.proofs.Values.{some_type, no_type}
use Rattle.vk_lex.proofs.literals.literal_in.Goals as goal

pub returns-in-Some-first_type : goal.returns-in-Some-first_type
returns-in-Some-first_type c =
    some_type c.args.base c.args.body.now c.in-Some.suffix c.value_of-value.result (search rules) (search rules) c.in-Some-first_type.t c.in-Some-first_type.ensures.below (search rules)

pub returns-in-None : goal.returns-in-None
returns-in-None c = no_type c.args.base c.args.body.now c.in-Some.suffix c.value_of-value.result (search rules) (search rules) (search rules)
