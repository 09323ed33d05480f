use Rattle.vk_construct_calls.proofs.Appending.{argument_converted, arguments_more, arguments_none}
use Rattle.vk_construct_calls.proofs.laws.arguments_are_converted.Goals as goal

pub returns-clause-converted : goal.returns-clause-converted
returns-clause-converted c = argument_converted

pub returns-clause-none : goal.returns-clause-none
returns-clause-none c = arguments_none

pub returns-clause-more : goal.returns-clause-more
returns-clause-more c = arguments_more
