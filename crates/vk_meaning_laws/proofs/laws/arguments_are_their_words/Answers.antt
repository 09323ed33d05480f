use Rattle.vk_meaning_laws.proofs.Arguments.{argument_is}
use Rattle.vk_meaning_laws.proofs.laws.arguments_are_their_words.Goals as goal

pub returns : goal.returns
returns c = argument_is
