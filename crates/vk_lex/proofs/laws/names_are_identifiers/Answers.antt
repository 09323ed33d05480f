use Rattle.vk_lex.proofs.Identifiers.{names_good}
use Rattle.vk_lex.proofs.laws.names_are_identifiers.Goals as goal

pub returns : goal.returns
returns c = names_good
