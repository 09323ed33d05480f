use Rattle.vk_lex.proofs.Rules.{token_rules}
use Rattle.vk_lex.proofs.Tables.{some_tokens}
use Rattle.vk_lex.proofs.laws.some_answer.Goals as goal

pub returns-clause-some : goal.returns-clause-some
returns-clause-some c = some_tokens

pub returns-clause-rules : goal.returns-clause-rules
returns-clause-rules c = token_rules
