use Rattle.vk_lex.proofs.Tables.{one_table_of_names, one_list_of_tokens}
use Rattle.vk_lex.proofs.laws.one_table.Goals as goal

pub returns-clause-names : goal.returns-clause-names
returns-clause-names c = one_table_of_names

pub returns-clause-tokens : goal.returns-clause-tokens
returns-clause-tokens c = one_list_of_tokens
