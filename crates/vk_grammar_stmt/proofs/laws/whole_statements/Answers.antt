use Rattle.vk_grammar_stmt.proofs.Theorem.{found, only, refused, deep, ends}
use Rattle.vk_grammar_stmt.proofs.laws.whole_statements.Goals as goal

pub returns : goal.returns
returns c = record { found = found; only = only; refused = refused; deep = deep; ends = ends }
