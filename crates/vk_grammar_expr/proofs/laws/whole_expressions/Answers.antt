use Rattle.vk_grammar_expr.proofs.Theorem.{found, within, only, refused, too_deep_at, never_spent}
use Rattle.vk_grammar_expr.proofs.laws.whole_expressions.Goals as goal

pub returns : goal.returns
returns c = record { found = found; within = within; only = only; refused = refused; deep = too_deep_at; ends = never_spent }
