use Rattle.vk_grammar_expr.proofs.Places.{one_place, place_no_text}
use Rattle.vk_grammar_stmt.proofs.Theorem.{one_tree}
use Rattle.vk_grammar_stmt.proofs.laws.one_statement.Goals as goal

pub returns : goal.returns
returns c = record { tree = one_tree; place = λ clauses ts n m p q. one_place p q; not_both = λ clauses ts n p t. place_no_text p t }
