use Rattle.vk_grammar_expr.proofs.Places.{one_place, place_no_text}
use Rattle.vk_grammar_unit.proofs.Theorem.{one_list}
use Rattle.vk_grammar_unit.proofs.laws.one_unit.Goals as goal

pub returns : goal.returns
returns c = record { list = one_list; place = λ clauses ts n m p q. one_place p q; not_both = λ clauses ts n p t. place_no_text p t }
