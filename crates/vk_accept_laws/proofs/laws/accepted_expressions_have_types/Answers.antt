use Rattle.vk_accept_laws.proofs.Grammatical.{grammatical}
use Rattle.vk_accept_laws.proofs.laws.accepted_expressions_have_types.Goals as goal

pub returns : goal.returns
returns c = λ bytes unit accepted around scope r e is_in.
    c.expressions_have_types.ensures unit (grammatical bytes accepted.tokens unit.texts unit.items accepted.is).types accepted.sound around scope r e is_in
