use Rattle.vk_local_calls.proofs.Returns.{right_returns}
use Rattle.vk_local_calls.proofs.laws.accepted_calls_are_local.Goals as goal

pub returns : goal.returns
returns c units lane turns accepted functions consts no_print text d l =
    c.calls_are_local.ensures units lane turns (c.accepted_programs_are_tame.ensures units lane accepted functions) (c.consts_are_fixed.ensures units lane consts) no_print (right_returns units lane accepted) text d l
