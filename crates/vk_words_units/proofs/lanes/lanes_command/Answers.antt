use Rattle.std.proofs.Common.{rules}
use Rattle.std.proofs.lemmas.Result.{IfOk-weaker}
use Rattle.vk_words.proofs.More.{one_more}
use Rattle.vk_words_units.proofs.lanes.lanes_command.Goals as goal

pub returns : goal.returns
returns c = IfOk-weaker c.arg-2.result _ _ (λ d h. one_more h (search rules) (search rules)
    (one_more c.in_ok-arg.ensures (search rules) (search rules) c.in_ok-lanes_command.ensures)) c.arg-2.ensures
