use Rattle.std.proofs.Common.{rules}
use Rattle.std.proofs.lemmas.Result.{IfOk-weaker}
use Rattle.vk_words.proofs.More.{one_more}
use Rattle.vk_words.proofs.tables.lanes_command.Goals as goal

pub returns : goal.returns
returns c = IfOk-weaker c.arg-4.result _ _ (λ d h. one_more h (search rules) (search rules)
    (one_more c.in_ok-arg-3.ensures (search rules) (search rules)
    (one_more c.in_ok-arg-2.ensures (search rules) (search rules)
    (one_more c.in_ok-arg.ensures (search rules) (search rules) c.new.ensures.app)))) c.arg-4.ensures
