-- One more parameter.
use Rattle.std.proofs.Common.{refl, string_bytes}
use Rattle.vk_cmd_demangle.proofs.Described.{params_more}
use Rattle.vk_cmd_demangle.proofs.describe.push_params.Goals as goal

pub loop-param-preserved : goal.loop-param-preserved
loop-param-preserved c =
    params_more c.args.params.now c.loop-param.param-index _ _ (string_bytes c.args.text.now) (string_bytes c.loop-param.text) (string_bytes c.push_param.new.text)
    c.loop-param-test.true refl c.loop-param.invariant c.in_ok-push_param.ensures
