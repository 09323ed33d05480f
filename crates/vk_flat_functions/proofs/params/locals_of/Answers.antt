-- One parameter more.
use Rattle.vk_flat_functions.proofs.Locals.{params_next}
use Rattle.vk_flat_functions.proofs.params.locals_of.Goals as goal

pub loop-register-preserved : goal.loop-register-preserved
loop-register-preserved c =
    params_next c.args.params.now c.loop-register.locals.items c.push.new.self.items c.loop-register.register _ c.local_of.result c.loop-register-test.true c.in_ok-push.ensures.items c.loop-register.invariant c.local_of.ensures
