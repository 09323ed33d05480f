use Rattle.vk_flat.specs.Emitters.{written_of}
use Rattle.vk_flat.proofs.Grown.{on_ok}
use Rattle.vk_flat.proofs.Joined.{truth_brings}
use Rattle.vk_flat.proofs.emitter.Emitter.truth_into.Goals as goal

pub returns-clause-code : goal.returns-clause-code
returns-clause-code c = on_ok c.constant_into-2.result
    (λ e. truth_brings (written_of c.args.self.now) (written_of c.test.new.self) (written_of c.constant_into.new.self) (written_of c.constant_into-2.new.self) c.args.a c.args.d c.args.under c.requires.int c.requires.free c.requires.operand
    c.in_ok-test.ensures.code c.in_ok-constant_into.ensures.code e)
    c.constant_into-2.ensures.code
