use Rattle.vk_construct.proofs.Instructions.{adds_split}
use Rattle.vk_flat.specs.Emitters.{written_of}
use Rattle.vk_flat.proofs.Grown.{on_ok}
use Rattle.vk_flat.proofs.emitter.Emitter.split.Goals as goal

pub returns-clause-code : goal.returns-clause-code
returns-clause-code c = on_ok c.leave_out.result
    (λ b. adds_split (written_of c.args.self.now) (written_of c.test.new.self) (written_of c.leave_out.new.self) c.args.under.mask c.args.under.free c.args.a.register c.in_ok-test.ensures.code b)
    c.leave_out.ensures.code
