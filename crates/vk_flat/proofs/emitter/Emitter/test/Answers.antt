use Rattle.vk_flat.specs.Emitters.{written_of}
use Rattle.vk_flat.proofs.Grown.{on_ok}
use Rattle.vk_flat.proofs.Steps.{test_mask}
use Rattle.vk_flat.proofs.emitter.Emitter.test.Goals as goal

pub returns-clause-code : goal.returns-clause-code
returns-clause-code c = on_ok c.put.result
    (λ p. test_mask (written_of c.args.self.now) (written_of c.put.new.self) c.args.a c.args.under p c.requires.running c.requires.operand c.requires.free c.requires.masks)
    c.put.ensures
