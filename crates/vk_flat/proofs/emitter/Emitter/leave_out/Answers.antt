use Rattle.vk_flat.specs.Emitters.{written_of}
use Rattle.vk_flat.proofs.Grown.{on_ok}
use Rattle.vk_flat.proofs.Steps.{rest_mask}
use Rattle.vk_flat.proofs.emitter.Emitter.leave_out.Goals as goal

pub returns-clause-code : goal.returns-clause-code
returns-clause-code c = on_ok c.put.result
    (λ p. rest_mask (written_of c.args.self.now) (written_of c.put.new.self) c.args.under p c.requires.running c.requires.masks)
    c.put.ensures
