use Rattle.vk_flat.specs.Emitters.{written_of}
use Rattle.vk_flat.proofs.Grown.{on_ok}
use Rattle.vk_flat_bodies.proofs.Beginning.{meets}
use Rattle.vk_flat_bodies.proofs.body.call_mask.Goals as goal

pub returns-clause-code : goal.returns-clause-code
returns-clause-code c = on_ok c.put.result (λ p. meets (written_of c.args.emitter.now) (written_of c.put.new.self) c.args.d p c.requires.some c.requires.there) c.put.ensures
