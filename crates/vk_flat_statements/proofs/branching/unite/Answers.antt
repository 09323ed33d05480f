use Rattle.vk_flat.specs.Emitters.{written_of}
use Rattle.vk_flat.proofs.Grown.{on_ok}
use Rattle.vk_flat_statements.proofs.Pieces.{unites}
use Rattle.vk_flat_statements.proofs.branching.unite.Goals as goal

pub returns-clause-code : goal.returns-clause-code
returns-clause-code c = on_ok c.put.result (λ p. unites (written_of c.args.emitter.now) (written_of c.put.new.self) c.args.guards.running c.args.guards.free p c.requires.some c.requires.running c.requires.masks) c.put.ensures
