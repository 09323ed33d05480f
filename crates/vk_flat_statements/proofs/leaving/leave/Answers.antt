use Rattle.vk_flat.specs.Emitters.{written_of}
use Rattle.vk_flat.proofs.Grown.{on_ok}
use Rattle.vk_flat_statements.proofs.Pieces.{leaves}
use Rattle.vk_flat_statements.proofs.leaving.leave.Goals as goal

pub returns-clause-code : goal.returns-clause-code
returns-clause-code c = on_ok c.put.result (λ p. leaves (written_of c.args.emitter.now) (written_of c.put.new.self) c.args.from c.args.lanes p c.requires.some c.requires.from c.requires.lanes) c.put.ensures
