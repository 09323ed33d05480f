use Rattle.std.proofs.Common.{refl}
use Rattle.vk_flat.specs.Emitters.{written_of}
use Rattle.vk_flat.proofs.Grown.{on_ok}
use Rattle.vk_flat_statements.proofs.Pieces.{clears}
use Rattle.vk_flat_statements.proofs.assigning.clear.Goals as goal

pub returns-clause-code : goal.returns-clause-code
returns-clause-code c = on_ok c.put.result (λ p. clears (written_of c.args.emitter.now) (written_of c.put.new.self) c.args.d c.args.mask _ refl p c.requires.running c.requires.place) c.put.ensures
