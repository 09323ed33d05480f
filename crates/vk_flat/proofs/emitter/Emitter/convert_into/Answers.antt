use Rattle.vk_flat.specs.Emitters.{written_of}
use Rattle.vk_flat.proofs.Grown.{on_ok}
use Rattle.vk_flat.proofs.Steps.{convert_into}
use Rattle.vk_flat.proofs.emitter.Emitter.convert_into.Goals as goal

pub returns-clause-code : goal.returns-clause-code
returns-clause-code c = on_ok c.put.result
    (λ p. convert_into (written_of c.args.self.now) (written_of c.put.new.self) c.args.a c.args.d c.args.under p c.requires.running c.requires.operand c.requires.place c.requires.free)
    c.put.ensures
