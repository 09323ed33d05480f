use Rattle.vk_flat.specs.Emitters.{written_of}
use Rattle.vk_flat.proofs.Grown.{on_ok}
use Rattle.vk_flat.proofs.Steps.{constant_into}
use Rattle.vk_flat.proofs.emitter.Emitter.constant_into.Goals as goal

pub returns-clause-code : goal.returns-clause-code
returns-clause-code c = on_ok c.put.result
    (λ p. constant_into (written_of c.args.self.now) (written_of c.put.new.self) c.args.n c.args.d c.args.under c.word_of-value.result p c.requires.running c.requires.place c.requires.free c.word_of-value.ensures.number c.word_of-value.ensures.canonical)
    c.put.ensures
