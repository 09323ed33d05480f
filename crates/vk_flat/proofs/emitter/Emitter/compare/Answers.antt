use Rattle.std.proofs.Common.{refl}
use Rattle.vk_flat.specs.Emitters.{written_of}
use Rattle.vk_flat.proofs.Steps.{compare_new}
use Rattle.vk_flat.proofs.emitter.Emitter.compare.Goals as goal

pub returns-clause-code : goal.returns-clause-code
returns-clause-code c = compare_new (written_of c.args.self.now) (written_of c.fresh.new.self) (written_of c.put.new.self) c.in_ok-d.d c.args.under c.in_ok-d.ensures.written c.in_ok-d.ensures.register c.requires.running c.requires.params c.args.op c.args.a.ty c.args.a c.args.b c.in_ok-put.ensures
    c.requires.left c.requires.right refl c.requires.same c.in_ok-d.ensures.ty c.requires.promoted c.requires.comparison
