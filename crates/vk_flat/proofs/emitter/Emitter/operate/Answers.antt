use Rattle.std.proofs.Common.{sym, subst}
use Rattle.vk_code.specs.declared.instruction.Operation.TheVariants.{Binary}
use Rattle.vk_flat.specs.Emitters.{HasPut, IsPromoted, written_of}
use Rattle.vk_flat.proofs.Steps.{operate_new}
use Rattle.vk_flat.proofs.emitter.Emitter.operate.Goals as goal

pub returns-clause-code : goal.returns-clause-code
returns-clause-code c = operate_new (written_of c.args.self.now) (written_of c.fresh.new.self) (written_of c.put.new.self) c.in_ok-d.d c.args.under c.in_ok-d.ensures.written c.in_ok-d.ensures.register c.requires.running c.requires.params c.args.op c.args.a c.args.b
    (subst (λ t. HasPut (written_of c.fresh.new.self) (written_of c.put.new.self) c.args.under.mask (Binary c.args.op t c.in_ok-d.d.register c.args.a.register c.args.b.register)) (sym c.in_ok-d.ensures.ty) c.in_ok-put.ensures)
    c.requires.left c.requires.right (sym c.in_ok-d.ensures.ty) (subst IsPromoted (sym c.in_ok-d.ensures.ty) c.requires.promoted) c.requires.operator
