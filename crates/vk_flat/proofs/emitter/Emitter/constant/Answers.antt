use Rattle.std.proofs.Common.{pos, subst, Ok}
use Rattle.vk_types.specs.Numbers.{wrap_number}
use Rattle.vk_flat.specs.Emitters.{Brings, written_of}
use Rattle.vk_flat.proofs.Steps.{brings_new, new_place}
use Rattle.vk_flat.proofs.emitter.Emitter.constant.Goals as goal

pub constant_into-requires-clause-place : goal.constant_into-requires-clause-place
constant_into-requires-clause-place c = new_place (written_of c.args.self.now) (written_of c.fresh.new.self) c.in_ok-d.d c.in_ok-d.ensures.written c.in_ok-d.ensures.register

pub returns-clause-code : goal.returns-clause-code
returns-clause-code c =
    subst (λ t. Brings (written_of c.args.self.now) (written_of c.constant_into.new.self) (λ h. Ok (wrap_number t (pos c.args.n))) c.in_ok-d.d c.args.under 1) c.in_ok-d.ensures.ty
    (brings_new (written_of c.args.self.now) (written_of c.fresh.new.self) (written_of c.constant_into.new.self) _ c.in_ok-d.d c.args.under 1 c.in_ok-d.ensures.written c.in_ok-d.ensures.register c.in_ok-constant_into.ensures.code)
