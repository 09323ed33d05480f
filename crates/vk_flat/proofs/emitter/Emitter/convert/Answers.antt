use Rattle.std.proofs.Common.{rules, subst, Ok}
use Rattle.vk_types.specs.Numbers.{wrap_number}
use Rattle.vk_construct.specs.Applies.{one}
use Rattle.vk_flat.specs.Emitters.{Brings, written_of}
use Rattle.vk_flat.proofs.Steps.{brings_new, new_place, old_place, same_type}
use Rattle.vk_flat.proofs.emitter.Emitter.convert.Goals as goal

pub returns-then-eq-clause-code : goal.returns-then-eq-clause-code
returns-then-eq-clause-code c = same_type (written_of c.args.self.now) c.args.a c.args.ty c.args.under c.requires.operand (search rules)

pub convert_into-requires-clause-operand : goal.convert_into-requires-clause-operand
convert_into-requires-clause-operand c = old_place (written_of c.args.self.now) (written_of c.fresh.new.self) c.in_ok-d.d c.args.a c.in_ok-d.ensures.written c.requires.operand

pub convert_into-requires-clause-place : goal.convert_into-requires-clause-place
convert_into-requires-clause-place c = new_place (written_of c.args.self.now) (written_of c.fresh.new.self) c.in_ok-d.d c.in_ok-d.ensures.written c.in_ok-d.ensures.register

pub returns-clause-code : goal.returns-clause-code
returns-clause-code c =
    subst (λ t. Brings (written_of c.args.self.now) (written_of c.convert_into.new.self) (one (λ z. Ok (wrap_number t z)) c.args.a.ty c.args.a.register) c.in_ok-d.d c.args.under 1) c.in_ok-d.ensures.ty
    (brings_new (written_of c.args.self.now) (written_of c.fresh.new.self) (written_of c.convert_into.new.self) _ c.in_ok-d.d c.args.under 1 c.in_ok-d.ensures.written c.in_ok-d.ensures.register c.in_ok-convert_into.ensures.code)
