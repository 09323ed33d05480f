use Rattle.std.proofs.Common.{arith, subst, Ok}
use Rattle.vk_types.specs.Numbers.{wrap_number}
use Rattle.vk_construct.specs.Applies.{one}
use Rattle.vk_flat.specs.Emitters.{Brings, written_of}
use Rattle.vk_flat.proofs.Grown.{if_ok_map}
use Rattle.vk_flat.proofs.Joined.{brings_weaken}
use Rattle.vk_flat.proofs.emitter.Emitter.unary.Goals as goal

pub returns-in-Plus-clause-code : goal.returns-in-Plus-clause-code
returns-in-Plus-clause-code c = rw c.in-Plus.is (if_ok_map c.convert.result (λ d h. subst (λ t. Brings (written_of c.args.self.now) (written_of c.convert.new.self) (one (λ z. Ok (wrap_number t z)) c.args.a.ty c.args.a.register) d c.args.under 3) c.promote.ensures
    (brings_weaken (written_of c.args.self.now) (written_of c.convert.new.self) _ d c.args.under 1 3 (omega arith) h)) c.convert.ensures.code)

pub returns-in-Neg-clause-code : goal.returns-in-Neg-clause-code
returns-in-Neg-clause-code c = rw c.in-Neg.is c.apply_promoted.ensures.code

pub returns-in-Not-clause-code : goal.returns-in-Not-clause-code
returns-in-Not-clause-code c = rw c.in-Not.is c.apply_promoted-in-Not.ensures.code
