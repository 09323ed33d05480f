use Rattle.std.proofs.Common.{sym, subst, ◌∙◌}
use Rattle.vk_construct.proofs.Good.{promoted_is}
use Rattle.vk_flat.proofs.Grown.{if_ok_map}
use Rattle.vk_flat.proofs.Joined.{promoted_brings}
use Rattle.vk_flat.specs.Emitters.{IsPromoted, written_of}
use Rattle.vk_flat.proofs.emitter.Emitter.apply_promoted.Goals as goal

pub apply-requires-clause-operand : goal.apply-requires-clause-operand
apply-requires-clause-operand c = c.in_ok-operand.ensures.code.place

pub apply-requires-clause-promoted : goal.apply-requires-clause-promoted
apply-requires-clause-promoted c = subst IsPromoted (sym (c.in_ok-operand.ensures.ty ∙ c.promote.ensures)) (promoted_is c.args.a.ty)

pub returns-clause-code : goal.returns-clause-code
returns-clause-code c = if_ok_map c.apply.result (λ r second. promoted_brings (written_of c.args.self.now) (written_of c.convert.new.self) (written_of c.apply.new.self) c.args.op c.args.a c.in_ok-operand.operand r c.args.under _ c.promote.ensures c.in_ok-operand.ensures.ty c.requires.free c.in_ok-operand.ensures.code second) c.apply.ensures.code
