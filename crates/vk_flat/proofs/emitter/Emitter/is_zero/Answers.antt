use Rattle.std.proofs.Common.{sym, subst, ◌∙◌}
use Rattle.vk_construct.proofs.Good.{promoted_is}
use Rattle.vk_flat.proofs.Grown.{if_ok_map}
use Rattle.vk_flat.proofs.Joined.{brings_kept, zero_brings}
use Rattle.vk_flat.specs.Emitters.{IsPromoted, written_of}
use Rattle.vk_flat.proofs.emitter.Emitter.is_zero.Goals as goal

pub compare-requires-clause-left : goal.compare-requires-clause-left
compare-requires-clause-left c = brings_kept (written_of c.convert.new.self) (written_of c.constant.new.self) _ c.in_ok-zero.zero c.args.under 1 c.in_ok-zero.ensures.code c.in_ok-operand.operand c.in_ok-operand.ensures.code.place

pub compare-requires-clause-right : goal.compare-requires-clause-right
compare-requires-clause-right c = c.in_ok-zero.ensures.code.place

pub compare-requires-clause-same : goal.compare-requires-clause-same
compare-requires-clause-same c = c.in_ok-zero.ensures.ty ∙ sym c.in_ok-operand.ensures.ty

pub compare-requires-clause-promoted : goal.compare-requires-clause-promoted
compare-requires-clause-promoted c = subst IsPromoted (sym (c.in_ok-operand.ensures.ty ∙ c.promote-ty.ensures)) (promoted_is c.args.a.ty)

pub returns-clause-code : goal.returns-clause-code
returns-clause-code c = if_ok_map c.compare.result (λ r third. zero_brings (written_of c.args.self.now) (written_of c.convert.new.self) (written_of c.constant.new.self) (written_of c.compare.new.self) c.args.a c.in_ok-operand.operand c.in_ok-zero.zero r c.args.under _ c.promote-ty.ensures c.in_ok-operand.ensures.ty c.in_ok-zero.ensures.ty c.requires.free c.in_ok-operand.ensures.code c.in_ok-zero.ensures.code third) c.compare.ensures.code
