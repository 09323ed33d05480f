use Rattle.std.proofs.Common.{sym, subst, ◌∙◌}
use Rattle.vk_construct.proofs.Good.{common_is}
use Rattle.vk_flat.proofs.Grown.{if_ok_map}
use Rattle.vk_flat.proofs.Joined.{brings_kept, common_brings}
use Rattle.vk_flat.specs.Emitters.{IsPromoted, written_of}
use Rattle.vk_flat.proofs.emitter.Emitter.in_common.Goals as goal

pub convert-requires-2-clause-operand : goal.convert-requires-2-clause-operand
convert-requires-2-clause-operand c = brings_kept (written_of c.args.self.now) (written_of c.convert.new.self) _ c.in_ok-left.left c.args.under 1 c.in_ok-left.ensures.code c.args.b c.requires.right

pub operate-requires-clause-left : goal.operate-requires-clause-left
operate-requires-clause-left c = brings_kept (written_of c.convert.new.self) (written_of c.convert-2.new.self) _ c.in_ok-right.right c.args.under 1 c.in_ok-right.ensures.code c.in_ok-left.left c.in_ok-left.ensures.code.place

pub operate-requires-clause-right : goal.operate-requires-clause-right
operate-requires-clause-right c = c.in_ok-right.ensures.code.place

pub operate-requires-clause-promoted : goal.operate-requires-clause-promoted
operate-requires-clause-promoted c = subst IsPromoted (sym (c.in_ok-left.ensures.ty ∙ c.common-ty.ensures)) (common_is c.args.a.ty c.args.b.ty)

pub operate-requires-clause-operator : goal.operate-requires-clause-operator
operate-requires-clause-operator c = record { arithmetic = c.requires.arithmetic; right = λ _. c.in_ok-right.ensures.ty ∙ sym c.in_ok-left.ensures.ty }

pub returns-clause-code : goal.returns-clause-code
returns-clause-code c = if_ok_map c.operate.result (λ r third. common_brings (written_of c.args.self.now) (written_of c.convert.new.self) (written_of c.convert-2.new.self) (written_of c.operate.new.self) c.args.op c.args.a c.args.b c.in_ok-left.left c.in_ok-right.right r c.args.under _ _ c.common-ty.ensures c.in_ok-left.ensures.ty c.in_ok-right.ensures.ty c.requires.free c.requires.right
    c.in_ok-left.ensures.code c.in_ok-right.ensures.code third) c.operate.ensures.code
