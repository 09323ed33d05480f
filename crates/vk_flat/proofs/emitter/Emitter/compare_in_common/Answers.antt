use Rattle.std.proofs.Common.{sym, subst, ◌∙◌}
use Rattle.vk_construct.proofs.Good.{common_is}
use Rattle.vk_flat.proofs.Grown.{if_ok_map}
use Rattle.vk_flat.proofs.Joined.{brings_kept, common_brings}
use Rattle.vk_flat.specs.Emitters.{IsPromoted, written_of}
use Rattle.vk_flat.proofs.emitter.Emitter.compare_in_common.Goals as goal

pub convert-requires-2-clause-operand : goal.convert-requires-2-clause-operand
convert-requires-2-clause-operand c = brings_kept (written_of c.args.self.now) (written_of c.convert.new.self) _ c.in_ok-left.left c.args.under 1 c.in_ok-left.ensures.code c.args.b c.requires.right

pub compare-requires-clause-left : goal.compare-requires-clause-left
compare-requires-clause-left c = brings_kept (written_of c.convert.new.self) (written_of c.convert-2.new.self) _ c.in_ok-right.right c.args.under 1 c.in_ok-right.ensures.code c.in_ok-left.left c.in_ok-left.ensures.code.place

pub compare-requires-clause-right : goal.compare-requires-clause-right
compare-requires-clause-right c = c.in_ok-right.ensures.code.place

pub compare-requires-clause-promoted : goal.compare-requires-clause-promoted
compare-requires-clause-promoted c = subst IsPromoted (sym (c.in_ok-left.ensures.ty ∙ c.common-ty.ensures)) (common_is c.args.a.ty c.args.b.ty)

pub compare-requires-clause-same : goal.compare-requires-clause-same
compare-requires-clause-same c = c.in_ok-right.ensures.ty ∙ sym c.in_ok-left.ensures.ty

pub returns-clause-code : goal.returns-clause-code
returns-clause-code c = if_ok_map c.compare.result (λ r third. common_brings (written_of c.args.self.now) (written_of c.convert.new.self) (written_of c.convert-2.new.self) (written_of c.compare.new.self) c.args.op c.args.a c.args.b c.in_ok-left.left c.in_ok-right.right r c.args.under _ _ c.common-ty.ensures c.in_ok-left.ensures.ty c.in_ok-right.ensures.ty c.requires.free c.requires.right
    c.in_ok-left.ensures.code c.in_ok-right.ensures.code third) c.compare.ensures.code
