use Rattle.std.proofs.Common.{sym, subst, ◌∙◌}
use Rattle.vk_construct.proofs.Good.{promoted_is}
use Rattle.std.proofs.Common.{true≢false}
use Rattle.vk_flat.proofs.Grown.{if_ok_map}
use Rattle.vk_flat.proofs.Joined.{brings_kept, shift_brings}
use Rattle.vk_flat.specs.Emitters.{IsPromoted, written_of}
use Rattle.vk_flat.proofs.emitter.Emitter.shift_promoted.Goals as goal

pub operate-requires-clause-left : goal.operate-requires-clause-left
operate-requires-clause-left c = c.in_ok-left.ensures.code.place

pub operate-requires-clause-right : goal.operate-requires-clause-right
operate-requires-clause-right c = brings_kept (written_of c.args.self.now) (written_of c.convert.new.self) _ c.in_ok-left.left c.args.under 1 c.in_ok-left.ensures.code c.args.b c.requires.right

pub operate-requires-clause-promoted : goal.operate-requires-clause-promoted
operate-requires-clause-promoted c = subst IsPromoted (sym (c.in_ok-left.ensures.ty ∙ c.promote.ensures)) (promoted_is c.args.a.ty)

pub operate-requires-clause-operator : goal.operate-requires-clause-operator
operate-requires-clause-operator c = record { arithmetic = c.requires.arithmetic; right = λ e. absurd (true≢false (sym c.requires.shift ∙ e)) }

pub returns-clause-code : goal.returns-clause-code
returns-clause-code c = if_ok_map c.operate.result (λ r second. shift_brings (written_of c.args.self.now) (written_of c.convert.new.self) (written_of c.operate.new.self) c.args.op c.args.a c.args.b c.in_ok-left.left r c.args.under _ c.promote.ensures c.in_ok-left.ensures.ty c.requires.free c.requires.right c.in_ok-left.ensures.code second) c.operate.ensures.code
