use Rattle.vk_flat.proofs.Emitting.{cases_code, cases_operand}
use Rattle.vk_flat.specs.Emitters.{written_of}
use Rattle.vk_flat.proofs.emitter.Emitter.cases.Goals as goal

pub split-requires-clause-operand : goal.split-requires-clause-operand
split-requires-clause-operand c = cases_operand (written_of c.args.self.now) (written_of c.with_masks.new.self) (written_of c.fresh.new.self) _ c.in_ok-d.d c.args.a c.with_masks.ensures c.in_ok-d.ensures.written c.requires.operand

pub returns-clause-code : goal.returns-clause-code
returns-clause-code c = cases_code (written_of c.args.self.now) (written_of c.with_masks.new.self) (written_of c.fresh.new.self) (written_of c.split.new.self) _ c.in_ok-d.d c.args.a c.args.under c.with_masks.ensures c.in_ok-d.ensures.written c.in_ok-d.ensures.register c.in_ok-split.ensures.code
