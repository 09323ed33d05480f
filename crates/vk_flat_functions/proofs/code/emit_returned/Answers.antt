-- The conversion comes behind the expression.
use Rattle.std.proofs.Common.{arith}
use Rattle.vk_ast.specs.Tree.{expr_of}
use Rattle.vk_flat.specs.Emitters.{written_of}
use Rattle.vk_flat.proofs.Emitting.{cast_emits}
use Rattle.vk_flat.proofs.Grown.{if_ok_both}
use Rattle.vk_flat_functions.proofs.Returning.{in_call}
use Rattle.vk_flat_functions.proofs.code.emit_returned.Goals as goal

pub returns-clause-code : goal.returns-clause-code
returns-clause-code c = if_ok_both c.convert.result
    (λ d h t. cast_emits (written_of c.args.emitter.now) (written_of c.emit.new.emitter) (written_of c.convert.new.self) c.args.locals.now 0 0 c.args.ty (expr_of c.args.value.now) c.in_ok-place.place d in_call (omega arith) t c.in_ok-place.ensures.code h)
    c.convert.ensures.code c.convert.ensures.ty
