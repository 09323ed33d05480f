use Rattle.vk_ast.specs.Tree.{expr_of}
use Rattle.vk_flat.specs.Emitters.{written_of}
use Rattle.vk_flat.proofs.Grown.{on_ok}
use Rattle.vk_flat_statements.specs.Frames.{guards_of}
use Rattle.vk_flat_statements.proofs.Returning.{return_emits}
use Rattle.vk_flat_statements.proofs.leaving.emit_returned.Goals as goal

pub returns-clause-code : goal.returns-clause-code
returns-clause-code c = λ line token. on_ok c.leave-2.result
    (λ q. return_emits (written_of c.args.emitter.now) (written_of c.emit.new.emitter) (written_of c.store.new.emitter) (written_of c.leave.new.emitter) (written_of c.leave-2.new.emitter) c.args.locals.now line token (expr_of c.args.e.now)
    c.in_ok-a.a c.args.d c.under.result (guards_of c.args.guards) c.under.ensures.mask c.under.ensures.free c.requires.ready.apart c.requires.numeric c.in_ok-a.ensures.code c.in_ok-store.ensures.code c.in_ok-leave.ensures.code q)
    c.leave-2.ensures.code
