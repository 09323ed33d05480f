use Rattle.vk_flat.specs.Emitters.{written_of}
use Rattle.vk_flat.proofs.Grown.{on_ok}
use Rattle.vk_flat_statements.specs.Frames.{guards_of}
use Rattle.vk_flat_statements.proofs.Jumping.{continue_emits}
use Rattle.vk_flat_statements.proofs.leaving.emit_continue.Goals as goal

pub returns-clause-code : goal.returns-clause-code
returns-clause-code c = λ line token v. on_ok c.leave.result
    (λ q. continue_emits (written_of c.args.emitter.now) (written_of c.leave.new.emitter) c.args.locals.now line token v (guards_of c.args.guards) c.requires.ready.apart q)
    c.leave.ensures.code
