use Rattle.vk_ast.specs.Tree.{expr_of}
use Rattle.vk_flat.specs.Emitters.{written_of}
use Rattle.vk_flat_statements.specs.Frames.{guards_of}
use Rattle.vk_flat_statements.proofs.Leaves.{value_emits}
use Rattle.vk_flat_statements.proofs.assigning.emit_value.Goals as goal

pub returns-clause-code : goal.returns-clause-code
returns-clause-code c = λ line token v. value_emits (written_of c.args.emitter.now) (written_of c.emit.new.emitter) c.args.locals.now line token (expr_of c.args.e.now) c.in_ok-_place._place c.under.result (guards_of c.args.guards) v
    c.under.ensures.mask c.under.ensures.free c.requires.ready.apart c.requires.numeric c.in_ok-_place.ensures.code
