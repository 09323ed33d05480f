use Rattle.vk_ast.specs.Statements.{all_stmt_nodes, list_stmts}
use Rattle.vk_flat.specs.Emitters.{written_of}
use Rattle.vk_flat.proofs.Steps.{new_place}
use Rattle.vk_flat_bodies.proofs.Beginning.{body_count, body_emits, ready_body}
use Rattle.vk_flat_bodies.proofs.body.emit_body.Goals as goal

pub emit_all-requires-clause-ready : goal.emit_all-requires-clause-ready
emit_all-requires-clause-ready c = ready_body c.args.emitter.now c.begin.new.emitter c.args.locals.now.items c.requires.places c.in_ok-begin.ensures c.fresh.new.self c.in_ok-d.d c.in_ok-d.ensures.written c.in_ok-d.ensures.register
    (all_stmt_nodes (list_stmts c.args.statements.now)) c.requires.params c.requires.room

pub clear-requires-clause-place : goal.clear-requires-clause-place
clear-requires-clause-place c = c.in_ok-emit_all.ensures.code.kept c.in_ok-d.d (new_place (written_of c.begin.new.emitter) (written_of c.fresh.new.self) c.in_ok-d.d c.in_ok-d.ensures.written c.in_ok-d.ensures.register)

pub returns-clause-code : goal.returns-clause-code
returns-clause-code c = body_emits c.args.emitter.now c.begin.new.emitter c.args.locals.now.items c.requires.places c.in_ok-begin.ensures c.fresh.new.self c.in_ok-d.d c.in_ok-d.ensures.written c.in_ok-d.ensures.register
    c.emit_all.new.emitter c.clear.new.emitter c.emit_all.new.locals.items (list_stmts c.args.statements.now) c.in_ok-emit_all.ensures c.in_ok-clear.ensures.code

pub returns-clause-count : goal.returns-clause-count
returns-clause-count c = body_count c.args.emitter.now c.begin.new.emitter c.args.locals.now.items c.requires.places c.in_ok-begin.ensures c.fresh.new.self c.in_ok-d.d c.in_ok-d.ensures.written c.in_ok-d.ensures.register
    c.emit_all.new.emitter c.clear.new.emitter (all_stmt_nodes (list_stmts c.args.statements.now)) c.in_ok-emit_all.ensures.grown c.in_ok-clear.ensures.base
