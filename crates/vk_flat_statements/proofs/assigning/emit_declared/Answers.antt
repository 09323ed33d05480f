use Rattle.std.proofs.Common.{None, subst, ◌++◌, ◌∷◌, []}
use Rattle.vk_kinds.specs.declared.heads.CType.TheVariants.{Int}
use Rattle.vk_ast.specs.Statements.{local}
use Rattle.vk_construct.proofs.Adding.{type_kept}
use Rattle.vk_flat.specs.Emitters.{written_of}
use Rattle.vk_flat.proofs.Steps.{new_place}
use Rattle.vk_flat_statements.specs.Frames.{guards_of}
use Rattle.vk_flat_statements.specs.Statements.{EmitsStatement}
use Rattle.vk_flat_statements.proofs.Leaves.{declared_emits}
use Rattle.vk_flat_statements.proofs.assigning.emit_declared.Goals as goal

pub returns-clause-place : goal.returns-clause-place
returns-clause-place c = type_kept (written_of c.fresh.new.self) (written_of c.clear.new.emitter) _ 1 0 c.in_ok-d.d.register (Int c.in_ok-d.d.ty) c.in_ok-clear.ensures.code
    (new_place (written_of c.args.emitter.now) (written_of c.fresh.new.self) c.in_ok-d.d c.in_ok-d.ensures.written c.in_ok-d.ensures.register)

pub returns-clause-code : goal.returns-clause-code
returns-clause-code c = λ line token fixed v. rw c.in_ok-push.ensures.items (subst (λ t. EmitsStatement (written_of c.args.emitter.now) (written_of c.clear.new.emitter) c.args.locals.now.items (c.args.locals.now.items ++ record { name = c.args.id; place = c.in_ok-d.d } ∷ []) v (local line token t fixed c.args.id None) (guards_of c.args.guards) 0) c.in_ok-d.ensures.ty
    (declared_emits (written_of c.args.emitter.now) (written_of c.fresh.new.self) (written_of c.clear.new.emitter) c.args.locals.now.items line token fixed c.args.id c.in_ok-d.d (guards_of c.args.guards) v c.requires.ready.apart c.in_ok-d.ensures.written c.in_ok-d.ensures.register c.in_ok-clear.ensures.code))
