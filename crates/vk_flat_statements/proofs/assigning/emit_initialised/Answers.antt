use Rattle.std.proofs.Common.{IsTrue, None, subst, ◌∙◌, true}
use Rattle.vk_ast.specs.Tree.{expr_of}
use Rattle.vk_kinds.specs.declared.heads.CType.TheVariants.{Int}
use Rattle.vk_construct.proofs.Adding.{type_kept}
use Rattle.vk_flat.specs.Emitters.{written_of}
use Rattle.vk_flat_statements.specs.Frames.{guards_of, return_place}
use Rattle.vk_flat_statements.specs.Flat.{with_name}
use Rattle.vk_flat_statements.proofs.Alike.{alike_named, numeric_alike, places_more}
use Rattle.vk_flat_statements.proofs.Initialising.{initialised_named}
use Rattle.vk_flat_statements.proofs.assigning.emit_initialised.Goals as goal

pub emit-requires-clause-numeric : goal.emit-requires-clause-numeric
emit-requires-clause-numeric c = subst IsTrue (numeric_alike (with_name c.args.locals.now.items c.args.id c.args.ty) c.deref.result.now
    (alike_named c.args.locals.now.items c.deref.result.now c.args.id c.args.ty c.in_ok-d.d (c.deref.ensures.value ∙ c.in_ok-d.ensures.names)) (expr_of c.args.e.now)) c.requires.numeric

pub emit-requires-clause-places : goal.emit-requires-clause-places
emit-requires-clause-places c = places_more (written_of c.emit_declared.new.emitter) c.args.locals.now.items c.deref.result.now c.args.id c.in_ok-d.d (c.deref.ensures.value ∙ c.in_ok-d.ensures.names)
    (λ id x is. (c.in_ok-d.ensures.code 0 0 true (return_place None)).kept x.place (c.requires.ready.places id x is)) c.in_ok-d.ensures.place

pub returns-clause-code : goal.returns-clause-code
returns-clause-code c = λ line token fixed v. initialised_named (written_of c.args.emitter.now) (written_of c.emit_declared.new.emitter) (written_of c.emit.new.emitter) (written_of c.store.new.emitter) c.args.locals.now.items c.emit_declared.new.locals.items c.deref.result.now
    line token fixed c.args.id (expr_of c.args.e.now) c.args.ty c.in_ok-d.d c.in_ok-a.a c.under.result (guards_of c.args.guards) v c.under.ensures.mask c.under.ensures.free c.requires.ready.apart c.in_ok-d.ensures.ty c.in_ok-d.ensures.names c.deref.ensures.value
    (subst IsTrue (numeric_alike (with_name c.args.locals.now.items c.args.id c.args.ty) c.deref.result.now
    (alike_named c.args.locals.now.items c.deref.result.now c.args.id c.args.ty c.in_ok-d.d (c.deref.ensures.value ∙ c.in_ok-d.ensures.names)) (expr_of c.args.e.now)) c.requires.numeric)
    (c.in_ok-d.ensures.code line token fixed v) c.in_ok-a.ensures.code c.in_ok-store.ensures.code

pub returns-clause-place : goal.returns-clause-place
returns-clause-place c = type_kept (written_of c.emit.new.emitter) (written_of c.store.new.emitter) _ 1 0 c.in_ok-d.d.register (Int c.in_ok-d.d.ty) c.in_ok-store.ensures.code (c.in_ok-a.ensures.code.kept c.in_ok-d.d c.in_ok-d.ensures.place)
