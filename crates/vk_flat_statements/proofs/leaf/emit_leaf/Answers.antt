use Rattle.std.proofs.Common.{None, Some, refl, subst, OnOk}
use Rattle.vk_ast.specs.Statements.{assign, break_loop, continue_loop, return_value, value}
use Rattle.vk_ast.specs.Tree.{expr_of}
use Rattle.vk_flat_statements.specs.Frames.{guards_of, return_place}
use Rattle.vk_flat_statements.specs.Statements.{Compiles}
use Rattle.vk_flat_statements.proofs.Compiling.{compiled, compiled_empty, compiled_local, none_returned, on_both}
use Rattle.vk_flat_statements.proofs.leaf.emit_leaf.Goals as goal

pub returns-in-Empty : goal.returns-in-Empty
returns-in-Empty c = rw c.in-Empty.is (compiled_empty c.args.emitter.now c.args.locals.now.items c.args.returned c.args.s.now.line c.args.s.now.token _ (guards_of c.args.guards) c.requires.ready)

pub returns-in_ok-_place-in-Some : goal.returns-in_ok-_place-in-Some
returns-in_ok-_place-in-Some c = rw (c.in-Local.is, c.in-Some.is) (compiled_local c.args.emitter.now c.emit_initialised.new.emitter c.args.locals.now.items c.emit_initialised.new.locals.items c.args.returned c.args.s.now.line c.args.s.now.token
    c.in-Local.ty c.in-Local.field-1 c.in-Local.id (Some (expr_of c.in-Some.e)) (guards_of c.args.guards) c.in_ok-_place-in-Some._place c.in_ok-_place-in-Some.ensures.names c.in_ok-_place-in-Some.ensures.ty c.requires.ready.places
    c.in_ok-_place-in-Some.ensures.place (c.in_ok-_place-in-Some.ensures.code c.args.s.now.line c.args.s.now.token c.in-Local.field-1 (return_place c.args.returned)) c.in_ok-_place-in-Some.ensures.grown)

pub returns-in_ok-_place-in-None : goal.returns-in_ok-_place-in-None
returns-in_ok-_place-in-None c = rw (c.in-Local.is, c.in-None.is) (compiled_local c.args.emitter.now c.emit_declared.new.emitter c.args.locals.now.items c.emit_declared.new.locals.items c.args.returned c.args.s.now.line c.args.s.now.token
    c.in-Local.ty c.in-Local.field-1 c.in-Local.id None (guards_of c.args.guards) c.in_ok-_place-in-None._place c.in_ok-_place-in-None.ensures.names c.in_ok-_place-in-None.ensures.ty c.requires.ready.places
    c.in_ok-_place-in-None.ensures.place (c.in_ok-_place-in-None.ensures.code c.args.s.now.line c.args.s.now.token c.in-Local.field-1 (return_place c.args.returned)) c.in_ok-_place-in-None.ensures.grown)

pub returns-in-Some-op : goal.returns-in-Some-op
returns-in-Some-op c = rw (c.in-Assign.is, c.in-Some-op.is) (on_both c.emit_combined.result
    (λ h g. compiled c.args.emitter.now c.emit_combined.new.emitter c.deref.result.now c.args.locals.now.items c.args.returned (assign c.args.s.now.line c.args.s.now.token (Some c.in-Some-op.op) (expr_of c.in-Assign.place) (expr_of c.in-Assign.e)) (guards_of c.args.guards)
    c.deref.ensures.value refl c.requires.ready.places h g)
    (c.emit_combined.ensures.code c.args.s.now.line c.args.s.now.token (return_place c.args.returned)) c.emit_combined.ensures.grown)

pub returns-in-None-op : goal.returns-in-None-op
returns-in-None-op c = rw (c.in-Assign.is, c.in-None-op.is) (on_both c.emit_plain.result
    (λ h g. compiled c.args.emitter.now c.emit_plain.new.emitter c.deref-in-None-op.result.now c.args.locals.now.items c.args.returned (assign c.args.s.now.line c.args.s.now.token None (expr_of c.in-Assign.place) (expr_of c.in-Assign.e)) (guards_of c.args.guards)
    c.deref-in-None-op.ensures.value refl c.requires.ready.places h g)
    (c.emit_plain.ensures.code c.args.s.now.line c.args.s.now.token (return_place c.args.returned)) c.emit_plain.ensures.grown)

pub returns-in-Value : goal.returns-in-Value
returns-in-Value c = rw c.in-Value.is (on_both c.emit_value.result
    (λ h g. compiled c.args.emitter.now c.emit_value.new.emitter c.deref-in-Value.result.now c.args.locals.now.items c.args.returned (value c.args.s.now.line c.args.s.now.token (expr_of c.in-Value.e)) (guards_of c.args.guards)
    c.deref-in-Value.ensures.value refl c.requires.ready.places h g)
    (c.emit_value.ensures.code c.args.s.now.line c.args.s.now.token (return_place c.args.returned)) c.emit_value.ensures.grown)

pub returns-in-Break : goal.returns-in-Break
returns-in-Break c = rw c.in-Break.is (on_both c.emit_break.result
    (λ h g. compiled c.args.emitter.now c.emit_break.new.emitter c.deref-in-Break.result.now c.args.locals.now.items c.args.returned (break_loop c.args.s.now.line c.args.s.now.token) (guards_of c.args.guards)
    c.deref-in-Break.ensures.value refl c.requires.ready.places h g)
    (c.emit_break.ensures.code c.args.s.now.line c.args.s.now.token (return_place c.args.returned)) c.emit_break.ensures.grown)

pub returns-in-Continue : goal.returns-in-Continue
returns-in-Continue c = rw c.in-Continue.is (on_both c.emit_continue.result
    (λ h g. compiled c.args.emitter.now c.emit_continue.new.emitter c.deref-in-Continue.result.now c.args.locals.now.items c.args.returned (continue_loop c.args.s.now.line c.args.s.now.token) (guards_of c.args.guards)
    c.deref-in-Continue.ensures.value refl c.requires.ready.places h g)
    (c.emit_continue.ensures.code c.args.s.now.line c.args.s.now.token (return_place c.args.returned)) c.emit_continue.ensures.grown)

pub returns-in-Some-returned : goal.returns-in-Some-returned
returns-in-Some-returned c = rw (c.in-Return.is, c.in-Some-value.is, c.in-Some-returned.is) (on_both c.emit_returned.result
    (λ h g. compiled c.args.emitter.now c.emit_returned.new.emitter c.deref-in-Some-returned.result.now c.args.locals.now.items (Some c.in-Some-returned.d) (return_value c.args.s.now.line c.args.s.now.token (Some (expr_of c.in-Some-value.e))) (guards_of c.args.guards)
    c.deref-in-Some-returned.ensures.value refl c.requires.ready.places h g)
    (c.emit_returned.ensures.code c.args.s.now.line c.args.s.now.token) c.emit_returned.ensures.grown)

pub returns-in-None-value : goal.returns-in-None-value
returns-in-None-value c =
    let flat = rw (c.in-Return.is, c.in-None-value.is) at c.requires.flat in
    rw (c.in-Return.is, c.in-None-value.is)
    (subst (λ o. OnOk c.emit_end.result (Compiles c.args.emitter.now c.emit_end.new.emitter c.args.locals.now.items c.args.locals.now.items o (return_value c.args.s.now.line c.args.s.now.token None) (guards_of c.args.guards))) (none_returned c.args.returned flat)
    (on_both c.emit_end.result
    (λ h g. compiled c.args.emitter.now c.emit_end.new.emitter c.deref-in-None-value.result.now c.args.locals.now.items None (return_value c.args.s.now.line c.args.s.now.token None) (guards_of c.args.guards)
    c.deref-in-None-value.ensures.value refl c.requires.ready.places h g)
    (c.emit_end.ensures.code c.args.s.now.line c.args.s.now.token) c.emit_end.ensures.grown))
