use Rattle.std.proofs.Common.{arith, ◌+◌, ◌*◌}
use Rattle.vk_kinds.specs.declared.heads.CType.TheVariants.{Ptr}
use Rattle.vk_ast.specs.Tree.{expr_of, nodes_of}
use Rattle.vk_flat.specs.Emitters.{written_of}
use Rattle.vk_flat.proofs.Grown.{on_ok}
use Rattle.vk_flat_trees.proofs.Emitting.{grows_adds}
use Rattle.vk_flat_trees.proofs.Ready.{grown_after, grown_then, ready_after, ready_less}
use Rattle.vk_flat_elements.proofs.Elements.{assigned_emits}
use Rattle.vk_flat_elements.proofs.assigning.emit_assigned.Goals as goal

pub emit_place-requires-clause-ready : goal.emit_place-requires-clause-ready
emit_place-requires-clause-ready c = let n = nodes_of (expr_of c.args.place.now) in let k = nodes_of (expr_of c.args.e.now) in ready_less c.args.emitter.now c.args.names.now c.args.under (4 * (n + k) + 1) (4 * n) (omega arith) c.requires.ready

pub emit-requires-clause-ready : goal.emit-requires-clause-ready
emit-requires-clause-ready c = let n = nodes_of (expr_of c.args.place.now) in let k = nodes_of (expr_of c.args.e.now) in
    ready_after c.args.emitter.now c.emit_place.new.emitter c.args.names.now c.args.under (4 * n) (4 * k) (4 * (n + k) + 1) (omega arith) c.requires.ready c.in_ok-p.ensures.code.grows c.in_ok-p.ensures.grown

pub store-requires-clause-pointer : goal.store-requires-clause-pointer
store-requires-clause-pointer c = (grows_adds (written_of c.emit.new.emitter) (written_of c.convert.new.self) _ 1 0 c.in_ok-b.ensures.code.code).kept c.in_ok-p.p.register (Ptr c.in_ok-p.p.to c.in_ok-p.p.written)
    (c.in_ok-a.ensures.code.grows.kept c.in_ok-p.p.register (Ptr c.in_ok-p.p.to c.in_ok-p.p.written) c.in_ok-p.ensures.code.place)

pub store-requires-clause-value : goal.store-requires-clause-value
store-requires-clause-value c = c.in_ok-b.ensures.code.place

pub returns-clause-code : goal.returns-clause-code
returns-clause-code c = on_ok c.store.result (λ h. assigned_emits (written_of c.args.emitter.now) (written_of c.emit_place.new.emitter) (written_of c.emit.new.emitter) (written_of c.convert.new.self) (written_of c.store.new.emitter) c.args.names.now
    (expr_of c.args.place.now) (expr_of c.args.e.now) c.in_ok-p.p c.in_ok-a.a c.in_ok-b.b c.args.under c.requires.ready.running c.in_ok-p.ensures.code c.in_ok-a.ensures.code c.in_ok-b.ensures.code c.in_ok-b.ensures.ty h) c.store.ensures.code

pub returns-clause-grown : goal.returns-clause-grown
returns-clause-grown c = let n = nodes_of (expr_of c.args.place.now) in let k = nodes_of (expr_of c.args.e.now) in
    on_ok c.store.result (λ h. grown_after c.args.emitter.now c.convert.new.self c.store.new.emitter (4 * (n + k) + 1) 0 (4 * (n + k) + 1) (omega arith)
    (grown_after c.args.emitter.now c.emit.new.emitter c.convert.new.self (4 * (n + k)) 1 (4 * (n + k) + 1) (omega arith)
    (grown_then c.args.emitter.now c.emit_place.new.emitter c.emit.new.emitter (4 * n) (4 * k) (4 * (n + k)) (omega arith) c.in_ok-p.ensures.grown c.in_ok-a.ensures.grown) c.in_ok-b.ensures.base) h) c.store.ensures.base
