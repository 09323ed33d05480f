use Rattle.std.proofs.Common.{rules, sym, ◌∙◌}
use Rattle.vk_ast.specs.Tree.{expr_of}
use Rattle.vk_flat.specs.Emitters.{written_of}
use Rattle.vk_flat.proofs.Grown.{on_ok}
use Rattle.vk_flat.proofs.Joined.{brings_kept}
use Rattle.vk_flat_statements.specs.Frames.{guards_of}
use Rattle.vk_flat_statements.proofs.Combining.{combined_emits}
use Rattle.vk_flat_statements.proofs.assigning.emit_combined.Goals as goal

pub store-requires-clause-place : goal.store-requires-clause-place
store-requires-clause-place c = brings_kept (written_of c.emit.new.emitter) (written_of c.binary.new.self) _ c.in_ok-a.a c.under-under.result 3 c.in_ok-a.ensures.code c.in-Some.local.place
    (c.in_ok-b.ensures.code.kept c.in-Some.local.place (c.requires.ready.places c.in-Name.id c.in-Some.local (sym c.local_named.ensures ∙ c.in-Some.is)))

pub returns-clause-code : goal.returns-clause-code
returns-clause-code c = λ line token v. rw c.in-Name.is (on_ok c.store.result
    (λ s. combined_emits (written_of c.args.emitter.now) (written_of c.emit.new.emitter) (written_of c.binary.new.self) (written_of c.store.new.emitter) c.args.locals.now line token c.args.place.now.line c.args.place.now.token c.in-Name.id c.in-Some.local c.args.op (expr_of c.args.e.now)
    c.in_ok-b.b c.in_ok-a.a c.under-under.result (guards_of c.args.guards) v c.under-under.ensures.mask c.under-under.ensures.free c.requires.ready.apart (search rules) c.in_ok-a.ensures.plain c.in_ok-a.ensures.ty c.requires.ready.places
    (sym c.local_named.ensures ∙ c.in-Some.is) c.requires.numeric c.in_ok-b.ensures.code c.in_ok-a.ensures.code s)
    c.store.ensures.code)
