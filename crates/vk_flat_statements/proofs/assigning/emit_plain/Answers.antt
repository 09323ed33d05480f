use Rattle.std.proofs.Common.{sym, ◌∙◌}
use Rattle.vk_ast.specs.Tree.{expr_of}
use Rattle.vk_flat.specs.Emitters.{written_of}
use Rattle.vk_flat.proofs.Grown.{on_ok}
use Rattle.vk_flat_statements.specs.Frames.{guards_of}
use Rattle.vk_flat_statements.proofs.Leaves.{plain_emits}
use Rattle.vk_flat_statements.proofs.assigning.emit_plain.Goals as goal

pub returns-clause-code : goal.returns-clause-code
returns-clause-code c = λ line token v. rw c.in-Name.is (on_ok c.store.result
    (λ s. plain_emits (written_of c.args.emitter.now) (written_of c.emit.new.emitter) (written_of c.store.new.emitter) c.args.locals.now line token c.args.place.now.line c.args.place.now.token c.in-Name.id c.in-Some.local (expr_of c.args.e.now)
    c.in_ok-a.a c.under.result (guards_of c.args.guards) v c.under.ensures.mask c.under.ensures.free c.requires.ready.apart (sym c.local_named.ensures ∙ c.in-Some.is) c.requires.numeric c.in_ok-a.ensures.code s)
    c.store.ensures.code)
