use Rattle.std.proofs.Common.{◌≡◌, ◌++◌, ◌∷◌, [], length, ap, ◌∙◌, rules}
use Rattle.std.specs.Option.{option_map}
use Rattle.vk_ast.specs.Tree.{expr_of}
use Rattle.vk_kinds.specs.declared.heads.CType.{CType}
use Rattle.vk_rules_names.specs.Seen.{scope_at}
use Rattle.vk_meaning.specs.Statements.{initialised}
use Rattle.vk_reading_statements.specs.Places.{context_at, scope_in}
use Rattle.vk_reading_statements.proofs.AddsAll.{adds_declared}
use Rattle.vk_reading_statements.proofs.Constructs.{same_effect}
use Rattle.vk_reading_statements.proofs.Declaring.{given_first}
use Rattle.vk_reading_statements.proofs.Flowing.{acts_want}
use Rattle.vk_reading_statements.proofs.parts.run_local.Goals as goal

pub returns-in-Ok-clause-acts : goal.returns-in-Ok-clause-acts
returns-in-Ok-clause-acts g c t is =
    let b = c.args.binding in
    let bs = c.in-Ok.ensures.bindings ∙ ap (λ (ct : CType). c.args.locals.now.bindings.items ++ record { name = b.name; ctype = ct; fixed = b.fixed } ∷ []) is in
    let k : c.len.result ≡ length c.args.locals.now.bindings.items = search rules in
    given_first _ _ c.in-Ok.ensures.data
    (same_effect (λ i. initialised (context_at (g.C.Calls.arrays c.args.calls.now) (g.C.Calls.call c.args.calls.now) c.args.body.now) (scope_at c.args.body.now.file (bs i) c.args.outer) (record { number = k i; ctype = is i }) (option_map expr_of c.args.init.now)) c.initialise.ensures.acts)

pub returns-in-Err-clause-acts : goal.returns-in-Err-clause-acts
returns-in-Err-clause-acts g c t is = acts_want _ _ _ _ (adds_declared (context_at (g.C.Calls.arrays c.args.calls.now) (g.C.Calls.call c.args.calls.now) c.args.body.now) (g.met.C.Calls.adds c.args.calls.now) (scope_in c.args.body.now c.args.locals.now c.args.outer) t c.args.binding.fixed c.args.binding.name (option_map expr_of c.args.init.now))
