use Rattle.std.proofs.Common.{List, ap, ◌∙◌}
use Rattle.vk_reading.specs.declared.held.Held.{Held}
use Rattle.vk_ast.specs.Tree.{expr_of}
use Rattle.vk_rules_book.specs.Scopes.{Scope}
use Rattle.vk_rules_book.specs.Typings.{typing_of}
use Rattle.vk_meaning.specs.Data.{given}
use Rattle.vk_meaning.specs.Expressions.{integer_type, value_of}
use Rattle.vk_meaning.specs.Statements.{combined}
use Rattle.vk_reading_steps.specs.Settings.{context_in, variables_in}
use Rattle.vk_reading_statements.proofs.Exits.{same_action}
use Rattle.vk_reading_statements.proofs.parts.combine_variable.Goals as goal

pub returns-clause-does : goal.returns-clause-does
returns-clause-does g c =
    let p = c.place_in-place.ensures in
    let s = c.integer_type-s.ensures ∙ ap integer_type (c.typing.ensures ∙ ap (λ (sc : Scope). typing_of sc (expr_of c.args.target.now)) p.scope) in
    let t = c.integer_type-t.ensures ∙ ap integer_type (c.typing-2.ensures ∙ ap (λ (sc : Scope). typing_of sc (expr_of c.args.e.now)) p.scope) in
    let old = c.value_at-old.ensures.value ∙ ap (λ (vs : List Held). variables_in vs c.args.number) c.deref.ensures.value in
    same_action (λ i. combined c.args.op (s i) (t i) (given (old i)) (value_of (context_in (g.C.Calls.arrays c.args.calls.now) (g.C.Calls.call c.args.calls.now) (p.setting i)) (p.scope i)
    (variables_in (p.values i)) (expr_of c.args.e.now))) c.combine.ensures.does
