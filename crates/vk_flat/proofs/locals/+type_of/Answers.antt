use Rattle.std.proofs.Common.{sym, ◌∙◌}
use Rattle.vk_ast.specs.Tree.{expr_of}
use Rattle.vk_construct.proofs.Trees.{number_choice}
use Rattle.vk_flat.proofs.Emitting.{name_type}
use Rattle.vk_flat.proofs.locals.+type_of.Goals as goal

pub returns-in-Some : goal.returns-in-Some
returns-in-Some n c = rw c.in-Name.is (λ scope tb names. name_type c.args.locals.now scope tb c.args.e.now.line c.args.e.now.token c.in-Name.id c.in-Some.local (sym c.local_named.ensures ∙ c.in-Some.is) names)

pub returns-in-Cond : goal.returns-in-Cond
returns-in-Cond n c =
    let test = rw c.deref-in-Cond.ensures at c.type_of-condition.ensures in
    let first = rw c.deref-in-Cond-2.ensures at c.type_of-in-Cond.ensures in
    let second = rw c.deref-in-Cond-3.ensures at c.type_of-in-Cond-2.ensures in
    rw (c.in-Cond.is, c.common.ensures) (λ scope tb names. number_choice scope c.args.e.now.line c.args.e.now.token c.type_of-condition.result c.type_of-in-Cond.result c.type_of-in-Cond-2.result
    (expr_of c.in-Cond.condition.value) (expr_of c.in-Cond.first.value) (expr_of c.in-Cond.second.value) (test scope tb names) (first scope tb names) (second scope tb names))
