-- The type of each kind of expression.
use Rattle.std.proofs.Common.{rules, sym, ap, Some, ◌∙◌, ◌&&◌}
use Rattle.vk_flat.proofs.Cases.{first_of, middle_of, second_of}
use Rattle.vk_ast.specs.Tree.{expr_of}
use Rattle.vk_rules_book.specs.Typings.{is_plus}
use Rattle.vk_construct.proofs.Trees.{number_choice}
use Rattle.vk_flat_trees.specs.Names.{is_numeric, is_zero, pointing}
use Rattle.vk_flat_trees.proofs.Pointing.{number_type_of, pointer_type_of}
use Rattle.vk_flat_trees.proofs.Ready.{element_numeric, element_pointing, summed_numeric, summed_pointing}
use Rattle.vk_flat_trees.proofs.types.+types.Goals as goal

pub placed_type-type_of-subscript-requires : goal.placed_type-type_of-subscript-requires
placed_type-type_of-subscript-requires t c = (search rules, rw c.deref.ensures (element_numeric c.args.names.now (pointing c.args.names.now (expr_of c.in-Index.base.value)) (expr_of c.in-Index.subscript.value) (rw c.in-Index.is at c.requires)))

pub placed_type-pointed_type-requires : goal.placed_type-pointed_type-requires
placed_type-pointed_type-requires t c = (search rules, rw c.deref-in-Index.ensures (element_pointing (pointing c.args.names.now (expr_of c.in-Index.base.value)) (is_zero (expr_of c.in-Index.subscript.value)) (is_numeric c.args.names.now (expr_of c.in-Index.subscript.value)) (rw c.in-Index.is at c.requires)))

pub type_of-type_of-subscript-requires : goal.type_of-type_of-subscript-requires
type_of-type_of-subscript-requires t c = (search rules, rw c.deref-in-Index.ensures (element_numeric c.args.names.now (pointing c.args.names.now (expr_of c.in-Index.base.value)) (expr_of c.in-Index.subscript.value) (rw c.in-Index.is at c.requires)))

pub type_of-pointed_type-requires : goal.type_of-pointed_type-requires
type_of-pointed_type-requires t c = (search rules, rw c.deref-in-Index-2.ensures (element_pointing (pointing c.args.names.now (expr_of c.in-Index.base.value)) (is_zero (expr_of c.in-Index.subscript.value)) (is_numeric c.args.names.now (expr_of c.in-Index.subscript.value)) (rw c.in-Index.is at c.requires)))

pub pointed_type-type_of-by-requires : goal.pointed_type-type_of-by-requires
pointed_type-type_of-by-requires t c = (search rules, rw c.deref-in-Binary.ensures (summed_numeric (is_plus c.in-Binary.field-0) (pointing c.args.names.now (expr_of c.in-Binary.base.value)) (is_numeric c.args.names.now (expr_of c.in-Binary.by.value)) (rw c.in-Binary.is at c.requires)))

pub pointed_type-pointed_type-requires : goal.pointed_type-pointed_type-requires
pointed_type-pointed_type-requires t c = (search rules, rw c.deref-in-Binary-2.ensures (summed_pointing (is_plus c.in-Binary.field-0) (pointing c.args.names.now (expr_of c.in-Binary.base.value)) (is_numeric c.args.names.now (expr_of c.in-Binary.by.value)) (rw c.in-Binary.is at c.requires)))

pub pointed_type-returns-in-Some-Pointer : goal.pointed_type-returns-in-Some-Pointer
pointed_type-returns-in-Some-Pointer t c = rw c.in-Name.is (λ scope tb vars. pointer_type_of c.args.names.now scope tb c.args.e.now.line c.args.e.now.token c.in-Name.id c.in-Some-Pointer.pointer (sym c.home_named.ensures ∙ (c.in-Some-Pointer.is ∙ ap Some (search rules))) vars)

pub type_of-returns-in-Some-Number : goal.type_of-returns-in-Some-Number
type_of-returns-in-Some-Number t c = rw c.in-Name.is (λ scope tb vars. number_type_of c.args.names.now scope tb c.args.e.now.line c.args.e.now.token c.in-Name.id c.in-Some-Number.place (sym c.home_named.ensures ∙ (c.in-Some-Number.is ∙ ap Some (search rules))) vars)

pub type_of-returns-in-Cond : goal.type_of-returns-in-Cond
type_of-returns-in-Cond t c =
    let test = rw c.deref-in-Cond.ensures at c.type_of-condition.ensures in
    let first = rw c.deref-in-Cond-2.ensures at c.type_of-in-Cond.ensures in
    let second = rw c.deref-in-Cond-3.ensures at c.type_of-in-Cond-2.ensures in
    rw (c.in-Cond.is, c.common.ensures) (λ scope tb vars. number_choice scope c.args.e.now.line c.args.e.now.token c.type_of-condition.result c.type_of-in-Cond.result c.type_of-in-Cond-2.result
    (expr_of c.in-Cond.condition.value) (expr_of c.in-Cond.first.value) (expr_of c.in-Cond.second.value) (test scope tb vars) (first scope tb vars) (second scope tb vars))

pub type_of-type_of-requires-in-Binary : goal.type_of-type_of-requires-in-Binary
type_of-type_of-requires-in-Binary t c = (search rules, rw c.deref-in-Binary.ensures (first_of (is_numeric c.args.names.now (expr_of c.in-Binary.left.value)) (is_numeric c.args.names.now (expr_of c.in-Binary.right.value)) (rw c.in-Binary.is at c.requires)))

pub type_of-type_of-requires-in-Binary-2 : goal.type_of-type_of-requires-in-Binary-2
type_of-type_of-requires-in-Binary-2 t c = (search rules, rw c.deref-in-Binary-2.ensures (second_of (is_numeric c.args.names.now (expr_of c.in-Binary.left.value)) (is_numeric c.args.names.now (expr_of c.in-Binary.right.value)) (rw c.in-Binary.is at c.requires)))

pub type_of-type_of-condition-requires : goal.type_of-type_of-condition-requires
type_of-type_of-condition-requires t c =
    let test = is_numeric c.args.names.now (expr_of c.in-Cond.condition.value) in
    let first = is_numeric c.args.names.now (expr_of c.in-Cond.first.value) in
    let second = is_numeric c.args.names.now (expr_of c.in-Cond.second.value) in
    (search rules, rw c.deref-in-Cond.ensures (first_of test first (first_of (test && first) second (rw c.in-Cond.is at c.requires))))

pub type_of-type_of-requires-in-Cond : goal.type_of-type_of-requires-in-Cond
type_of-type_of-requires-in-Cond t c =
    let test = is_numeric c.args.names.now (expr_of c.in-Cond.condition.value) in
    let first = is_numeric c.args.names.now (expr_of c.in-Cond.first.value) in
    let second = is_numeric c.args.names.now (expr_of c.in-Cond.second.value) in
    (search rules, rw c.deref-in-Cond-2.ensures (middle_of test first second (rw c.in-Cond.is at c.requires)))

pub type_of-type_of-requires-in-Cond-2 : goal.type_of-type_of-requires-in-Cond-2
type_of-type_of-requires-in-Cond-2 t c =
    let test = is_numeric c.args.names.now (expr_of c.in-Cond.condition.value) in
    let first = is_numeric c.args.names.now (expr_of c.in-Cond.first.value) in
    let second = is_numeric c.args.names.now (expr_of c.in-Cond.second.value) in
    (search rules, rw c.deref-in-Cond-3.ensures (second_of (test && first) second (rw c.in-Cond.is at c.requires)))
