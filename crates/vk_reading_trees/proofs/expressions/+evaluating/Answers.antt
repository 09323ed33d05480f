use Rattle.std.proofs.Common.{sym, ap, ◌∙◌}
use Rattle.std.specs.Option.{option_map}
use Rattle.vk_ast.specs.Tree.{expr_of}
use Rattle.vk_rules_book.specs.Typings.{wanted_types}
use Rattle.vk_rules_names.specs.Seen.{meaning_seen, scope_of}
use Rattle.vk_meaning.specs.Expressions.{integer_type, pointed_type}
use Rattle.vk_reading.specs.Held.{datum_of}
use Rattle.vk_reading_steps.specs.Settings.{context_in, variables_in}
use Rattle.vk_reading_steps.proofs.Adds.{adds_value}
use Rattle.vk_reading_trees.proofs.Nodes.{unary_does, load_does, load_failed, element_does, element_failed, first_does, second_does, choice_failed, exit_does, exit_passed, typed, common_is, value_seen, value_at, address_at, call_at, given_seen}
use Rattle.vk_reading_trees.proofs.Operators.{left_moves, left_failed, right_moves, right_failed, numbers_failed, numbers_both, left_is, right_is, on_is}
use Rattle.vk_reading_trees.proofs.Passing.{none_behind, passing_start, passing_step, passing_halted, passing_wanted, passing_end}
use Rattle.vk_reading_trees.proofs.expressions.+evaluating.Goals as goal

pub address_of-returns-in_err-p-in-Index-clause-does : goal.address_of-returns-in_err-p-in-Index-clause-does
address_of-returns-in_err-p-in-Index-clause-does g t c =
    exit_does c.from_residual.result c.from_residual.ensures.1
    (address_at (context_in (g.C.Calls.arrays c.args.calls.now) (g.C.Calls.call c.args.calls.now) c.args.place.now.setting) (scope_of c.args.place.now.scopes) (variables_in c.args.place.now.values.now) c.args.e.now _ c.in-Index.is
    (element_failed (adds_value (context_in (g.C.Calls.arrays c.args.calls.now) (g.C.Calls.call c.args.calls.now) c.args.place.now.setting) (g.met.C.Calls.adds c.args.calls.now) (scope_of c.args.place.now.scopes) (variables_in c.args.place.now.values.now) (expr_of c.in-Index.subscript.value)) (value_seen (context_in (g.C.Calls.arrays c.args.calls.now) (g.C.Calls.call c.args.calls.now) c.args.place.now.setting) (scope_of c.args.place.now.scopes) (variables_in c.args.place.now.values.now) c.deref.ensures c.in_err-p-in-Index.ensures.does)))

pub address_of-returns-in_ok-p-in-Index-clause-does : goal.address_of-returns-in_ok-p-in-Index-clause-does
address_of-returns-in_ok-p-in-Index-clause-does g t c =
    address_at (context_in (g.C.Calls.arrays c.args.calls.now) (g.C.Calls.call c.args.calls.now) c.args.place.now.setting) (scope_of c.args.place.now.scopes) (variables_in c.args.place.now.values.now) c.args.e.now _ c.in-Index.is
    (element_does (value_seen (context_in (g.C.Calls.arrays c.args.calls.now) (g.C.Calls.call c.args.calls.now) c.args.place.now.setting) (scope_of c.args.place.now.scopes) (variables_in c.args.place.now.values.now) c.deref.ensures c.in_ok-p-in-Index.ensures.does)
    (value_seen (context_in (g.C.Calls.arrays c.args.calls.now) (g.C.Calls.call c.args.calls.now) c.args.place.now.setting) (scope_of c.args.place.now.scopes) (variables_in c.args.place.now.values.now) c.deref-in-Index.ensures c.evaluate-n.ensures.does) (c.element_of.ensures.goes _ _))

pub evaluate-returns-in_err-p-in-Index-clause-does : goal.evaluate-returns-in_err-p-in-Index-clause-does
evaluate-returns-in_err-p-in-Index-clause-does g t c =
    exit_does c.from_residual.result c.from_residual.ensures.1
    (value_at (context_in (g.C.Calls.arrays c.args.calls.now) (g.C.Calls.call c.args.calls.now) c.args.place.now.setting) (scope_of c.args.place.now.scopes) (variables_in c.args.place.now.values.now) c.args.e.now _ c.in-Index.is
    (load_failed _ (element_failed (adds_value (context_in (g.C.Calls.arrays c.args.calls.now) (g.C.Calls.call c.args.calls.now) c.args.place.now.setting) (g.met.C.Calls.adds c.args.calls.now) (scope_of c.args.place.now.scopes) (variables_in c.args.place.now.values.now) (expr_of c.in-Index.subscript.value)) (value_seen (context_in (g.C.Calls.arrays c.args.calls.now) (g.C.Calls.call c.args.calls.now) c.args.place.now.setting) (scope_of c.args.place.now.scopes) (variables_in c.args.place.now.values.now) c.deref-in-Index.ensures c.in_err-p-in-Index.ensures.does))))

pub evaluate-returns-in_ok-p-in-Index-clause-does : goal.evaluate-returns-in_ok-p-in-Index-clause-does
evaluate-returns-in_ok-p-in-Index-clause-does g t c =
    value_at (context_in (g.C.Calls.arrays c.args.calls.now) (g.C.Calls.call c.args.calls.now) c.args.place.now.setting) (scope_of c.args.place.now.scopes) (variables_in c.args.place.now.values.now) c.args.e.now _ c.in-Index.is
    (load_does (c.pointed_type-to.ensures ∙ ap pointed_type (typed (scope_of c.args.place.now.scopes) c.deref.ensures c.typing.ensures)) (c.loaded_of.ensures.goes _ _)
    (element_does (value_seen (context_in (g.C.Calls.arrays c.args.calls.now) (g.C.Calls.call c.args.calls.now) c.args.place.now.setting) (scope_of c.args.place.now.scopes) (variables_in c.args.place.now.values.now) c.deref-in-Index.ensures c.in_ok-p-in-Index.ensures.does)
    (value_seen (context_in (g.C.Calls.arrays c.args.calls.now) (g.C.Calls.call c.args.calls.now) c.args.place.now.setting) (scope_of c.args.place.now.scopes) (variables_in c.args.place.now.values.now) c.deref-in-Index-2.ensures c.evaluate-n.ensures.does) (c.element_of.ensures.goes _ _)))

pub evaluate-returns-in-Name-clause-does : goal.evaluate-returns-in-Name-clause-does
evaluate-returns-in-Name-clause-does g t c =
    value_at (context_in (g.C.Calls.arrays c.args.calls.now) (g.C.Calls.call c.args.calls.now) c.args.place.now.setting) (scope_of c.args.place.now.scopes) (variables_in c.args.place.now.values.now) c.args.e.now _ c.in-Name.is (c.value_of_name.ensures.does (g.C.Calls.arrays c.args.calls.now) (g.C.Calls.call c.args.calls.now) (g.O.Sink.state c.args.out.now))

pub evaluate-returns-in-Deref-clause-does : goal.evaluate-returns-in-Deref-clause-does
evaluate-returns-in-Deref-clause-does g t c =
    value_at (context_in (g.C.Calls.arrays c.args.calls.now) (g.C.Calls.call c.args.calls.now) c.args.place.now.setting) (scope_of c.args.place.now.scopes) (variables_in c.args.place.now.values.now) c.args.e.now _ c.in-Deref.is
    (load_does (c.pointed_type-to-in-Deref.ensures ∙ ap pointed_type (typed (scope_of c.args.place.now.scopes) c.deref-in-Deref.ensures c.typing-in-Deref.ensures)) (c.loaded_of-in-Deref.ensures.goes _ _)
    (value_seen (context_in (g.C.Calls.arrays c.args.calls.now) (g.C.Calls.call c.args.calls.now) c.args.place.now.setting) (scope_of c.args.place.now.scopes) (variables_in c.args.place.now.values.now) c.deref-in-Deref-2.ensures c.evaluate-p.ensures.does))

pub evaluate-returns-in-Unary-clause-does : goal.evaluate-returns-in-Unary-clause-does
evaluate-returns-in-Unary-clause-does g t c =
    value_at (context_in (g.C.Calls.arrays c.args.calls.now) (g.C.Calls.call c.args.calls.now) c.args.place.now.setting) (scope_of c.args.place.now.scopes) (variables_in c.args.place.now.values.now) c.args.e.now _ c.in-Unary.is
    (unary_does c.in-Unary.op (c.integer_type-s.ensures ∙ ap integer_type (typed (scope_of c.args.place.now.scopes) c.deref-in-Unary.ensures c.typing-in-Unary.ensures)) (c.unary_of.ensures.goes _ _)
    (value_seen (context_in (g.C.Calls.arrays c.args.calls.now) (g.C.Calls.call c.args.calls.now) c.args.place.now.setting) (scope_of c.args.place.now.scopes) (variables_in c.args.place.now.values.now) c.deref-in-Unary-2.ensures c.evaluate-x.ensures.does))

pub evaluate-returns-in-Cast-clause-does : goal.evaluate-returns-in-Cast-clause-does
evaluate-returns-in-Cast-clause-does g t c =
    value_at (context_in (g.C.Calls.arrays c.args.calls.now) (g.C.Calls.call c.args.calls.now) c.args.place.now.setting) (scope_of c.args.place.now.scopes) (variables_in c.args.place.now.values.now) c.args.e.now _ c.in-Cast.is
    ((c.converted_to-in-Cast.ensures.goes _ _).goes _ _ (value_seen (context_in (g.C.Calls.arrays c.args.calls.now) (g.C.Calls.call c.args.calls.now) c.args.place.now.setting) (scope_of c.args.place.now.scopes) (variables_in c.args.place.now.values.now) c.deref-in-Cast.ensures c.evaluate-x-in-Cast.ensures.does))

pub evaluate-returns-then-moves_left-clause-does : goal.evaluate-returns-then-moves_left-clause-does
evaluate-returns-then-moves_left-clause-does g t c =
    value_at (context_in (g.C.Calls.arrays c.args.calls.now) (g.C.Calls.call c.args.calls.now) c.args.place.now.setting) (scope_of c.args.place.now.scopes) (variables_in c.args.place.now.values.now) c.args.e.now _ c.in-Binary.is
    (left_moves c.in-Binary.op _ _ (left_is c.in-Binary.op (typed (scope_of c.args.place.now.scopes) c.deref-in-Binary.ensures c.typing-s.ensures) c.moves_left.ensures c.if-moves_left.true)
    (value_seen (context_in (g.C.Calls.arrays c.args.calls.now) (g.C.Calls.call c.args.calls.now) c.args.place.now.setting) (scope_of c.args.place.now.scopes) (variables_in c.args.place.now.values.now) c.deref-then-moves_left.ensures c.in_ok-p-in-Binary.ensures.does)
    (value_seen (context_in (g.C.Calls.arrays c.args.calls.now) (g.C.Calls.call c.args.calls.now) c.args.place.now.setting) (scope_of c.args.place.now.scopes) (variables_in c.args.place.now.values.now) c.deref-then-moves_left-2.ensures c.evaluate-n-then-moves_left.ensures.does) (c.moved_of.ensures.goes _ _))

pub evaluate-returns-in_err-p-in-Binary-clause-does : goal.evaluate-returns-in_err-p-in-Binary-clause-does
evaluate-returns-in_err-p-in-Binary-clause-does g t c =
    exit_does c.from_residual-in_err-p-in-Binary.result c.from_residual-in_err-p-in-Binary.ensures.1
    (value_at (context_in (g.C.Calls.arrays c.args.calls.now) (g.C.Calls.call c.args.calls.now) c.args.place.now.setting) (scope_of c.args.place.now.scopes) (variables_in c.args.place.now.values.now) c.args.e.now _ c.in-Binary.is
    (left_failed c.in-Binary.op _ _ (left_is c.in-Binary.op (typed (scope_of c.args.place.now.scopes) c.deref-in-Binary.ensures c.typing-s.ensures) c.moves_left.ensures c.if-moves_left.true) (adds_value (context_in (g.C.Calls.arrays c.args.calls.now) (g.C.Calls.call c.args.calls.now) c.args.place.now.setting) (g.met.C.Calls.adds c.args.calls.now) (scope_of c.args.place.now.scopes) (variables_in c.args.place.now.values.now) (expr_of c.in-Binary.right.value))
    (value_seen (context_in (g.C.Calls.arrays c.args.calls.now) (g.C.Calls.call c.args.calls.now) c.args.place.now.setting) (scope_of c.args.place.now.scopes) (variables_in c.args.place.now.values.now) c.deref-then-moves_left.ensures c.in_err-p-in-Binary.ensures.does)))

pub evaluate-returns-then-moves_right-clause-does : goal.evaluate-returns-then-moves_right-clause-does
evaluate-returns-then-moves_right-clause-does g t c =
    value_at (context_in (g.C.Calls.arrays c.args.calls.now) (g.C.Calls.call c.args.calls.now) c.args.place.now.setting) (scope_of c.args.place.now.scopes) (variables_in c.args.place.now.values.now) c.args.e.now _ c.in-Binary.is
    (right_moves c.in-Binary.op _ _ (left_is c.in-Binary.op (typed (scope_of c.args.place.now.scopes) c.deref-in-Binary.ensures c.typing-s.ensures) c.moves_left.ensures c.if-moves_left.false)
    (right_is c.in-Binary.op (typed (scope_of c.args.place.now.scopes) c.deref-in-Binary.ensures c.typing-s.ensures) (typed (scope_of c.args.place.now.scopes) c.deref-in-Binary-2.ensures c.typing-t.ensures) c.moves_right.ensures c.if-moves_right.true)
    (value_seen (context_in (g.C.Calls.arrays c.args.calls.now) (g.C.Calls.call c.args.calls.now) c.args.place.now.setting) (scope_of c.args.place.now.scopes) (variables_in c.args.place.now.values.now) c.deref-then-moves_right.ensures c.in_ok-p-in-Binary-2.ensures.does)
    (value_seen (context_in (g.C.Calls.arrays c.args.calls.now) (g.C.Calls.call c.args.calls.now) c.args.place.now.setting) (scope_of c.args.place.now.scopes) (variables_in c.args.place.now.values.now) c.deref-then-moves_right-2.ensures c.evaluate-n-then-moves_right.ensures.does) (c.moved_of-then-moves_right.ensures.goes _ _))

pub evaluate-returns-in_err-p-in-Binary-2-clause-does : goal.evaluate-returns-in_err-p-in-Binary-2-clause-does
evaluate-returns-in_err-p-in-Binary-2-clause-does g t c =
    exit_does c.from_residual-in_err-p-in-Binary-2.result c.from_residual-in_err-p-in-Binary-2.ensures.1
    (value_at (context_in (g.C.Calls.arrays c.args.calls.now) (g.C.Calls.call c.args.calls.now) c.args.place.now.setting) (scope_of c.args.place.now.scopes) (variables_in c.args.place.now.values.now) c.args.e.now _ c.in-Binary.is
    (right_failed c.in-Binary.op _ _ (left_is c.in-Binary.op (typed (scope_of c.args.place.now.scopes) c.deref-in-Binary.ensures c.typing-s.ensures) c.moves_left.ensures c.if-moves_left.false)
    (right_is c.in-Binary.op (typed (scope_of c.args.place.now.scopes) c.deref-in-Binary.ensures c.typing-s.ensures) (typed (scope_of c.args.place.now.scopes) c.deref-in-Binary-2.ensures c.typing-t.ensures) c.moves_right.ensures c.if-moves_right.true) (adds_value (context_in (g.C.Calls.arrays c.args.calls.now) (g.C.Calls.call c.args.calls.now) c.args.place.now.setting) (g.met.C.Calls.adds c.args.calls.now) (scope_of c.args.place.now.scopes) (variables_in c.args.place.now.values.now) (expr_of c.in-Binary.left.value))
    (value_seen (context_in (g.C.Calls.arrays c.args.calls.now) (g.C.Calls.call c.args.calls.now) c.args.place.now.setting) (scope_of c.args.place.now.scopes) (variables_in c.args.place.now.values.now) c.deref-then-moves_right.ensures c.in_err-p-in-Binary-2.ensures.does)))

pub evaluate-returns-in_err-x-in-Binary-clause-does : goal.evaluate-returns-in_err-x-in-Binary-clause-does
evaluate-returns-in_err-x-in-Binary-clause-does g t c =
    exit_does c.from_residual-in_err-x-in-Binary.result c.from_residual-in_err-x-in-Binary.ensures.1
    (value_at (context_in (g.C.Calls.arrays c.args.calls.now) (g.C.Calls.call c.args.calls.now) c.args.place.now.setting) (scope_of c.args.place.now.scopes) (variables_in c.args.place.now.values.now) c.args.e.now _ c.in-Binary.is
    (numbers_failed c.in-Binary.op _ _ (left_is c.in-Binary.op (typed (scope_of c.args.place.now.scopes) c.deref-in-Binary.ensures c.typing-s.ensures) c.moves_left.ensures c.if-moves_left.false)
    (right_is c.in-Binary.op (typed (scope_of c.args.place.now.scopes) c.deref-in-Binary.ensures c.typing-s.ensures) (typed (scope_of c.args.place.now.scopes) c.deref-in-Binary-2.ensures c.typing-t.ensures) c.moves_right.ensures c.if-moves_right.false) (adds_value (context_in (g.C.Calls.arrays c.args.calls.now) (g.C.Calls.call c.args.calls.now) c.args.place.now.setting) (g.met.C.Calls.adds c.args.calls.now) (scope_of c.args.place.now.scopes) (variables_in c.args.place.now.values.now) (expr_of c.in-Binary.right.value))
    (value_seen (context_in (g.C.Calls.arrays c.args.calls.now) (g.C.Calls.call c.args.calls.now) c.args.place.now.setting) (scope_of c.args.place.now.scopes) (variables_in c.args.place.now.values.now) c.deref-in-Binary-3.ensures c.in_err-x-in-Binary.ensures.does)))

pub evaluate-returns-in_default-clause-does : goal.evaluate-returns-in_default-clause-does
evaluate-returns-in_default-clause-does g t c =
    value_at (context_in (g.C.Calls.arrays c.args.calls.now) (g.C.Calls.call c.args.calls.now) c.args.place.now.setting) (scope_of c.args.place.now.scopes) (variables_in c.args.place.now.values.now) c.args.e.now _ c.in-Binary.is
    (numbers_both c.in-Binary.op _ _ (c.integer_type.ensures ∙ ap integer_type (typed (scope_of c.args.place.now.scopes) c.deref-in-Binary.ensures c.typing-s.ensures)) (c.integer_type-in-Binary.ensures ∙ ap integer_type (typed (scope_of c.args.place.now.scopes) c.deref-in-Binary-2.ensures c.typing-t.ensures))
    (left_is c.in-Binary.op (typed (scope_of c.args.place.now.scopes) c.deref-in-Binary.ensures c.typing-s.ensures) c.moves_left.ensures c.if-moves_left.false)
    (right_is c.in-Binary.op (typed (scope_of c.args.place.now.scopes) c.deref-in-Binary.ensures c.typing-s.ensures) (typed (scope_of c.args.place.now.scopes) c.deref-in-Binary-2.ensures c.typing-t.ensures) c.moves_right.ensures c.if-moves_right.false) (sym (ap (option_map datum_of) c.in_default.is) ∙ c.decided.ensures.value)
    (value_seen (context_in (g.C.Calls.arrays c.args.calls.now) (g.C.Calls.call c.args.calls.now) c.args.place.now.setting) (scope_of c.args.place.now.scopes) (variables_in c.args.place.now.values.now) c.deref-in-Binary-3.ensures c.in_ok-x-in-Binary.ensures.does)
    (value_seen (context_in (g.C.Calls.arrays c.args.calls.now) (g.C.Calls.call c.args.calls.now) c.args.place.now.setting) (scope_of c.args.place.now.scopes) (variables_in c.args.place.now.values.now) c.deref-in-Binary-4.ensures c.evaluate-y.ensures.does) (c.binary_of.ensures.goes _ _))

pub evaluate-returns-then-is_on-clause-does : goal.evaluate-returns-then-is_on-clause-does
evaluate-returns-then-is_on-clause-does g t c =
    value_at (context_in (g.C.Calls.arrays c.args.calls.now) (g.C.Calls.call c.args.calls.now) c.args.place.now.setting) (scope_of c.args.place.now.scopes) (variables_in c.args.place.now.values.now) c.args.e.now _ c.in-Cond.is
    (first_does _ (common_is (c.integer_type-s-in-Cond.ensures ∙ ap integer_type (typed (scope_of c.args.place.now.scopes) c.deref-in-Cond.ensures c.typing-in-Cond.ensures)) (c.integer_type-t.ensures ∙ ap integer_type (typed (scope_of c.args.place.now.scopes) c.deref-in-Cond-2.ensures c.typing-in-Cond-2.ensures)) c.common.ensures) (on_is c.number_in.ensures.number c.is_on.ensures c.if-is_on.true)
    (value_seen (context_in (g.C.Calls.arrays c.args.calls.now) (g.C.Calls.call c.args.calls.now) c.args.place.now.setting) (scope_of c.args.place.now.scopes) (variables_in c.args.place.now.values.now) c.deref-in-Cond-3.ensures c.in_ok-test-in-Cond.ensures.does)
    (value_seen (context_in (g.C.Calls.arrays c.args.calls.now) (g.C.Calls.call c.args.calls.now) c.args.place.now.setting) (scope_of c.args.place.now.scopes) (variables_in c.args.place.now.values.now) c.deref-then-is_on.ensures c.evaluate-x-then-is_on.ensures.does) (c.converted_to.ensures.goes _ _))

pub evaluate-returns-else-is_on-clause-does : goal.evaluate-returns-else-is_on-clause-does
evaluate-returns-else-is_on-clause-does g t c =
    value_at (context_in (g.C.Calls.arrays c.args.calls.now) (g.C.Calls.call c.args.calls.now) c.args.place.now.setting) (scope_of c.args.place.now.scopes) (variables_in c.args.place.now.values.now) c.args.e.now _ c.in-Cond.is
    (second_does _ (common_is (c.integer_type-s-in-Cond.ensures ∙ ap integer_type (typed (scope_of c.args.place.now.scopes) c.deref-in-Cond.ensures c.typing-in-Cond.ensures)) (c.integer_type-t.ensures ∙ ap integer_type (typed (scope_of c.args.place.now.scopes) c.deref-in-Cond-2.ensures c.typing-in-Cond-2.ensures)) c.common-in-Cond.ensures) (on_is c.number_in.ensures.number c.is_on.ensures c.if-is_on.false)
    (value_seen (context_in (g.C.Calls.arrays c.args.calls.now) (g.C.Calls.call c.args.calls.now) c.args.place.now.setting) (scope_of c.args.place.now.scopes) (variables_in c.args.place.now.values.now) c.deref-in-Cond-3.ensures c.in_ok-test-in-Cond.ensures.does)
    (value_seen (context_in (g.C.Calls.arrays c.args.calls.now) (g.C.Calls.call c.args.calls.now) c.args.place.now.setting) (scope_of c.args.place.now.scopes) (variables_in c.args.place.now.values.now) c.deref-in-Cond-4.ensures c.evaluate-x-in-Cond.ensures.does) (c.converted_to-in-Cond.ensures.goes _ _))

pub evaluate-returns-in_err-test-in-Cond-clause-does : goal.evaluate-returns-in_err-test-in-Cond-clause-does
evaluate-returns-in_err-test-in-Cond-clause-does g t c =
    exit_does c.from_residual-in_err-test-in-Cond.result c.from_residual-in_err-test-in-Cond.ensures.1
    (value_at (context_in (g.C.Calls.arrays c.args.calls.now) (g.C.Calls.call c.args.calls.now) c.args.place.now.setting) (scope_of c.args.place.now.scopes) (variables_in c.args.place.now.values.now) c.args.e.now _ c.in-Cond.is
    (choice_failed _ (adds_value (context_in (g.C.Calls.arrays c.args.calls.now) (g.C.Calls.call c.args.calls.now) c.args.place.now.setting) (g.met.C.Calls.adds c.args.calls.now) (scope_of c.args.place.now.scopes) (variables_in c.args.place.now.values.now) (expr_of c.in-Cond.first.value)) (adds_value (context_in (g.C.Calls.arrays c.args.calls.now) (g.C.Calls.call c.args.calls.now) c.args.place.now.setting) (g.met.C.Calls.adds c.args.calls.now) (scope_of c.args.place.now.scopes) (variables_in c.args.place.now.values.now) (expr_of c.in-Cond.second.value))
    (value_seen (context_in (g.C.Calls.arrays c.args.calls.now) (g.C.Calls.call c.args.calls.now) c.args.place.now.setting) (scope_of c.args.place.now.scopes) (variables_in c.args.place.now.values.now) c.deref-in-Cond-3.ensures c.in_err-test-in-Cond.ensures.does)))

pub evaluate-returns-in_err-evaluate_arguments-in-Call-clause-does : goal.evaluate-returns-in_err-evaluate_arguments-in-Call-clause-does
evaluate-returns-in_err-evaluate_arguments-in-Call-clause-does g t c =
    exit_does c.from_residual-in_err-evaluate_arguments-in-Call.result c.from_residual-in_err-evaluate_arguments-in-Call.ensures.1
    (value_at (context_in (g.C.Calls.arrays c.args.calls.now) (g.C.Calls.call c.args.calls.now) c.args.place.now.setting) (scope_of c.args.place.now.scopes) (variables_in c.args.place.now.values.now) c.args.e.now _ c.in-Call.is
    (call_at (context_in (g.C.Calls.arrays c.args.calls.now) (g.C.Calls.call c.args.calls.now) c.args.place.now.setting) (scope_of c.args.place.now.scopes) (variables_in c.args.place.now.values.now) c.in-Call.id c.args.e.now.line c.args.e.now.token c.in-Call.arguments
    ((none_behind (context_in (g.C.Calls.arrays c.args.calls.now) (g.C.Calls.call c.args.calls.now) c.args.place.now.setting) (scope_of c.args.place.now.scopes) (variables_in c.args.place.now.values.now) c.new-values.ensures.items c.deref-in-Call.ensures.value c.meaning-known.ensures c.in_err-evaluate_arguments-in-Call.ensures.does).passes (g.C.Calls.call c.args.calls.now c.in-Call.id) ((g.met.C.Calls.adds c.args.calls.now) c.in-Call.id))))

pub evaluate-returns-in_ok-evaluate_arguments-in-Call-clause-does : goal.evaluate-returns-in_ok-evaluate_arguments-in-Call-clause-does
evaluate-returns-in_ok-evaluate_arguments-in-Call-clause-does g t c =
    value_at (context_in (g.C.Calls.arrays c.args.calls.now) (g.C.Calls.call c.args.calls.now) c.args.place.now.setting) (scope_of c.args.place.now.scopes) (variables_in c.args.place.now.values.now) c.args.e.now _ c.in-Call.is
    (call_at (context_in (g.C.Calls.arrays c.args.calls.now) (g.C.Calls.call c.args.calls.now) c.args.place.now.setting) (scope_of c.args.place.now.scopes) (variables_in c.args.place.now.values.now) c.in-Call.id c.args.e.now.line c.args.e.now.token c.in-Call.arguments
    ((none_behind (context_in (g.C.Calls.arrays c.args.calls.now) (g.C.Calls.call c.args.calls.now) c.args.place.now.setting) (scope_of c.args.place.now.scopes) (variables_in c.args.place.now.values.now) c.new-values.ensures.items c.deref-in-Call.ensures.value c.meaning-known.ensures c.in_ok-evaluate_arguments-in-Call.ensures.does).passes (g.C.Calls.call c.args.calls.now c.in-Call.id) ((g.met.C.Calls.adds c.args.calls.now) c.in-Call.id) _ _
    (given_seen (g.C.Calls.call c.args.calls.now c.in-Call.id) c.deref-in-Call-2.ensures.value c.call.ensures.does)))

pub evaluate_arguments-loop-e-init : goal.evaluate_arguments-loop-e-init
evaluate_arguments-loop-e-init g t c =
    passing_start (context_in (g.C.Calls.arrays c.args.calls.now) (g.C.Calls.call c.args.calls.now) c.args.place.now.setting) (scope_of c.args.place.now.scopes) (variables_in c.args.place.now.values.now) (wanted_types (meaning_seen c.args.known.now)) c.args.arguments.now _ _ c.requires.words c.requires.before

pub evaluate_arguments-loop-e-preserved : goal.evaluate_arguments-loop-e-preserved
evaluate_arguments-loop-e-preserved g t c =
    passing_step (context_in (g.C.Calls.arrays c.args.calls.now) (g.C.Calls.call c.args.calls.now) c.args.place.now.setting) (scope_of c.args.place.now.scopes) (variables_in c.args.place.now.values.now) (wanted_types (meaning_seen c.args.known.now)) c.args.arguments.now c.loop-e.invariant c.loop-e-test.true c.e-item.is c.in_ok-value.ensures.does c.evaluate.ensures.words c.in_ok-add_argument.ensures.held
    c.in_ok-add_argument.ensures.count c.in_ok-add_argument.ensures.added

pub evaluate_arguments-returns-in_err-value-clause-does : goal.evaluate_arguments-returns-in_err-value-clause-does
evaluate_arguments-returns-in_err-value-clause-does g t c =
    exit_passed c.from_residual.result c.from_residual.ensures.1
    (passing_halted (context_in (g.C.Calls.arrays c.args.calls.now) (g.C.Calls.call c.args.calls.now) c.args.place.now.setting) (scope_of c.args.place.now.scopes) (variables_in c.args.place.now.values.now) (wanted_types (meaning_seen c.args.known.now)) c.args.arguments.now c.loop-e.invariant c.loop-e-test.true c.e-item.is (g.met.C.Calls.adds c.args.calls.now) _ c.in_err-value.ensures.does)

pub evaluate_arguments-returns-in_err-add_argument-clause-does : goal.evaluate_arguments-returns-in_err-add_argument-clause-does
evaluate_arguments-returns-in_err-add_argument-clause-does g t c =
    exit_passed c.from_residual-in_err-add_argument.result c.from_residual-in_err-add_argument.ensures.1
    (passing_wanted (context_in (g.C.Calls.arrays c.args.calls.now) (g.C.Calls.call c.args.calls.now) c.args.place.now.setting) (scope_of c.args.place.now.scopes) (variables_in c.args.place.now.values.now) (wanted_types (meaning_seen c.args.known.now)) c.args.arguments.now c.loop-e.invariant c.loop-e-test.true c.e-item.is (g.met.C.Calls.adds c.args.calls.now) _ c.in_err-add_argument.ensures.memory c.in_ok-value.ensures.does)

pub evaluate_arguments-returns-clause-does : goal.evaluate_arguments-returns-clause-does
evaluate_arguments-returns-clause-does g t c =
    passing_end (context_in (g.C.Calls.arrays c.args.calls.now) (g.C.Calls.call c.args.calls.now) c.args.place.now.setting) (scope_of c.args.place.now.scopes) (variables_in c.args.place.now.values.now) (wanted_types (meaning_seen c.args.known.now)) c.args.arguments.now c.loop-e.invariant c.loop-e-test.false
