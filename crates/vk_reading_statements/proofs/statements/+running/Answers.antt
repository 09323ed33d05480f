use Rattle.std.proofs.Common.{◌≡◌, ℕ, suc, ◌+◌, ◌-◌, List, Option, length, take, true, false, refl, sym, ap, subst, ◌∙◌, arith, rules}
use Rattle.vk_ast.specs.declared.statements.Stmt.{Stmt}
use Rattle.vk_ast.specs.declared.statements.StmtKind.{StmtKind, back-StmtKind-If-2}
use Rattle.std.specs.Option.{option_map}
use Rattle.vk_ast.specs.Tree.{expr_of}
use Rattle.vk_ast.specs.declared.statements.StmtKind.TheVariants.{If}
use Rattle.vk_ast.proofs.Rows.{block_seen}
use Rattle.vk_ast.specs.Statements.{list_stmts, stmt_kind_of, stmt_of}
use Rattle.vk_rules_book.specs.declared.contexts.Binding.{Binding}
use Rattle.vk_rules_names.specs.Seen.{scope_at}
use Rattle.vk_meaning.specs.Expressions.{Context}
use Rattle.vk_meaning.specs.Statements.{broke, condition_of, continued, repeat, run, run_all, run_simd, turns}
use Rattle.vk_reading_steps.specs.Settings.{AreHeld}
use Rattle.vk_reading_statements.specs.declared.flow.Flow.TheVariants.{Broke, Continued}
use Rattle.vk_reading_statements.specs.Loops.{test_in, turn_of}
use Rattle.vk_reading_statements.specs.Places.{context_at, point_in, scope_in}
use Rattle.vk_reading_statements.proofs.Constructs.{none_taken, second_taken, same_effect, same_values, while_halted, while_off, while_on}
use Rattle.vk_reading_statements.proofs.Exits.{exit_acts}
use Rattle.vk_reading_statements.proofs.Flowing.{acts_ended, goes_on, jumps, leads_itself}
use Rattle.vk_reading_statements.proofs.Shaped.{behind_block, block_apart, block_shared, bound_halted, for_done, for_halted, if_halted, if_taken, simd_done, simd_halted}
use Rattle.vk_reading_statements.proofs.Turning.{for_body_halted, for_body_left, for_third_run, next_test_halted, next_test_off, next_test_on, next_turn_halted, next_turn_left, no_turn_left}
use Rattle.vk_reading_statements.proofs.Sequence.{all_done, fell_if, kept, kept_further, next_fell, next_halted, next_jumped, next_scope, whole_list}
use Rattle.std.proofs.lemmas.List.{take_all}
use Rattle.std.proofs.lemmas.Result.{IfOk-weaker, on_ok_weaker}
use Rattle.vk_rules_book.specs.Visits.{after, after_all}
use Rattle.vk_meaning.specs.Points.{Point, loops_in}
use Rattle.vk_reading_statements.proofs.statements.+running.Goals as goal

pub run_apart-returns-in_err-flow-clause-acts : goal.run_apart-returns-in_err-flow-clause-acts
run_apart-returns-in_err-flow-clause-acts g t c loops = exit_acts c.from_residual.result c.from_residual.ensures.1 (c.in_err-flow.ensures.acts loops)

pub run_apart-returns-clause-acts : goal.run_apart-returns-clause-acts
run_apart-returns-clause-acts g t c loops = same_values c.cut.ensures.values (c.in_ok-flow.ensures.acts loops)

pub run_apart-returns-clause-same : goal.run_apart-returns-clause-same
run_apart-returns-clause-same g t c =
    let mark : c.len-mark.result ≡ length c.args.locals.now.bindings.items = search rules in
    c.cut.ensures.bindings ∙ ap (λ (n : ℕ). take n c.run_stmt.new.locals.bindings.items) mark ∙ c.in_ok-flow.ensures.visible

pub run_apart-returns-clause-held : goal.run_apart-returns-clause-held
run_apart-returns-clause-held g t c = subst AreHeld (sym c.cut.ensures.values) c.in_ok-flow.ensures.held

pub run_inside-returns-clause-acts : goal.run_inside-returns-clause-acts
run_inside-returns-clause-acts g t c loops =
    let mark : c.len-outer.result ≡ length c.args.locals.now.bindings.items = search rules in
    same_effect (ap (λ (n : ℕ). run (context_at (g.C.Calls.arrays c.args.calls.now) (g.C.Calls.call c.args.calls.now) c.args.body.now) (point_in c.args.body.now c.args.locals.now n false loops) (stmt_of c.args.s.now)) mark) (c.run_apart.ensures.acts loops)

pub run_block-returns-in_err-flow-clause-acts : goal.run_block-returns-in_err-flow-clause-acts
run_block-returns-in_err-flow-clause-acts g t c loops =
    let mark : c.len-mark.result ≡ length c.args.locals.now.bindings.items = search rules in
    exit_acts c.from_residual.result c.from_residual.ensures.1 (same_effect (ap (λ (n : ℕ). run_all (context_at (g.C.Calls.arrays c.args.calls.now) (g.C.Calls.call c.args.calls.now) c.args.body.now) (point_in c.args.body.now c.args.locals.now n false loops) (list_stmts c.args.ss.now)) mark) (c.in_err-flow.ensures.acts loops))

pub run_block-returns-clause-acts : goal.run_block-returns-clause-acts
run_block-returns-clause-acts g t c loops =
    let mark : c.len-mark.result ≡ length c.args.locals.now.bindings.items = search rules in
    same_values c.cut.ensures.values (same_effect (ap (λ (n : ℕ). run_all (context_at (g.C.Calls.arrays c.args.calls.now) (g.C.Calls.call c.args.calls.now) c.args.body.now) (point_in c.args.body.now c.args.locals.now n false loops) (list_stmts c.args.ss.now)) mark) (c.in_ok-flow.ensures.acts loops))

pub run_block-returns-clause-same : goal.run_block-returns-clause-same
run_block-returns-clause-same g t c =
    let mark : c.len-mark.result ≡ length c.args.locals.now.bindings.items = search rules in
    c.cut.ensures.bindings ∙ ap (λ (n : ℕ). take n c.run_all.new.locals.bindings.items) mark ∙ c.in_ok-flow.ensures.visible

pub run_block-returns-clause-held : goal.run_block-returns-clause-held
run_block-returns-clause-held g t c = subst AreHeld (sym c.cut.ensures.values) c.in_ok-flow.ensures.held

pub run_turn-returns-in-While-clause-acts : goal.run_turn-returns-in-While-clause-acts
run_turn-returns-in-While-clause-acts g t c loops =
    let context : Context = context_at (g.C.Calls.arrays c.args.calls.now) (g.C.Calls.call c.args.calls.now) c.args.body.now in
    let d : c.deref.result.now ≡ c.in-While.stmt.value = search rules in
    same_effect (ap (λ (s : Stmt). run context (point_in c.args.body.now c.args.locals.now (length c.args.locals.now.bindings.items) false loops) (stmt_of s)) d
    ∙ ap (λ (k : StmtKind). turn_of context (point_in c.args.body.now c.args.locals.now c.args.outer false loops) (stmt_kind_of k c.args.s.now.line c.args.s.now.token)) (sym c.in-While.is)) (c.run_inside.ensures.acts loops)

pub run_turn-returns-in-Do-clause-acts : goal.run_turn-returns-in-Do-clause-acts
run_turn-returns-in-Do-clause-acts g t c loops =
    let context : Context = context_at (g.C.Calls.arrays c.args.calls.now) (g.C.Calls.call c.args.calls.now) c.args.body.now in
    let d : c.deref-in-Do.result.now ≡ c.in-Do.stmt.value = search rules in
    same_effect (ap (λ (s : Stmt). run context (point_in c.args.body.now c.args.locals.now (length c.args.locals.now.bindings.items) false loops) (stmt_of s)) d
    ∙ ap (λ (k : StmtKind). turn_of context (point_in c.args.body.now c.args.locals.now c.args.outer false loops) (stmt_kind_of k c.args.s.now.line c.args.s.now.token)) (sym c.in-Do.is)) (c.run_inside-in-Do.ensures.acts loops)

pub run_turn-returns-in_err-flow-in-For-clause-acts : goal.run_turn-returns-in_err-flow-in-For-clause-acts
run_turn-returns-in_err-flow-in-For-clause-acts g t c loops =
    let context : Context = context_at (g.C.Calls.arrays c.args.calls.now) (g.C.Calls.call c.args.calls.now) c.args.body.now in
    let point : Point = point_in c.args.body.now c.args.locals.now c.args.outer false loops in
    let d : c.deref-in-For.result.now ≡ c.in-For.stmt.value = search rules in
    exit_acts c.from_residual.result c.from_residual.ensures.1 (for_body_halted context (g.met.C.Calls.adds c.args.calls.now) point (stmt_of c.args.s.now) c.args.s.now.line c.args.s.now.token (stmt_of c.in-For.field-0.value) (stmt_of c.in-For.third.value) (stmt_of c.in-For.stmt.value) (option_map expr_of c.in-For.field-1) (ap (λ (k : StmtKind). stmt_kind_of k c.args.s.now.line c.args.s.now.token) c.in-For.is) (stmt_of c.deref-in-For.result.now) (ap stmt_of d) (c.in_err-flow-in-For.ensures.acts loops))

pub run_turn-returns-then-leaves_loop-clause-acts : goal.run_turn-returns-then-leaves_loop-clause-acts
run_turn-returns-then-leaves_loop-clause-acts g t c loops =
    let context : Context = context_at (g.C.Calls.arrays c.args.calls.now) (g.C.Calls.call c.args.calls.now) c.args.body.now in
    let point : Point = point_in c.args.body.now c.args.locals.now c.args.outer false loops in
    let d : c.deref-in-For.result.now ≡ c.in-For.stmt.value = search rules in
    for_body_left context (g.met.C.Calls.adds c.args.calls.now) point (stmt_of c.args.s.now) c.args.s.now.line c.args.s.now.token (stmt_of c.in-For.field-0.value) (stmt_of c.in-For.third.value) (stmt_of c.in-For.stmt.value) (option_map expr_of c.in-For.field-1) (ap (λ (k : StmtKind). stmt_kind_of k c.args.s.now.line c.args.s.now.token) c.in-For.is) (stmt_of c.deref-in-For.result.now) (ap stmt_of d) c.in_ok-flow-in-For.flow (c.in_ok-flow-in-For.ensures.acts loops) (sym c.if-leaves_loop.ensures)

pub run_turn-returns-else-leaves_loop-clause-acts : goal.run_turn-returns-else-leaves_loop-clause-acts
run_turn-returns-else-leaves_loop-clause-acts g t c loops =
    let context : Context = context_at (g.C.Calls.arrays c.args.calls.now) (g.C.Calls.call c.args.calls.now) c.args.body.now in
    let point : Point = point_in c.args.body.now c.args.locals.now c.args.outer false loops in
    let d : c.deref-in-For.result.now ≡ c.in-For.stmt.value = search rules in
    let e : c.deref-in-For-2.result.now ≡ c.in-For.third.value = search rules in
    for_third_run context (g.met.C.Calls.adds c.args.calls.now) point (stmt_of c.args.s.now) c.args.s.now.line c.args.s.now.token (stmt_of c.in-For.field-0.value) (stmt_of c.in-For.third.value) (stmt_of c.in-For.stmt.value) (option_map expr_of c.in-For.field-1) (ap (λ (k : StmtKind). stmt_kind_of k c.args.s.now.line c.args.s.now.token) c.in-For.is) (stmt_of c.deref-in-For.result.now) (ap stmt_of d) c.in_ok-flow-in-For.flow (c.in_ok-flow-in-For.ensures.acts loops) (sym c.if-leaves_loop.ensures) (point_in c.args.body.now c.run_inside-in-For.new.locals c.args.outer false loops) (ap (λ (bs : List Binding). record { scope = scope_at c.args.body.now.file bs c.args.outer; shares = false; loops = loops }) c.in_ok-flow-in-For.ensures.same) (stmt_of c.deref-in-For-2.result.now) (ap stmt_of e) (c.run_apart.ensures.acts loops)

pub run_while-returns-in_err-test-clause-acts : goal.run_while-returns-in_err-test-clause-acts
run_while-returns-in_err-test-clause-acts g t c loops = exit_acts c.from_residual.result c.from_residual.ensures.1 (while_halted (context_at (g.C.Calls.arrays c.args.calls.now) (g.C.Calls.call c.args.calls.now) c.args.body.now) (g.met.C.Calls.adds c.args.calls.now) (point_in c.args.body.now c.args.locals.now c.args.outer false loops) (stmt_of c.args.s.now) c.in_err-test.ensures.decides)

pub run_rounds-returns-then-is_jump-clause-acts : goal.run_rounds-returns-then-is_jump-clause-acts
run_rounds-returns-then-is_jump-clause-acts g t c loops = jumps _ _ _ c.args.flow (sym c.if-is_jump.ensures)

pub run_turns-returns-in_err-flow-clause-acts : goal.run_turns-returns-in_err-flow-clause-acts
run_turns-returns-in_err-flow-clause-acts g t c loops =
    let context : Context = context_at (g.C.Calls.arrays c.args.calls.now) (g.C.Calls.call c.args.calls.now) c.args.body.now in
    let point : Point = point_in c.args.body.now c.args.locals.now c.args.outer false loops in
    let up : c.loop-left.left ≡ suc (c.loop-left.left - 1) = omega (arith, c.loop-left-test.true) in
    exit_acts c.from_residual.result c.from_residual.ensures.1 (next_turn_halted context (g.met.C.Calls.adds c.args.calls.now) point (point_in c.args.body.now c.loop-left.locals c.args.outer false loops) (ap (λ (bs : List Binding). record { scope = scope_at c.args.body.now.file bs c.args.outer; shares = false; loops = loops }) c.loop-left.invariant.same) (stmt_of c.args.s.now) c.loop-left.left up (c.loop-left.invariant.leads loops) (c.in_err-flow.ensures.acts loops))

pub run_turns-returns-then-leaves_loop-clause-acts : goal.run_turns-returns-then-leaves_loop-clause-acts
run_turns-returns-then-leaves_loop-clause-acts g t c loops =
    let context : Context = context_at (g.C.Calls.arrays c.args.calls.now) (g.C.Calls.call c.args.calls.now) c.args.body.now in
    let point : Point = point_in c.args.body.now c.args.locals.now c.args.outer false loops in
    let up : c.loop-left.left ≡ suc (c.loop-left.left - 1) = omega (arith, c.loop-left-test.true) in
    next_turn_left context (g.met.C.Calls.adds c.args.calls.now) point (point_in c.args.body.now c.loop-left.locals c.args.outer false loops) (ap (λ (bs : List Binding). record { scope = scope_at c.args.body.now.file bs c.args.outer; shares = false; loops = loops }) c.loop-left.invariant.same) (stmt_of c.args.s.now) c.loop-left.left up (c.loop-left.invariant.leads loops) c.in_ok-flow.flow c.behind_loop.result c.behind_loop.ensures (c.in_ok-flow.ensures.acts loops) (sym c.if-leaves_loop.ensures)

pub run_turns-returns-in_err-test-clause-acts : goal.run_turns-returns-in_err-test-clause-acts
run_turns-returns-in_err-test-clause-acts g t c loops =
    let context : Context = context_at (g.C.Calls.arrays c.args.calls.now) (g.C.Calls.call c.args.calls.now) c.args.body.now in
    let point : Point = point_in c.args.body.now c.args.locals.now c.args.outer false loops in
    let up : c.loop-left.left ≡ suc (c.loop-left.left - 1) = omega (arith, c.loop-left-test.true) in
    exit_acts c.from_residual-in_err-test.result c.from_residual-in_err-test.ensures.1 (next_test_halted context (g.met.C.Calls.adds c.args.calls.now) point (point_in c.args.body.now c.loop-left.locals c.args.outer false loops) (ap (λ (bs : List Binding). record { scope = scope_at c.args.body.now.file bs c.args.outer; shares = false; loops = loops }) c.loop-left.invariant.same) (stmt_of c.args.s.now) c.loop-left.left up (c.loop-left.invariant.leads loops) c.in_ok-flow.flow (c.in_ok-flow.ensures.acts loops) (sym c.if-leaves_loop.ensures) (point_in c.args.body.now c.run_turn.new.locals c.args.outer false loops) (ap (λ (bs : List Binding). record { scope = scope_at c.args.body.now.file bs c.args.outer; shares = false; loops = loops }) (c.in_ok-flow.ensures.same ∙ c.loop-left.invariant.same)) c.in_err-test.ensures.decides)

pub run_turns-returns-clause-acts : goal.run_turns-returns-clause-acts
run_turns-returns-clause-acts g t c loops =
    let context : Context = context_at (g.C.Calls.arrays c.args.calls.now) (g.C.Calls.call c.args.calls.now) c.args.body.now in
    let point : Point = point_in c.args.body.now c.args.locals.now c.args.outer false loops in
    let none : c.loop-left.left ≡ 0 = omega (arith, c.loop-left-test.false) in
    no_turn_left context (g.met.C.Calls.adds c.args.calls.now) point (stmt_of c.args.s.now) c.loop-left.left none (c.loop-left.invariant.leads loops)

pub run_all-returns-in_err-flow-clause-acts : goal.run_all-returns-in_err-flow-clause-acts
run_all-returns-in_err-flow-clause-acts g t c loops =
    let h = c.loop-s.invariant.leads loops in
    exit_acts c.from_residual.result c.from_residual.ensures.1 (next_halted (context_at (g.C.Calls.arrays c.args.calls.now) (g.C.Calls.call c.args.calls.now) c.args.body.now) (g.met.C.Calls.adds c.args.calls.now) (scope_in c.args.body.now c.loop-s.locals c.args.outer) h.0 c.args.ss.now c.loop-s.s-index _ c.loop-s-test.true c.s-item.is h.1 (c.in_err-flow.ensures.acts h.0))

pub run_all-returns-then-is_jump-clause-acts : goal.run_all-returns-then-is_jump-clause-acts
run_all-returns-then-is_jump-clause-acts g t c loops =
    let h = c.loop-s.invariant.leads loops in
    next_jumped (context_at (g.C.Calls.arrays c.args.calls.now) (g.C.Calls.call c.args.calls.now) c.args.body.now) (g.met.C.Calls.adds c.args.calls.now) (scope_in c.args.body.now c.loop-s.locals c.args.outer) h.0 c.args.ss.now c.loop-s.s-index _ c.loop-s-test.true c.s-item.is h.1 c.in_ok-flow.flow (c.in_ok-flow.ensures.acts h.0) (sym c.if-is_jump.ensures)

pub run_all-returns-clause-acts : goal.run_all-returns-clause-acts
run_all-returns-clause-acts g t c loops =
    let h = c.loop-s.invariant.leads loops in
    all_done (context_at (g.C.Calls.arrays c.args.calls.now) (g.C.Calls.call c.args.calls.now) c.args.body.now) (g.met.C.Calls.adds c.args.calls.now) (scope_in c.args.body.now c.loop-s.locals c.args.outer) h.0 c.args.ss.now c.loop-s.s-index c.loop-s-test.false h.1

pub run_all-returns-clause-scope : goal.run_all-returns-clause-scope
run_all-returns-clause-scope g t c e = c.loop-s.invariant.scope ∙ ap (λ (xs : List Stmt). after_all (scope_in c.args.body.now c.args.locals.now c.args.outer) (list_stmts xs)) (take_all c.loop-s.s-index c.args.ss.now c.loop-s-test.false)

pub run_simd-returns-in_err-flow-in-For-clause-acts : goal.run_simd-returns-in_err-flow-in-For-clause-acts
run_simd-returns-in_err-flow-in-For-clause-acts g t c loops =
    let mark : c.len-mark.result ≡ length c.args.locals.now.bindings.items = search rules in
    let d : c.deref.result.now ≡ c.in-For.first.value = search rules in
    exit_acts c.from_residual.result c.from_residual.ensures.1 (simd_halted (context_at (g.C.Calls.arrays c.args.calls.now) (g.C.Calls.call c.args.calls.now) c.args.body.now) (g.met.C.Calls.adds c.args.calls.now) (point_in c.args.body.now c.args.locals.now (length c.args.locals.now.bindings.items) false loops) (stmt_of c.args.s.now) c.args.s.now.line c.args.s.now.token (stmt_of c.in-For.first.value) (stmt_of c.in-For.field-2.value) (stmt_of c.in-For.field-3.value) (option_map expr_of c.in-For.test) (ap (λ (k : StmtKind). stmt_kind_of k c.args.s.now.line c.args.s.now.token) c.in-For.is) (point_in c.args.body.now c.args.locals.now c.len-mark.result true loops) (ap (λ (n : ℕ). point_in c.args.body.now c.args.locals.now n true loops) mark) (stmt_of c.deref.result.now) (ap stmt_of d) (c.in_err-flow-in-For.ensures.acts loops))

pub run_simd-returns-in_err-end-in-For-clause-acts : goal.run_simd-returns-in_err-end-in-For-clause-acts
run_simd-returns-in_err-end-in-For-clause-acts g t c loops =
    let point : Point = point_in c.args.body.now c.args.locals.now (length c.args.locals.now.bindings.items) false loops in
    let mark : c.len-mark.result ≡ length c.args.locals.now.bindings.items = search rules in
    let d : c.deref.result.now ≡ c.in-For.first.value = search rules in
    let y : c.deref-in-For.result.now ≡ c.in-For.first.value = search rules in
    exit_acts c.from_residual-in_err-end-in-For.result c.from_residual-in_err-end-in-For.ensures.1 (simd_done (context_at (g.C.Calls.arrays c.args.calls.now) (g.C.Calls.call c.args.calls.now) c.args.body.now) (g.met.C.Calls.adds c.args.calls.now) point (stmt_of c.args.s.now) c.args.s.now.line c.args.s.now.token (stmt_of c.in-For.first.value) (stmt_of c.in-For.field-2.value) (stmt_of c.in-For.field-3.value) (option_map expr_of c.in-For.test) (ap (λ (k : StmtKind). stmt_kind_of k c.args.s.now.line c.args.s.now.token) c.in-For.is) (point_in c.args.body.now c.args.locals.now c.len-mark.result true loops) (ap (λ (n : ℕ). point_in c.args.body.now c.args.locals.now n true loops) mark) (stmt_of c.deref.result.now) (ap stmt_of d) c.in_ok-flow-in-For.flow (scope_in c.args.body.now c.run_stmt.new.locals c.len-mark.result) c.in_ok-flow-in-For.ensures.scope (c.in_ok-flow-in-For.ensures.acts loops) (stmt_of c.deref-in-For.result.now) (ap stmt_of y) c.in_ok-flow-in-For-2.flow c.in_ok-flow-in-For-2.ensures.flow (c.in_ok-flow-in-For-2.ensures.acts point (loops + loops_in (stmt_of c.in-For.first.value)) (stmt_of c.in-For.field-3.value)) (c.in_err-end-in-For.ensures.acts (loops + loops_in (stmt_of c.in-For.first.value))))

pub run_simd-returns-in_ok-end-in-For-clause-acts : goal.run_simd-returns-in_ok-end-in-For-clause-acts
run_simd-returns-in_ok-end-in-For-clause-acts g t c loops =
    let point : Point = point_in c.args.body.now c.args.locals.now (length c.args.locals.now.bindings.items) false loops in
    let mark : c.len-mark.result ≡ length c.args.locals.now.bindings.items = search rules in
    let d : c.deref.result.now ≡ c.in-For.first.value = search rules in
    let y : c.deref-in-For.result.now ≡ c.in-For.first.value = search rules in
    same_values c.cut.ensures.values (simd_done (context_at (g.C.Calls.arrays c.args.calls.now) (g.C.Calls.call c.args.calls.now) c.args.body.now) (g.met.C.Calls.adds c.args.calls.now) point (stmt_of c.args.s.now) c.args.s.now.line c.args.s.now.token (stmt_of c.in-For.first.value) (stmt_of c.in-For.field-2.value) (stmt_of c.in-For.field-3.value) (option_map expr_of c.in-For.test) (ap (λ (k : StmtKind). stmt_kind_of k c.args.s.now.line c.args.s.now.token) c.in-For.is) (point_in c.args.body.now c.args.locals.now c.len-mark.result true loops) (ap (λ (n : ℕ). point_in c.args.body.now c.args.locals.now n true loops) mark) (stmt_of c.deref.result.now) (ap stmt_of d) c.in_ok-flow-in-For.flow (scope_in c.args.body.now c.run_stmt.new.locals c.len-mark.result) c.in_ok-flow-in-For.ensures.scope (c.in_ok-flow-in-For.ensures.acts loops) (stmt_of c.deref-in-For.result.now) (ap stmt_of y) c.in_ok-flow-in-For-2.flow c.in_ok-flow-in-For-2.ensures.flow (c.in_ok-flow-in-For-2.ensures.acts point (loops + loops_in (stmt_of c.in-For.first.value)) (stmt_of c.in-For.field-3.value)) (c.in_ok-end-in-For.ensures.acts (loops + loops_in (stmt_of c.in-For.first.value))))

pub run_simd-returns-in_ok-end-in-For-clause-same : goal.run_simd-returns-in_ok-end-in-For-clause-same
run_simd-returns-in_ok-end-in-For-clause-same g t c =
    let mark : c.len-mark.result ≡ length c.args.locals.now.bindings.items = search rules in
    c.cut.ensures.bindings ∙ (λ i. take (mark i) (c.in_ok-end-in-For.ensures.same i)) ∙ c.in_ok-flow-in-For.ensures.visible

pub run_stmt-returns-then-shares-clause-acts : goal.run_stmt-returns-then-shares-clause-acts
run_stmt-returns-then-shares-clause-acts g t c loops =
    block_shared (context_at (g.C.Calls.arrays c.args.calls.now) (g.C.Calls.call c.args.calls.now) c.args.body.now) (g.met.C.Calls.adds c.args.calls.now) (point_in c.args.body.now c.args.locals.now c.args.outer c.args.shares loops) (stmt_of c.args.s.now) c.args.s.now.line c.args.s.now.token c.in-Block.ss.items c.deref.result.now (ap (λ (k : StmtKind). stmt_kind_of k c.args.s.now.line c.args.s.now.token) c.in-Block.is ∙ block_seen c.args.s.now.line c.args.s.now.token c.in-Block.ss) c.deref.ensures.value c.if-shares.true (c.run_all.ensures.acts loops)

pub run_stmt-returns-else-shares-clause-acts : goal.run_stmt-returns-else-shares-clause-acts
run_stmt-returns-else-shares-clause-acts g t c loops =
    block_apart (context_at (g.C.Calls.arrays c.args.calls.now) (g.C.Calls.call c.args.calls.now) c.args.body.now) (g.met.C.Calls.adds c.args.calls.now) (point_in c.args.body.now c.args.locals.now c.args.outer c.args.shares loops) (stmt_of c.args.s.now) c.args.s.now.line c.args.s.now.token c.in-Block.ss.items c.deref-else-shares.result.now (ap (λ (k : StmtKind). stmt_kind_of k c.args.s.now.line c.args.s.now.token) c.in-Block.is ∙ block_seen c.args.s.now.line c.args.s.now.token c.in-Block.ss) c.deref-else-shares.ensures.value c.if-shares.false (c.run_block.ensures.acts loops)

pub run_stmt-returns-in-Local-clause-acts : goal.run_stmt-returns-in-Local-clause-acts
run_stmt-returns-in-Local-clause-acts g t c loops = same_effect (ap (λ (k : StmtKind). run (context_at (g.C.Calls.arrays c.args.calls.now) (g.C.Calls.call c.args.calls.now) c.args.body.now) (point_in c.args.body.now c.args.locals.now c.args.outer c.args.shares loops) (stmt_kind_of k c.args.s.now.line c.args.s.now.token)) (sym c.in-Local.is)) (c.run_local.ensures.acts c.in-Local.ty refl)

pub run_stmt-returns-in-Assign-clause-acts : goal.run_stmt-returns-in-Assign-clause-acts
run_stmt-returns-in-Assign-clause-acts g t c loops = same_effect (ap (λ (k : StmtKind). run (context_at (g.C.Calls.arrays c.args.calls.now) (g.C.Calls.call c.args.calls.now) c.args.body.now) (point_in c.args.body.now c.args.locals.now c.args.outer c.args.shares loops) (stmt_kind_of k c.args.s.now.line c.args.s.now.token)) (sym c.in-Assign.is)) c.run_assign.ensures.acts

pub run_stmt-returns-in-Value-clause-acts : goal.run_stmt-returns-in-Value-clause-acts
run_stmt-returns-in-Value-clause-acts g t c loops = same_effect (ap (λ (k : StmtKind). run (context_at (g.C.Calls.arrays c.args.calls.now) (g.C.Calls.call c.args.calls.now) c.args.body.now) (point_in c.args.body.now c.args.locals.now c.args.outer c.args.shares loops) (stmt_kind_of k c.args.s.now.line c.args.s.now.token)) (sym c.in-Value.is)) c.run_value.ensures.acts

pub run_stmt-returns-in_err-holds-in-If-clause-acts : goal.run_stmt-returns-in_err-holds-in-If-clause-acts
run_stmt-returns-in_err-holds-in-If-clause-acts g t c loops =
    let context : Context = context_at (g.C.Calls.arrays c.args.calls.now) (g.C.Calls.call c.args.calls.now) c.args.body.now in
    let point : Point = point_in c.args.body.now c.args.locals.now c.args.outer c.args.shares loops in
    exit_acts c.from_residual.result c.from_residual.ensures.1 (same_effect (ap (λ (k : StmtKind). run context point (stmt_kind_of k c.args.s.now.line c.args.s.now.token)) (sym c.in-If.is)) (if_halted context (g.met.C.Calls.adds c.args.calls.now) point c.args.s.now.line c.args.s.now.token (expr_of c.in-If.e) (stmt_of c.in-If.first.value) (back-StmtKind-If-2 c.in-If.second) c.in_err-holds-in-If.ensures.decides))

pub run_stmt-returns-in-Some-clause-acts : goal.run_stmt-returns-in-Some-clause-acts
run_stmt-returns-in-Some-clause-acts g t c loops =
    let context : Context = context_at (g.C.Calls.arrays c.args.calls.now) (g.C.Calls.call c.args.calls.now) c.args.body.now in
    let point : Point = point_in c.args.body.now c.args.locals.now c.args.outer c.args.shares loops in
    let d : c.deref-in-Some.result.now ≡ c.in-Some.second.value = search rules in
    same_effect ((ap (λ (o : Option _). run context point (stmt_kind_of (If c.in-If.e c.in-If.first o) c.args.s.now.line c.args.s.now.token)) (sym c.in-Some.is)) ∙ (ap (λ (k : StmtKind). run context point (stmt_kind_of k c.args.s.now.line c.args.s.now.token)) (sym c.in-If.is))) (second_taken context (g.met.C.Calls.adds c.args.calls.now) point c.args.s.now.line c.args.s.now.token (expr_of c.in-If.e) (stmt_of c.in-If.first.value) (stmt_of c.in-Some.second.value) c.in_ok-holds-in-If.field-0 c.in_ok-holds-in-If.ensures.decides c.if-branch.false
    (same_effect (ap (λ (s : Stmt). run context (point_in c.args.body.now c.args.locals.now (length c.args.locals.now.bindings.items) false (loops + loops_in (stmt_of c.in-If.first.value))) (stmt_of s)) d) (c.run_inside-in-Some.ensures.acts (loops + loops_in (stmt_of c.in-If.first.value)))))

pub run_stmt-returns-in-None-clause-acts : goal.run_stmt-returns-in-None-clause-acts
run_stmt-returns-in-None-clause-acts g t c loops =
    let context : Context = context_at (g.C.Calls.arrays c.args.calls.now) (g.C.Calls.call c.args.calls.now) c.args.body.now in
    let point : Point = point_in c.args.body.now c.args.locals.now c.args.outer c.args.shares loops in
    same_effect ((ap (λ (o : Option _). run context point (stmt_kind_of (If c.in-If.e c.in-If.first o) c.args.s.now.line c.args.s.now.token)) (sym c.in-None.is)) ∙ (ap (λ (k : StmtKind). run context point (stmt_kind_of k c.args.s.now.line c.args.s.now.token)) (sym c.in-If.is))) (none_taken context (g.met.C.Calls.adds c.args.calls.now) point c.args.s.now.line c.args.s.now.token (expr_of c.in-If.e) (stmt_of c.in-If.first.value) (stmt_of c.in-If.first.value) c.in_ok-holds-in-If.field-0 c.in_ok-holds-in-If.ensures.decides c.if-branch.false)

pub run_stmt-returns-in-While-clause-acts : goal.run_stmt-returns-in-While-clause-acts
run_stmt-returns-in-While-clause-acts g t c loops =
    let context : Context = context_at (g.C.Calls.arrays c.args.calls.now) (g.C.Calls.call c.args.calls.now) c.args.body.now in
    same_effect (ap (λ (k : StmtKind). repeat c.args.body.now.setting.turns (condition_of context (scope_in c.args.body.now c.args.locals.now c.args.outer) (test_in (stmt_kind_of k c.args.s.now.line c.args.s.now.token))) (turn_of context (point_in c.args.body.now c.args.locals.now c.args.outer false loops) (stmt_kind_of k c.args.s.now.line c.args.s.now.token))) c.in-While.is ∙ (ap (λ (k : StmtKind). run context (point_in c.args.body.now c.args.locals.now c.args.outer c.args.shares loops) (stmt_kind_of k c.args.s.now.line c.args.s.now.token)) (sym c.in-While.is))) (c.run_while.ensures.acts loops)

pub run_stmt-returns-in-Do-clause-acts : goal.run_stmt-returns-in-Do-clause-acts
run_stmt-returns-in-Do-clause-acts g t c loops =
    let context : Context = context_at (g.C.Calls.arrays c.args.calls.now) (g.C.Calls.call c.args.calls.now) c.args.body.now in
    same_effect (ap (λ (k : StmtKind). turns c.args.body.now.setting.turns (condition_of context (scope_in c.args.body.now c.args.locals.now c.args.outer) (test_in (stmt_kind_of k c.args.s.now.line c.args.s.now.token))) (turn_of context (point_in c.args.body.now c.args.locals.now c.args.outer false loops) (stmt_kind_of k c.args.s.now.line c.args.s.now.token))) c.in-Do.is ∙ (ap (λ (k : StmtKind). run context (point_in c.args.body.now c.args.locals.now c.args.outer c.args.shares loops) (stmt_kind_of k c.args.s.now.line c.args.s.now.token)) (sym c.in-Do.is))) (c.run_turns.ensures.acts loops)

pub run_stmt-returns-in_err-flow-in-For-clause-acts : goal.run_stmt-returns-in_err-flow-in-For-clause-acts
run_stmt-returns-in_err-flow-in-For-clause-acts g t c loops =
    let mark : c.len-mark.result ≡ length c.args.locals.now.bindings.items = search rules in
    let d : c.deref-in-For.result.now ≡ c.in-For.first.value = search rules in
    exit_acts c.from_residual-in_err-flow-in-For.result c.from_residual-in_err-flow-in-For.ensures.1 (for_halted (context_at (g.C.Calls.arrays c.args.calls.now) (g.C.Calls.call c.args.calls.now) c.args.body.now) (g.met.C.Calls.adds c.args.calls.now) (point_in c.args.body.now c.args.locals.now c.args.outer c.args.shares loops) (stmt_of c.args.s.now) c.args.s.now.line c.args.s.now.token (stmt_of c.in-For.first.value) (stmt_of c.in-For.field-2.value) (stmt_of c.in-For.field-3.value) (option_map expr_of c.in-For.field-1) (ap (λ (k : StmtKind). stmt_kind_of k c.args.s.now.line c.args.s.now.token) c.in-For.is) (point_in c.args.body.now c.args.locals.now c.len-mark.result true loops) (ap (λ (n : ℕ). point_in c.args.body.now c.args.locals.now n true loops) mark) (stmt_of c.deref-in-For.result.now) (ap stmt_of d) (c.in_err-flow-in-For.ensures.acts loops))

pub run_stmt-returns-in_err-end-in-For-clause-acts : goal.run_stmt-returns-in_err-end-in-For-clause-acts
run_stmt-returns-in_err-end-in-For-clause-acts g t c loops =
    let mark : c.len-mark.result ≡ length c.args.locals.now.bindings.items = search rules in
    let d : c.deref-in-For.result.now ≡ c.in-For.first.value = search rules in
    exit_acts c.from_residual-in_err-end-in-For.result c.from_residual-in_err-end-in-For.ensures.1 (for_done (context_at (g.C.Calls.arrays c.args.calls.now) (g.C.Calls.call c.args.calls.now) c.args.body.now) (g.met.C.Calls.adds c.args.calls.now) (point_in c.args.body.now c.args.locals.now c.args.outer c.args.shares loops) (stmt_of c.args.s.now) c.args.s.now.line c.args.s.now.token (stmt_of c.in-For.first.value) (stmt_of c.in-For.field-2.value) (stmt_of c.in-For.field-3.value) (option_map expr_of c.in-For.field-1) (ap (λ (k : StmtKind). stmt_kind_of k c.args.s.now.line c.args.s.now.token) c.in-For.is) (point_in c.args.body.now c.args.locals.now c.len-mark.result true loops) (ap (λ (n : ℕ). point_in c.args.body.now c.args.locals.now n true loops) mark) (stmt_of c.deref-in-For.result.now) (ap stmt_of d) c.in_ok-flow-in-For.flow (scope_in c.args.body.now c.run_stmt.new.locals c.len-mark.result) c.in_ok-flow-in-For.ensures.scope (c.in_ok-flow-in-For.ensures.acts loops) (c.in_err-end-in-For.ensures.acts (loops + loops_in (stmt_of c.in-For.first.value))))

pub run_stmt-returns-in_ok-end-in-For-clause-acts : goal.run_stmt-returns-in_ok-end-in-For-clause-acts
run_stmt-returns-in_ok-end-in-For-clause-acts g t c loops =
    let mark : c.len-mark.result ≡ length c.args.locals.now.bindings.items = search rules in
    let d : c.deref-in-For.result.now ≡ c.in-For.first.value = search rules in
    same_values c.cut.ensures.values (for_done (context_at (g.C.Calls.arrays c.args.calls.now) (g.C.Calls.call c.args.calls.now) c.args.body.now) (g.met.C.Calls.adds c.args.calls.now) (point_in c.args.body.now c.args.locals.now c.args.outer c.args.shares loops) (stmt_of c.args.s.now) c.args.s.now.line c.args.s.now.token (stmt_of c.in-For.first.value) (stmt_of c.in-For.field-2.value) (stmt_of c.in-For.field-3.value) (option_map expr_of c.in-For.field-1) (ap (λ (k : StmtKind). stmt_kind_of k c.args.s.now.line c.args.s.now.token) c.in-For.is) (point_in c.args.body.now c.args.locals.now c.len-mark.result true loops) (ap (λ (n : ℕ). point_in c.args.body.now c.args.locals.now n true loops) mark) (stmt_of c.deref-in-For.result.now) (ap stmt_of d) c.in_ok-flow-in-For.flow (scope_in c.args.body.now c.run_stmt.new.locals c.len-mark.result) c.in_ok-flow-in-For.ensures.scope (c.in_ok-flow-in-For.ensures.acts loops) (c.in_ok-end-in-For.ensures.acts (loops + loops_in (stmt_of c.in-For.first.value))))

pub run_stmt-returns-in_ok-end-in-For-clause-visible : goal.run_stmt-returns-in_ok-end-in-For-clause-visible
run_stmt-returns-in_ok-end-in-For-clause-visible g t c =
    let mark : c.len-mark.result ≡ length c.args.locals.now.bindings.items = search rules in
    ap (take (length c.args.locals.now.bindings.items)) (c.cut.ensures.bindings ∙ (λ i. take (mark i) (c.in_ok-end-in-For.ensures.same i)) ∙ c.in_ok-flow-in-For.ensures.visible) ∙ whole_list c.args.locals.now.bindings.items

pub run_stmt-returns-in_ok-end-in-For-clause-scope : goal.run_stmt-returns-in_ok-end-in-For-clause-scope
run_stmt-returns-in_ok-end-in-For-clause-scope g t c =
    let mark : c.len-mark.result ≡ length c.args.locals.now.bindings.items = search rules in
    λ e. ap (λ (bs : List Binding). scope_at c.args.body.now.file bs c.args.outer) (c.cut.ensures.bindings ∙ (λ i. take (mark i) (c.in_ok-end-in-For.ensures.same i)) ∙ c.in_ok-flow-in-For.ensures.visible) ∙ sym (ap (λ (k : StmtKind). after c.args.shares (scope_in c.args.body.now c.args.locals.now c.args.outer) (stmt_kind_of k c.args.s.now.line c.args.s.now.token)) c.in-For.is)

pub run_stmt-returns-in-Break-clause-acts : goal.run_stmt-returns-in-Break-clause-acts
run_stmt-returns-in-Break-clause-acts g t c loops = same_effect (ap (λ (k : StmtKind). run (context_at (g.C.Calls.arrays c.args.calls.now) (g.C.Calls.call c.args.calls.now) c.args.body.now) (point_in c.args.body.now c.args.locals.now c.args.outer c.args.shares loops) (stmt_kind_of k c.args.s.now.line c.args.s.now.token)) (sym c.in-Break.is)) (acts_ended _ _ broke Broke (λ w. refl))

pub run_stmt-returns-in-Continue-clause-acts : goal.run_stmt-returns-in-Continue-clause-acts
run_stmt-returns-in-Continue-clause-acts g t c loops = same_effect (ap (λ (k : StmtKind). run (context_at (g.C.Calls.arrays c.args.calls.now) (g.C.Calls.call c.args.calls.now) c.args.body.now) (point_in c.args.body.now c.args.locals.now c.args.outer c.args.shares loops) (stmt_kind_of k c.args.s.now.line c.args.s.now.token)) (sym c.in-Continue.is)) (acts_ended _ _ continued Continued (λ w. refl))

pub run_stmt-returns-in-Return-clause-acts : goal.run_stmt-returns-in-Return-clause-acts
run_stmt-returns-in-Return-clause-acts g t c loops = same_effect (ap (λ (k : StmtKind). run (context_at (g.C.Calls.arrays c.args.calls.now) (g.C.Calls.call c.args.calls.now) c.args.body.now) (point_in c.args.body.now c.args.locals.now c.args.outer c.args.shares loops) (stmt_kind_of k c.args.s.now.line c.args.s.now.token)) (sym c.in-Return.is)) c.run_return.ensures.acts

pub run_stmt-returns-in-Simd-clause-acts : goal.run_stmt-returns-in-Simd-clause-acts
run_stmt-returns-in-Simd-clause-acts g t c loops =
    let context : Context = context_at (g.C.Calls.arrays c.args.calls.now) (g.C.Calls.call c.args.calls.now) c.args.body.now in
    let d : c.deref-in-Simd.result.now ≡ c.in-Simd.s.value = search rules in
    same_effect (ap (λ (s : Stmt). run_simd context (point_in c.args.body.now c.args.locals.now (length c.args.locals.now.bindings.items) false (loops + 1)) (stmt_of s)) d ∙ (ap (λ (k : StmtKind). run context (point_in c.args.body.now c.args.locals.now c.args.outer c.args.shares loops) (stmt_kind_of k c.args.s.now.line c.args.s.now.token)) (sym c.in-Simd.is))) (c.run_simd.ensures.acts (loops + 1))

pub run_stmt-returns-in-Local-clause-scope : goal.run_stmt-returns-in-Local-clause-scope
run_stmt-returns-in-Local-clause-scope g t c = IfOk-weaker c.run_local.result _ _ (λ f h e. ap (λ (bs : List Binding). scope_at c.args.body.now.file bs c.args.outer) h ∙ ap (λ (k : StmtKind). after c.args.shares (scope_in c.args.body.now c.args.locals.now c.args.outer) (stmt_kind_of k c.args.s.now.line c.args.s.now.token)) (sym c.in-Local.is)) c.run_local.ensures.bindings

pub run_stmt-returns-in-Local-clause-visible : goal.run_stmt-returns-in-Local-clause-visible
run_stmt-returns-in-Local-clause-visible g t c = on_ok_weaker c.run_local.result (λ h. ap (take (length c.args.locals.now.bindings.items)) h ∙ kept c.args.locals.now.bindings.items _) c.run_local.ensures.bindings

pub run_stmt-returns-then-shares-clause-scope : goal.run_stmt-returns-then-shares-clause-scope
run_stmt-returns-then-shares-clause-scope g t c =
    IfOk-weaker c.run_all.result _ _ (λ flow h e. behind_block c.args.shares (scope_in c.args.body.now c.args.locals.now c.args.outer) _ (stmt_of c.args.s.now) c.args.s.now.line c.args.s.now.token c.in-Block.ss.items c.deref.result.now (ap (λ (k : StmtKind). stmt_kind_of k c.args.s.now.line c.args.s.now.token) c.in-Block.is ∙ block_seen c.args.s.now.line c.args.s.now.token c.in-Block.ss) c.deref.ensures.value c.if-shares.true (h e)) c.run_all.ensures.scope

pub run_all-loop-s-init : goal.run_all-loop-s-init
run_all-loop-s-init g t c = record { words = c.requires.words; held = c.requires.held; visible = whole_list c.args.locals.now.bindings.items; scope = refl; leads = λ loops. (loops, leads_itself _ _ _) }

pub run_all-loop-s-preserved : goal.run_all-loop-s-preserved
run_all-loop-s-preserved g t c = record {
  words = c.in_ok-flow.ensures.words;
  held = c.in_ok-flow.ensures.held;
  visible = kept_further c.args.locals.now.bindings.items c.loop-s.locals.bindings.items _ c.loop-s.invariant.visible c.in_ok-flow.ensures.visible;
  scope = next_scope (scope_in c.args.body.now c.args.locals.now c.args.outer) (scope_in c.args.body.now c.loop-s.locals c.args.outer) _ c.args.ss.now c.loop-s.s-index _ c.loop-s-test.true c.s-item.is c.loop-s.invariant.scope (c.in_ok-flow.ensures.scope (fell_if c.in_ok-flow.flow (sym c.if-is_jump.ensures)));
  leads = λ loops.
      let h = c.loop-s.invariant.leads loops in
      (h.0 + loops_in (stmt_of c.s-item.result), next_fell (context_at (g.C.Calls.arrays c.args.calls.now) (g.C.Calls.call c.args.calls.now) c.args.body.now) (g.met.C.Calls.adds c.args.calls.now) (scope_in c.args.body.now c.loop-s.locals c.args.outer) h.0 c.args.ss.now c.loop-s.s-index _ c.loop-s-test.true c.s-item.is h.1 c.in_ok-flow.flow _ (c.in_ok-flow.ensures.acts h.0) (sym c.if-is_jump.ensures) c.in_ok-flow.ensures.scope);
}

pub run_turns-loop-left-init : goal.run_turns-loop-left-init
run_turns-loop-left-init g t c = record { words = c.requires.words; held = c.requires.held; same = refl; leads = λ loops. leads_itself _ _ _ }

pub run_turns-loop-left-preserved : goal.run_turns-loop-left-preserved
run_turns-loop-left-preserved g t c = record {
  words = c.in_ok-test.ensures.words;
  held = c.in_ok-flow.ensures.held;
  same = c.in_ok-flow.ensures.same ∙ c.loop-left.invariant.same;
  leads = λ loops.
      let context : Context = context_at (g.C.Calls.arrays c.args.calls.now) (g.C.Calls.call c.args.calls.now) c.args.body.now in
      let point : Point = point_in c.args.body.now c.args.locals.now c.args.outer false loops in
      let up : c.loop-left.left ≡ suc (c.loop-left.left - 1) = omega (arith, c.loop-left-test.true) in
      next_test_on context (g.met.C.Calls.adds c.args.calls.now) point (point_in c.args.body.now c.loop-left.locals c.args.outer false loops) (ap (λ (bs : List Binding). record { scope = scope_at c.args.body.now.file bs c.args.outer; shares = false; loops = loops }) c.loop-left.invariant.same) (stmt_of c.args.s.now) c.loop-left.left up (c.loop-left.invariant.leads loops) c.in_ok-flow.flow (c.in_ok-flow.ensures.acts loops) (sym c.if-leaves_loop.ensures) (point_in c.args.body.now c.run_turn.new.locals c.args.outer false loops) (ap (λ (bs : List Binding). record { scope = scope_at c.args.body.now.file bs c.args.outer; shares = false; loops = loops }) (c.in_ok-flow.ensures.same ∙ c.loop-left.invariant.same)) c.in_ok-test.field-0 c.in_ok-test.ensures.decides (search rules);
}

pub run_while-returns-then-branch-clause-acts : goal.run_while-returns-then-branch-clause-acts
run_while-returns-then-branch-clause-acts g t c loops = while_on (context_at (g.C.Calls.arrays c.args.calls.now) (g.C.Calls.call c.args.calls.now) c.args.body.now) (g.met.C.Calls.adds c.args.calls.now) (point_in c.args.body.now c.args.locals.now c.args.outer false loops) (stmt_of c.args.s.now) c.in_ok-test.field-0 c.in_ok-test.ensures.decides c.if-branch.true (c.run_turns.ensures.acts loops)

pub run_while-returns-clause-acts : goal.run_while-returns-clause-acts
run_while-returns-clause-acts g t c loops = while_off (context_at (g.C.Calls.arrays c.args.calls.now) (g.C.Calls.call c.args.calls.now) c.args.body.now) (g.met.C.Calls.adds c.args.calls.now) (point_in c.args.body.now c.args.locals.now c.args.outer false loops) (stmt_of c.args.s.now) c.in_ok-test.field-0 c.in_ok-test.ensures.decides c.if-branch.false

pub run_rounds-returns-clause-acts : goal.run_rounds-returns-clause-acts
run_rounds-returns-clause-acts g t c loops =
    let context : Context = context_at (g.C.Calls.arrays c.args.calls.now) (g.C.Calls.call c.args.calls.now) c.args.body.now in
    same_effect (sym (goes_on (repeat c.args.body.now.setting.turns (condition_of context (scope_in c.args.body.now c.args.locals.now c.args.outer) (test_in (stmt_of c.args.s.now))) (turn_of context (point_in c.args.body.now c.args.locals.now c.args.outer false loops) (stmt_of c.args.s.now))) c.args.flow (sym c.if-is_jump.ensures))) (c.run_while.ensures.acts loops)

pub run_turns-returns-then-not-branch-clause-acts : goal.run_turns-returns-then-not-branch-clause-acts
run_turns-returns-then-not-branch-clause-acts g t c loops =
    let context : Context = context_at (g.C.Calls.arrays c.args.calls.now) (g.C.Calls.call c.args.calls.now) c.args.body.now in
    let point : Point = point_in c.args.body.now c.args.locals.now c.args.outer false loops in
    let up : c.loop-left.left ≡ suc (c.loop-left.left - 1) = omega (arith, c.loop-left-test.true) in
    next_test_off context (g.met.C.Calls.adds c.args.calls.now) point (point_in c.args.body.now c.loop-left.locals c.args.outer false loops) (ap (λ (bs : List Binding). record { scope = scope_at c.args.body.now.file bs c.args.outer; shares = false; loops = loops }) c.loop-left.invariant.same) (stmt_of c.args.s.now) c.loop-left.left up (c.loop-left.invariant.leads loops) c.in_ok-flow.flow (c.in_ok-flow.ensures.acts loops) (sym c.if-leaves_loop.ensures) (point_in c.args.body.now c.run_turn.new.locals c.args.outer false loops) (ap (λ (bs : List Binding). record { scope = scope_at c.args.body.now.file bs c.args.outer; shares = false; loops = loops }) (c.in_ok-flow.ensures.same ∙ c.loop-left.invariant.same)) c.in_ok-test.field-0 c.in_ok-test.ensures.decides (search rules)

pub run_stmt-returns-then-branch-clause-acts : goal.run_stmt-returns-then-branch-clause-acts
run_stmt-returns-then-branch-clause-acts g t c loops =
    let context : Context = context_at (g.C.Calls.arrays c.args.calls.now) (g.C.Calls.call c.args.calls.now) c.args.body.now in
    let point : Point = point_in c.args.body.now c.args.locals.now c.args.outer c.args.shares loops in
    let d : c.deref-then-branch.result.now ≡ c.in-If.first.value = search rules in
    same_effect (ap (λ (k : StmtKind). run context point (stmt_kind_of k c.args.s.now.line c.args.s.now.token)) (sym c.in-If.is)) (if_taken context (g.met.C.Calls.adds c.args.calls.now) point c.args.s.now.line c.args.s.now.token (expr_of c.in-If.e) (stmt_of c.in-If.first.value) (back-StmtKind-If-2 c.in-If.second) c.in_ok-holds-in-If.field-0 c.in_ok-holds-in-If.ensures.decides c.if-branch.true
    (same_effect (ap (λ (s : Stmt). run context (point_in c.args.body.now c.args.locals.now (length c.args.locals.now.bindings.items) false loops) (stmt_of s)) d) (c.run_inside.ensures.acts loops)))

pub run_simd-returns-in_err-flow-in-For-2-clause-acts : goal.run_simd-returns-in_err-flow-in-For-2-clause-acts
run_simd-returns-in_err-flow-in-For-2-clause-acts g t c loops =
    let point : Point = point_in c.args.body.now c.args.locals.now (length c.args.locals.now.bindings.items) false loops in
    let mark : c.len-mark.result ≡ length c.args.locals.now.bindings.items = search rules in
    let d : c.deref.result.now ≡ c.in-For.first.value = search rules in
    let y : c.deref-in-For.result.now ≡ c.in-For.first.value = search rules in
    exit_acts c.from_residual-in_err-flow-in-For-2.result c.from_residual-in_err-flow-in-For-2.ensures.1 (bound_halted (context_at (g.C.Calls.arrays c.args.calls.now) (g.C.Calls.call c.args.calls.now) c.args.body.now) (g.met.C.Calls.adds c.args.calls.now) point (stmt_of c.args.s.now) c.args.s.now.line c.args.s.now.token (stmt_of c.in-For.first.value) (stmt_of c.in-For.field-2.value) (stmt_of c.in-For.field-3.value) (option_map expr_of c.in-For.test) (ap (λ (k : StmtKind). stmt_kind_of k c.args.s.now.line c.args.s.now.token) c.in-For.is) (point_in c.args.body.now c.args.locals.now c.len-mark.result true loops) (ap (λ (n : ℕ). point_in c.args.body.now c.args.locals.now n true loops) mark) (stmt_of c.deref.result.now) (ap stmt_of d) c.in_ok-flow-in-For.flow (scope_in c.args.body.now c.run_stmt.new.locals c.len-mark.result) c.in_ok-flow-in-For.ensures.scope (c.in_ok-flow-in-For.ensures.acts loops) (stmt_of c.deref-in-For.result.now) (ap stmt_of y) (c.in_err-flow-in-For-2.ensures.acts point (loops + loops_in (stmt_of c.in-For.first.value)) (stmt_of c.in-For.field-3.value)))

pub run_rounds-returns-then-is_jump-clause-sound : goal.run_rounds-returns-then-is_jump-clause-sound
run_rounds-returns-then-is_jump-clause-sound g t c =
    c.requires.sound
