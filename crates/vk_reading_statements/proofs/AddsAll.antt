-- Statements only add to the events.
use Rattle.std.proofs.Common.{ℕ, zero, suc, Bool, true, false, cond, List, [], ◌∷◌, length, Option, Some, None, pos, refl, sym, append-nil}
use Rattle.vk_types.specs.declared.types.Ty.{Ty}
use Rattle.vk_types.specs.Numbers.{wrap_number}
use Rattle.vk_kinds.specs.declared.heads.CType.TheVariants.{Int}
use Rattle.vk_ast.specs.declared.names.NameId.{NameId}
use Rattle.vk_ast.specs.declared.expressions.BinOp.{BinOp}
use Rattle.vk_ast.specs.declared.expressions.BinOp.TheVariants.{Lt}
use Rattle.vk_ast.specs.Tree.{Tree, binary}
use Rattle.vk_ast.specs.Statements.{StmtTree, StmtTrees, empty, block, local, assign, value, if_only, if_else, while_loop, do_loop, for_loop, break_loop, continue_loop, return_value, simd, lost, no_stmts, more_stmts}
use Rattle.vk_numbers.specs.Operators.{is_on, binary_number}
use Rattle.vk_rules_book.specs.Scopes.{Scope, with_binding}
use Rattle.vk_rules_book.specs.Typings.{typing_of}
use Rattle.vk_meaning.specs.World.{Event, World, simd_loop, with_event}
use Rattle.vk_meaning.specs.Data.{Datum, number, number_in, as_type, Value, got, halts, Action}
use Rattle.vk_meaning.specs.Meaning.{world_of}
use Rattle.vk_meaning.specs.Points.{Variable, Point, past, branch_point, head_point, block_point, behind, loops_in}
use Rattle.vk_meaning.specs.Expressions.{Context, Variables, integer_type, value_of}
use Rattle.vk_meaning.specs.Guards.{guard_pairs, guard_holds}
use Rattle.vk_meaning.specs.Statements.{State, at_world, with_variable, Outcome, fell, broke, continued, returned, stopped, Effect, Evaluation, on_value, with_evaluated, on_fell, then_do, branch, on_turn, turns, repeat, uncontinued, with_third, looped, assign_variable, evaluate, combined, variable_of, assignment_to, condition_of, initialised, declared, return_of, iterations, told, told_by, run, run_simd, run_all}
use Rattle.vk_reading.specs.Reading.{AreFirst}
use Rattle.vk_reading_steps.specs.Runs.{Adds}
use Rattle.vk_reading_steps.proofs.Adds.{first_trans, adds_then, adds_number, adds_given, adds_answered, adds_loaded, adds_stored, adds_value, adds_address}
use Rattle.vk_reading_statements.specs.Acts.{world_left, AddsTo}
use Rattle.vk_reading_statements.specs.Loops.{turn_of}

pub first_itself : (es : List Event) → AreFirst es es
first_itself es = record { rest = []; parts = sym (append-nil es) }

pub adds_fell : AddsTo fell
adds_fell = record { adds = λ s. first_itself s.world.events }

pub adds_broke : AddsTo broke
adds_broke = record { adds = λ s. first_itself s.world.events }

pub adds_continued : AddsTo continued
adds_continued = record { adds = λ s. first_itself s.world.events }

-- ---- evaluations

values_add : (vs : Variables) (next : Datum → Effect) (es : List Event) (v : Value) → AreFirst es (world_of v).events → ((d : Datum) → AddsTo (next d))
    → AreFirst es (world_left (on_value v (λ d w. next d (record { variables = vs; world = w })))).events
values_add vs next es (got d w) h k = first_trans h ((k d).adds (record { variables = vs; world = w }))
values_add vs next es (halts x w) h k = h

pub adds_evaluated : {e : Evaluation} {next : Datum → Effect} → ((vs : Variables) → Adds (e vs)) → ((d : Datum) → AddsTo (next d)) → AddsTo (with_evaluated e next)
adds_evaluated {e = e} {next = next} h k = record { adds = λ s. values_add s.variables next s.world.events (e s.variables s.world) ((h s.variables).adds s.world) k }

pub adds_evaluate : {e : Evaluation} → ((vs : Variables) → Adds (e vs)) → AddsTo (evaluate e)
adds_evaluate h = adds_evaluated h (λ d. adds_fell)

-- ---- in order

pub fell_adds : {next : Effect} (o : Outcome) → AddsTo next → AreFirst (world_left o).events (world_left (on_fell o next)).events
fell_adds (fell s) h = h.adds s
fell_adds (broke s) h = first_itself s.world.events
fell_adds (continued s) h = first_itself s.world.events
fell_adds (returned d w) h = first_itself w.events
fell_adds (stopped x w) h = first_itself w.events

pub adds_then_do : {first second : Effect} → AddsTo first → AddsTo second → AddsTo (then_do first second)
adds_then_do {first = first} h k = record { adds = λ s. first_trans (h.adds s) (fell_adds (first s) k) }

adds_cond : {first second : Effect} (t : Bool) → AddsTo first → AddsTo second → AddsTo (cond t first second)
adds_cond true h k = h
adds_cond false h k = k

pub adds_branch : {e : Evaluation} {first second : Effect} → ((vs : Variables) → Adds (e vs)) → AddsTo first → AddsTo second → AddsTo (branch e first second)
adds_branch h k g = adds_evaluated h (λ d. adds_cond (is_on (number_in d)) k g)

pub turn_adds : {next : Effect} (o : Outcome) → AddsTo next → AreFirst (world_left o).events (world_left (on_turn o next)).events
turn_adds (fell s) h = h.adds s
turn_adds (broke s) h = first_itself s.world.events
turn_adds (continued s) h = h.adds s
turn_adds (returned d w) h = first_itself w.events
turn_adds (stopped x w) h = first_itself w.events

pub adds_turns : {test : Evaluation} {body : Effect} (n : ℕ) → ((vs : Variables) → Adds (test vs)) → AddsTo body → AddsTo (turns n test body)
adds_turns zero h k = record { adds = λ s. first_itself s.world.events }
adds_turns {test = test} {body = body} (suc n) h k = record { adds = λ s. first_trans (k.adds s) (turn_adds (body s) (adds_branch h (adds_turns n h k) adds_fell)) }

pub adds_repeat : {test : Evaluation} {body : Effect} (n : ℕ) → ((vs : Variables) → Adds (test vs)) → AddsTo body → AddsTo (repeat n test body)
adds_repeat n h k = adds_branch h (adds_turns n h k) adds_fell

same_world : (o : Outcome) → AreFirst (world_left o).events (world_left (uncontinued o)).events
same_world (fell s) = first_itself s.world.events
same_world (broke s) = first_itself s.world.events
same_world (continued s) = first_itself s.world.events
same_world (returned d w) = first_itself w.events
same_world (stopped x w) = first_itself w.events

pub third_adds : {third : Effect} (o : Outcome) → AddsTo third → AreFirst (world_left o).events (world_left (on_fell (uncontinued o) third)).events
third_adds o h = first_trans (same_world o) (fell_adds (uncontinued o) h)

pub adds_third : {body third : Effect} → AddsTo body → AddsTo third → AddsTo (with_third body third)
adds_third {body = body} h k = record { adds = λ s. first_trans (h.adds s) (third_adds (body s) k) }

adds_looped : {first third body : Effect} {test : Evaluation} (n : ℕ) → AddsTo first → ((vs : Variables) → Adds (test vs)) → AddsTo third → AddsTo body → AddsTo (looped n first test third body)
adds_looped n h t k g = adds_then_do h (adds_repeat n t (adds_third g k))

-- ---- statements

adds_moment : (w : World) (e : Event) → AreFirst w.events (with_event w e).events
adds_moment w e = record { rest = e ∷ []; parts = refl }

module _ (c : Context) (calls : (id : NameId) (ds : List Datum) → Adds (c.call id ds)) where
  pub adds_expression : (scope : Scope) (e : Tree) (vs : Variables) → Adds (value_of c scope vs e)
  adds_expression scope e vs = adds_value c calls scope vs e

  pub adds_combined : (op : BinOp) (s t : Ty) {old e : Action} → Adds old → Adds e → Adds (combined op s t old e)
  adds_combined op s t h k = adds_number h (λ x. adds_number k (λ y. adds_answered (binary_number op s t x y)))

  pub adds_assign_variable : (v : Variable) {e : Evaluation} → ((vs : Variables) → Adds (e vs)) → AddsTo (assign_variable v e)
  adds_assign_variable v h = adds_evaluated {next = λ d s. fell (with_variable s v.number (as_type v.ctype d))} h (λ d. record { adds = λ s. first_itself s.world.events })

  pub adds_assignment : (scope : Scope) (v : Option Variable) (op : Option BinOp) (place e : Tree) → AddsTo (assignment_to c scope v op place e)
  adds_assignment scope (Some v) None place e = adds_assign_variable v (adds_expression scope e)
  adds_assignment scope (Some v) (Some op) place e = adds_assign_variable v
      (λ vs. adds_combined op (integer_type (typing_of scope place)) (integer_type (typing_of scope e)) (adds_given (vs v.number)) (adds_expression scope e vs))
  adds_assignment scope None None place e = adds_evaluate (λ vs. adds_then (adds_address c calls scope vs place) (λ p. adds_number (adds_expression scope e vs) (λ z. adds_stored c.arrays p (wrap_number (integer_type (typing_of scope place)) z))))
  adds_assignment scope None (Some op) place e = adds_evaluate (λ vs. adds_then (adds_address c calls scope vs place)
      (λ p. adds_number (adds_combined op (integer_type (typing_of scope place)) (integer_type (typing_of scope e)) (adds_loaded c.arrays (integer_type (typing_of scope place)) p) (adds_expression scope e vs))
      (λ z. adds_stored c.arrays p (wrap_number (integer_type (typing_of scope place)) z))))

  pub adds_condition : (scope : Scope) (e : Option Tree) (vs : Variables) → Adds (condition_of c scope e vs)
  adds_condition scope None vs = adds_given (number (pos 1))
  adds_condition scope (Some e) vs = adds_expression scope e vs

  pub adds_initialised : (scope : Scope) (v : Variable) (e : Option Tree) → AddsTo (initialised c scope v e)
  adds_initialised scope v None = adds_fell
  adds_initialised scope v (Some e) = adds_assign_variable v (adds_expression scope e)

  pub adds_declared : (scope : Scope) (t : Ty) (fixed : Bool) (id : NameId) (init : Option Tree) → AddsTo (declared c scope t fixed id init)
  adds_declared scope t fixed id init = record {
    adds = λ s.
        (adds_initialised (with_binding scope id (Int t) fixed) (record { number = length scope.inner; ctype = Int t }) init).adds (with_variable s (length scope.inner) (number (pos 0)));
  }

  values_return : (es : List Event) (v : Value) → AreFirst es (world_of v).events → AreFirst es (world_left (on_value v (λ d w. returned (as_type c.result d) w))).events
  values_return es (got d w) h = h
  values_return es (halts x w) h = h

  pub adds_return : (scope : Scope) (e : Option Tree) → AddsTo (return_of c scope e)
  adds_return scope None = record { adds = λ s. first_itself s.world.events }
  adds_return scope (Some e) = record { adds = λ s. values_return s.world.events (value_of c scope s.variables e s.world) ((adds_expression scope e s.variables).adds s.world) }

  values_tell : (p : Point) (t : Ty) (k : ℕ) (body : StmtTree) (s : State) (es : List Event) (v : Value) → AreFirst es (world_of v).events
      → AreFirst es (world_left (on_value v (λ d w. fell (at_world s (with_event w
      (simd_loop c.text p.loops (iterations (number_in (s.variables k)) (wrap_number t (number_in d))) (guard_holds c s.variables (guard_pairs (branch_point p) body)))))))).events
  values_tell p t k body s es (got d w) h = first_trans h (adds_moment w _)
  values_tell p t k body s es (halts x w) h = h

  adds_told : (p : Point) (t : Ty) (k : ℕ) (high : Tree) (body : StmtTree) → AddsTo (told c p t k high body)
  adds_told p t k high body = record { adds = λ s. values_tell p t k body s s.world.events (value_of c p.scope s.variables high s.world) ((adds_expression p.scope high s.variables).adds s.world) }

  pub adds_told_by : (outside p : Point) (first : StmtTree) (test : Option Tree) (body : StmtTree) → AddsTo (told_by c outside p first test body)
  adds_told_by outside p (local l k t fixed id init) (Some (binary l1 k1 Lt left high)) body = adds_told p t _ high body
  adds_told_by outside p first test body = adds_fell

  mutual
    pub adds_run : (p : Point) (s : StmtTree) → AddsTo (run c p s)
    adds_run p (empty l k) = adds_fell
    adds_run p (block l k ss) = adds_run_all (block_point p) ss
    adds_run p (local l k t fixed id init) = adds_declared p.scope t fixed id init
    adds_run p (assign l k op place e) = adds_assignment p.scope (variable_of p.scope place) op place e
    adds_run p (value l k e) = adds_evaluate (adds_expression p.scope e)
    adds_run p (if_only l k test first) = adds_branch (adds_expression p.scope test) (adds_run (branch_point p) first) adds_fell
    adds_run p (if_else l k test first second) = adds_branch (adds_expression p.scope test) (adds_run (branch_point p) first) (adds_run (branch_point (past (loops_in first) p)) second)
    adds_run p (while_loop l k test body) = adds_repeat c.turns (adds_expression p.scope test) (adds_run (branch_point p) body)
    adds_run p (do_loop l k body test) = adds_turns c.turns (adds_expression p.scope test) (adds_run (branch_point p) body)
    adds_run p (for_loop l k first test third body) = adds_looped c.turns (adds_run (head_point p) first) (adds_condition (behind (head_point p) first).scope test)
        (adds_run (behind (head_point p) first) third) (adds_run (branch_point (behind (head_point p) first)) body)
    adds_run p (break_loop l k) = adds_broke
    adds_run p (continue_loop l k) = adds_continued
    adds_run p (return_value l k e) = adds_return p.scope e
    adds_run p (simd l k d body) = adds_run_simd (branch_point (past 1 p)) body
    adds_run p (lost l k d) = adds_fell

    pub adds_run_simd : (p : Point) (s : StmtTree) → AddsTo (run_simd c p s)
    adds_run_simd p (for_loop l k first test third body) =
        adds_looped c.turns (adds_then_do (adds_run (head_point p) first) (adds_told_by p (behind (head_point p) first) first test body)) (adds_condition (behind (head_point p) first).scope test)
        (adds_run (behind (head_point p) first) third) (adds_run (branch_point (behind (head_point p) first)) body)
    adds_run_simd p (empty l k) = adds_fell
    adds_run_simd p (block l k ss) = adds_fell
    adds_run_simd p (local l k t fixed id init) = adds_fell
    adds_run_simd p (assign l k op place e) = adds_fell
    adds_run_simd p (value l k e) = adds_fell
    adds_run_simd p (if_only l k test first) = adds_fell
    adds_run_simd p (if_else l k test first second) = adds_fell
    adds_run_simd p (while_loop l k test body) = adds_fell
    adds_run_simd p (do_loop l k body test) = adds_fell
    adds_run_simd p (break_loop l k) = adds_fell
    adds_run_simd p (continue_loop l k) = adds_fell
    adds_run_simd p (return_value l k e) = adds_fell
    adds_run_simd p (simd l k d body) = adds_fell
    adds_run_simd p (lost l k d) = adds_fell

    pub adds_run_all : (p : Point) (ss : StmtTrees) → AddsTo (run_all c p ss)
    adds_run_all p no_stmts = adds_fell
    adds_run_all p (more_stmts s ss) = adds_then_do (adds_run p s) (adds_run_all (behind p s) ss)

  -- the turns of a loop
  pub adds_turn : (p : Point) (s : StmtTree) → AddsTo (turn_of c p s)
  adds_turn p (while_loop l k test body) = adds_run (branch_point p) body
  adds_turn p (do_loop l k body test) = adds_run (branch_point p) body
  adds_turn p (for_loop l k first test third body) = adds_third (adds_run (branch_point p) body) (adds_run p third)
  adds_turn p (empty l k) = adds_fell
  adds_turn p (block l k ss) = adds_fell
  adds_turn p (local l k t fixed id init) = adds_fell
  adds_turn p (assign l k op place e) = adds_fell
  adds_turn p (value l k e) = adds_fell
  adds_turn p (if_only l k test first) = adds_fell
  adds_turn p (if_else l k test first second) = adds_fell
  adds_turn p (break_loop l k) = adds_fell
  adds_turn p (continue_loop l k) = adds_fell
  adds_turn p (return_value l k e) = adds_fell
  adds_turn p (simd l k d body) = adds_fell
  adds_turn p (lost l k d) = adds_fell
