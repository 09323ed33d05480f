-- A tame statement has no events, and returns what is fit, where its `return` statements are right.
use Rattle.std.proofs.Common.{◌≡◌, Bool, false, length, Option, Some, None, pos, refl}
use Rattle.vk_types.specs.declared.types.Ty.{Ty}
use Rattle.vk_types.specs.Numbers.{wrap_number}
use Rattle.vk_kinds.specs.declared.heads.CType.TheVariants.{Int}
use Rattle.vk_ast.specs.declared.names.NameId.{NameId}
use Rattle.vk_ast.specs.declared.expressions.BinOp.{BinOp}
use Rattle.vk_ast.specs.Tree.{Tree, index, deref}
use Rattle.vk_ast.specs.Statements.{StmtTree, StmtTrees, empty, block, local, assign, value, if_only, if_else, while_loop, do_loop, for_loop, break_loop, continue_loop, return_value, simd, lost, no_stmts, more_stmts}
use Rattle.vk_numbers.specs.Operators.{binary_number}
use Rattle.vk_rules_book.specs.Scopes.{Scope, with_binding}
use Rattle.vk_rules_book.specs.Typings.{typing_of}
use Rattle.vk_meaning.specs.Data.{number, Action, as_type}
use Rattle.vk_meaning.specs.Points.{Variable, Point, past, branch_point, head_point, block_point, behind, loops_in}
use Rattle.vk_meaning.specs.Expressions.{Context, integer_type, value_of, address_of}
use Rattle.vk_meaning.specs.Types.{is_pointer_type}
use Rattle.vk_meaning.specs.Statements.{combined, assigned, assigned_by, assignment_to, variable_of, condition_of, initialised, declared, return_of, returned, run, run_all, with_variable}
use Rattle.vk_meaning_laws.specs.Tame.{IsTame, IsTameOptional, IsWrittenElement, IsTameTarget, IsTameStmt, AreTameStmts}
use Rattle.vk_local_calls.specs.Returns.{AllHaveRightReturns, HasRightReturns, IsRightReturn}
use Rattle.vk_local_calls.proofs.Silence.{Hushes, hush_answered, hush_both, hush_given, hush_loaded, hush_number, hush_stored, hush_subscripted, hush_then}
use Rattle.vk_local_calls.proofs.Expressions.{CallsHush, hush_expression, hush_written, hush_zero}
use Rattle.vk_local_calls.proofs.Effects.{HushesAll, Stays, fit_as, fit_nothing, on_hush, stay_assign, stay_branch, stay_broke, stay_continued, stay_evaluate, stay_fell, stay_looped, stay_repeat, stay_then, stay_turns}

hush_combined : {old e : Action} (op : BinOp) (s t : Ty) → Hushes old → Hushes e → Hushes (combined op s t old e)
hush_combined op s t h k = hush_both h k (λ x y. hush_answered (binary_number op s t x y))

hush_assigned : {place e : Action} (c : Context) (t : Ty) → Hushes place → Hushes e → Hushes (assigned c t place e)
hush_assigned c t h k = hush_then h (λ p. hush_number k (λ z. hush_stored c.arrays p (wrap_number t z)))

hush_assigned_by : {place e : Action} (c : Context) (op : BinOp) (s t : Ty) → Hushes place → Hushes e → Hushes (assigned_by c op s t place e)
hush_assigned_by c op s t h k = hush_then h (λ p. hush_number (hush_combined op s t (hush_loaded c.arrays s p) k) (λ z. hush_stored c.arrays p (wrap_number s z)))

module _ (c : Context) (lane : NameId → Bool) (calls : CallsHush c lane) (plain : is_pointer_type c.result ≡ false) where
  hush_evaluation : (scope : Scope) (e : Tree) → IsTame lane scope e → HushesAll (λ vs. value_of c scope vs e)
  hush_evaluation scope e h vs = hush_expression c lane calls scope vs e h

  hush_condition : (scope : Scope) (e : Option Tree) → IsTameOptional lane scope e → HushesAll (condition_of c scope e)
  hush_condition scope None h vs = record { silent = λ w. refl }
  hush_condition scope (Some e) h vs = record { silent = (hush_expression c lane calls scope vs e h).silent }

  -- the element of a pointer that may be written
  hush_target : (scope : Scope) (e : Tree) → IsWrittenElement lane scope e → HushesAll (λ vs. address_of c scope vs e)
  hush_target scope (index l k base subscript) h vs = hush_subscripted (hush_written c lane calls scope vs base h.0) (hush_zero c lane calls scope vs subscript h.1)
  hush_target scope (deref l k operand) h vs = hush_written c lane calls scope vs operand h
  hush_target scope e h vs = absurd h

  stay_assignment : (scope : Scope) (o : Option Variable) (op : Option BinOp) (place e : Tree) → IsTameTarget lane scope place o → IsTame lane scope e → Stays c.result (assignment_to c scope o op place e)
  stay_assignment scope (Some x) None place e h k = stay_assign x (λ vs. value_of c scope vs e) (hush_evaluation scope e k)
  stay_assignment scope (Some x) (Some op) place e h k =
      stay_assign x _ (λ vs. hush_combined op (integer_type (typing_of scope place)) (integer_type (typing_of scope e)) (hush_given (vs x.number)) (hush_evaluation scope e k vs))
  stay_assignment scope None None place e h k =
      stay_evaluate _ (λ vs. hush_assigned c (integer_type (typing_of scope place)) (hush_target scope place h vs) (hush_evaluation scope e k vs))
  stay_assignment scope None (Some op) place e h k =
      stay_evaluate _ (λ vs. hush_assigned_by c op (integer_type (typing_of scope place)) (integer_type (typing_of scope e)) (hush_target scope place h vs) (hush_evaluation scope e k vs))

  stay_initialised : (scope : Scope) (x : Variable) (init : Option Tree) → IsTameOptional lane scope init → Stays c.result (initialised c scope x init)
  stay_initialised scope x None h = stay_fell
  stay_initialised scope x (Some e) h = stay_assign x (λ vs. value_of c scope vs e) (hush_evaluation scope e h)

  stay_declared : (scope : Scope) (t : Ty) (fixed : Bool) (id : NameId) (init : Option Tree) → IsTameOptional lane (with_binding scope id (Int t) fixed) init → Stays c.result (declared c scope t fixed id init)
  stay_declared scope t fixed id init h = record {
    from = λ s. (stay_initialised (with_binding scope id (Int t) fixed) (record { number = length scope.inner; ctype = Int t }) init h).from (with_variable s (length scope.inner) (number (pos 0)));
  }

  stay_return : (scope : Scope) (e : Option Tree) → IsTameOptional lane scope e → IsRightReturn c.result e → Stays c.result (return_of c scope e)
  stay_return scope None h right = record { from = λ s. (refl, fit_nothing c.result right) }
  stay_return scope (Some e) h right = record {
    from = λ s. on_hush c.result s.world.events (value_of c scope s.variables e s.world) (λ d w. returned (as_type c.result d) w) ((hush_evaluation scope e h s.variables).silent s.world) (λ d w q. (q, fit_as c.result plain d));
  }

  mutual
    pub stay_run : (s : StmtTree) (p : Point) → IsTameStmt lane p s → HasRightReturns c.result s → Stays c.result (run c p s)
    stay_run (empty l k) p h r = stay_fell
    stay_run (block l k ss) p h r = stay_all ss (block_point p) h r
    stay_run (local l k t fixed id init) p h r = stay_declared p.scope t fixed id init h
    stay_run (assign l k op place e) p h r = stay_assignment p.scope (variable_of p.scope place) op place e h.0 h.1
    stay_run (value l k e) p h r = stay_evaluate (λ vs. value_of c p.scope vs e) (hush_evaluation p.scope e h)
    stay_run (if_only l k test first) p h r = stay_branch (λ vs. value_of c p.scope vs test) (hush_evaluation p.scope test h.0) (stay_run first (branch_point p) h.1 r) stay_fell
    stay_run (if_else l k test first second) p h r =
        stay_branch (λ vs. value_of c p.scope vs test) (hush_evaluation p.scope test h.0) (stay_run first (branch_point p) h.1 r.0) (stay_run second (branch_point (past (loops_in first) p)) h.2 r.1)
    stay_run (while_loop l k test body) p h r =
        stay_repeat c.turns (λ vs. value_of c p.scope vs test) (run c (branch_point p) body) (hush_evaluation p.scope test h.0) (stay_run body (branch_point p) h.1 r)
    stay_run (do_loop l k body test) p h r =
        stay_turns c.turns (λ vs. value_of c p.scope vs test) (run c (branch_point p) body) (hush_evaluation p.scope test h.1) (stay_run body (branch_point p) h.0 r)
    stay_run (for_loop l k first test third body) p h r =
        stay_looped c.turns (run c (head_point p) first) (condition_of c (behind (head_point p) first).scope test) (run c (behind (head_point p) first) third) (run c (branch_point (behind (head_point p) first)) body)
        (stay_run first (head_point p) h.0 r.0) (hush_condition (behind (head_point p) first).scope test h.1)
        (stay_run third (behind (head_point p) first) h.2 r.1) (stay_run body (branch_point (behind (head_point p) first)) h.3 r.2)
    stay_run (break_loop l k) p h r = stay_broke
    stay_run (continue_loop l k) p h r = stay_continued
    stay_run (return_value l k e) p h r = stay_return p.scope e h r
    stay_run (simd l k d body) p h r = absurd h
    stay_run (lost l k d) p h r = stay_fell

    stay_all : (ss : StmtTrees) (p : Point) → AreTameStmts lane p ss → AllHaveRightReturns c.result ss → Stays c.result (run_all c p ss)
    stay_all no_stmts p h r = stay_fell
    stay_all (more_stmts s ss) p h r = stay_then (stay_run s p h.0 r.0) (stay_all ss (behind p s) h.1 r.1)
