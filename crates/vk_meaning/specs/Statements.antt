-- What a statement does (C17 6.8).
use Rattle.std.specs.Prelude.{ℕ, zero, suc, Bool, cond, length, Option, Some, None, ℤ, pos, ◌-ℤ◌, unsigned_abs, int_le}
use Rattle.vk_types.specs.declared.types.Ty.{Ty}
use Rattle.vk_types.specs.declared.types.Stop.{Stop}
use Rattle.vk_types.specs.declared.types.Stop.TheVariants.{Turns}
use Rattle.vk_types.specs.Numbers.{wrap_number}
use Rattle.vk_kinds.specs.declared.heads.CType.TheVariants.{Int}
use Rattle.vk_ast.specs.declared.names.NameId.{NameId}
use Rattle.vk_ast.specs.declared.expressions.BinOp.{BinOp}
use Rattle.vk_ast.specs.declared.expressions.BinOp.TheVariants.{Lt}
use Rattle.vk_ast.specs.Tree.{Tree, name, binary}
use Rattle.vk_ast.specs.Statements.{StmtTree, StmtTrees, empty, block, local, assign, value, if_only, if_else, while_loop, do_loop, for_loop, break_loop, continue_loop, return_value, simd, lost, no_stmts, more_stmts}
use Rattle.vk_numbers.specs.Operators.{is_on, binary_number}
use Rattle.vk_rules_book.specs.Scopes.{Scope, with_binding}
use Rattle.vk_rules_book.specs.Typings.{typing_of}
use Rattle.vk_meaning.specs.World.{World, simd_loop, with_event}
use Rattle.vk_meaning.specs.Data.{Datum, number, nothing, number_in, as_type, Value, got, halts, Action, and_then, then_number, loaded, stored}
use Rattle.vk_meaning.specs.Points.{Variable, variable_named, Point, past, branch_point, head_point, block_point, behind, loops_in}
use Rattle.vk_meaning.specs.Expressions.{Context, Variables, with_datum, integer_type, both, answered, value_of, address_of}
use Rattle.vk_meaning.specs.Guards.{guard_pairs, guard_holds}

-- a function's run: what its variables have, and the world
pub record State : Type 0 where
  pub variables : Variables
  pub world : World

abbrev pub at_world : State → World → State
at_world s w = record { variables = s.variables; world = w }

abbrev pub with_variable : State → ℕ → Datum → State
with_variable s k d = record { variables = with_datum s.variables k d; world = s.world }

-- How a statement ends: what stands behind it comes next; or a jump (C17 6.8.6) out of a loop, to the end of a loop's body, or back
-- to the caller; or a stop.
pub data Outcome : Type 0 where
  fell : State → Outcome
  broke : State → Outcome
  continued : State → Outcome
  returned : Datum → World → Outcome
  stopped : Stop → World → Outcome

-- the execution of a statement
abbrev pub Effect : Type 0
Effect = State → Outcome

-- the evaluation of an expression, by what the variables have
abbrev pub Evaluation : Type 0
Evaluation = Variables → Action

-- goes on with what an evaluation gave
abbrev pub on_value : Value → (Datum → World → Outcome) → Outcome
on_value (got d w) next = next d w
on_value (halts stop w) next = stopped stop w

-- a full expression in a statement (C17 6.8), whose value is used
abbrev pub with_evaluated : Evaluation → (Datum → Effect) → Effect
with_evaluated e next s = on_value (e s.variables s.world) (λ d w. next d (at_world s w))

-- ---- in order

abbrev pub on_fell : Outcome → Effect → Outcome
on_fell (fell s) next = next s
on_fell (broke s) next = broke s
on_fell (continued s) next = continued s
on_fell (returned d w) next = returned d w
on_fell (stopped stop w) next = stopped stop w

-- one statement and then another
abbrev pub then_do : Effect → Effect → Effect
then_do first second s = on_fell (first s) second

-- ---- selection (C17 6.8.4) and iteration (C17 6.8.5)

-- one statement where the condition is not 0, else another
abbrev pub branch : Evaluation → Effect → Effect → Effect
branch test first second = with_evaluated test (λ d. cond (is_on (number_in d)) first second)

-- what stands behind a loop's body comes after `continue` too, and `break` ends the loop (C17 6.8.6.2, 6.8.6.3)
abbrev pub on_turn : Outcome → Effect → Outcome
on_turn (fell s) next = next s
on_turn (broke s) next = fell s
on_turn (continued s) next = next s
on_turn (returned d w) next = returned d w
on_turn (stopped stop w) next = stopped stop w

-- a `do` (C17 6.8.5.2), with at most so many turns left
abbrev pub turns : ℕ → Evaluation → Effect → Effect
turns zero test body s = stopped Turns s.world
turns (suc n) test body s = on_turn (body s) (branch test (turns n test body) fell)

-- a `while` (C17 6.8.5.1): where its condition holds, a `do`
abbrev pub repeat : ℕ → Evaluation → Effect → Effect
repeat limit test body = branch test (turns limit test body) fell

abbrev pub uncontinued : Outcome → Outcome
uncontinued (fell s) = fell s
uncontinued (broke s) = broke s
uncontinued (continued s) = fell s
uncontinued (returned d w) = returned d w
uncontinued (stopped stop w) = stopped stop w

-- the body of a `for`, and its third part, which comes after `continue` too
abbrev pub with_third : Effect → Effect → Effect
with_third body third s = on_fell (uncontinued (body s)) third

-- a `for` (C17 6.8.5.3): its first part, then a `while` over its body and third part
abbrev pub looped : ℕ → Effect → Evaluation → (third body : Effect) → Effect
looped limit first test third body = then_do first (repeat limit test (with_third body third))

-- ---- assignment (C17 6.5.16)

-- the value is stored in a variable, as one of its type
abbrev pub assign_variable : Variable → Evaluation → Effect
assign_variable v e = with_evaluated e (λ d s. fell (with_variable s v.number (as_type v.ctype d)))

-- an expression whose value is dropped (C17 6.8.3)
abbrev pub evaluate : Evaluation → Effect
evaluate e = with_evaluated e (λ d s. fell s)

-- `place = e`: the place's base and subscript, then `e`, then the store
abbrev pub assigned : Context → Ty → (place e : Action) → Action
assigned c t place e = and_then place (λ p. then_number e (λ z. stored c.arrays p (wrap_number t z)))

-- the old number, then `e`, then the operator on these, which have the types s and t
abbrev pub combined : BinOp → Ty → Ty → (old e : Action) → Action
combined op s t old e = both old e (λ x y. answered (binary_number op s t x y))

-- `place op= e` (C17 6.5.16.2): the place's base and subscript, the old number, then `e`, then the store
abbrev pub assigned_by : Context → BinOp → Ty → Ty → (place e : Action) → Action
assigned_by c op s t place e =
    and_then place (λ p. then_number (combined op s t (loaded c.arrays s p) e) (λ z. stored c.arrays p (wrap_number s z)))

-- the variable that a place is, where it is one
abbrev pub variable_of : Scope → Tree → Option Variable
variable_of scope (name l k id) = variable_named scope id
variable_of scope _ = None

-- an assignment to a variable, or to an element
abbrev pub assignment_to : Context → Scope → Option Variable → Option BinOp → (place e : Tree) → Effect
assignment_to c scope (Some v) None place e = assign_variable v (λ vs. value_of c scope vs e)
assignment_to c scope (Some v) (Some op) place e = assign_variable v
    (λ vs. combined op (integer_type (typing_of scope place)) (integer_type (typing_of scope e)) (got (vs v.number)) (value_of c scope vs e))
assignment_to c scope None None place e =
    evaluate (λ vs. assigned c (integer_type (typing_of scope place)) (address_of c scope vs place) (value_of c scope vs e))
assignment_to c scope None (Some op) place e = evaluate
    (λ vs. assigned_by c op (integer_type (typing_of scope place)) (integer_type (typing_of scope e)) (address_of c scope vs place) (value_of c scope vs e))

-- ---- other statements

-- a condition, which holds where it is missing
abbrev pub condition_of : Context → Scope → Option Tree → Evaluation
condition_of c scope None vs = got (number (pos 1))
condition_of c scope (Some e) vs = value_of c scope vs e

abbrev pub initialised : Context → Scope → Variable → Option Tree → Effect
initialised c scope v None = fell
initialised c scope v (Some e) = assign_variable v (λ vs. value_of c scope vs e)

-- A declaration (C17 6.7): the variable is 0 whenever its declaration is reached, in its initialiser too, in which it is visible.
abbrev pub declared : Context → Scope → Ty → (fixed : Bool) → NameId → Option Tree → Effect
declared c scope t fixed id init s = initialised c (with_binding scope id (Int t) fixed)
    (record { number = length scope.inner; ctype = Int t }) init (with_variable s (length scope.inner) (number (pos 0)))

-- `return` (C17 6.8.6.4)
abbrev pub return_of : Context → Scope → Option Tree → Effect
return_of c scope None s = returned nothing s.world
return_of c scope (Some e) s = on_value (value_of c scope s.variables e s.world) (λ d w. returned (as_type c.result d) w)

-- ---- simd loops

-- how many numbers there are from one on, up to another
abbrev pub iterations : (low high : ℤ) → ℕ
iterations low high = cond (int_le high low) 0 (unsigned_abs (high -ℤ low))

-- A simd loop tells its number, its iterations and its guard, behind its first part: its upper bound is evaluated once more for
-- that. The point is the one behind that part, the variable is the loop's, of the type t.
abbrev pub told : Context → Point → Ty → (variable : ℕ) → (high : Tree) → (body : StmtTree) → Effect
told c p t k high body s = on_value (value_of c p.scope s.variables high s.world)
    (λ d w. fell (at_world s (with_event w
    (simd_loop c.text p.loops (iterations (number_in (s.variables k)) (wrap_number t (number_in d))) (guard_holds c s.variables (guard_pairs (branch_point p) body))))))

-- the loop has the head `for (T i = LO; i < HI; ..)`; others tell nothing
abbrev pub told_by : Context → (outside behind : Point) → StmtTree → Option Tree → (body : StmtTree) → Effect
told_by c outside p (local l k t fixed id init) (Some (binary l1 k1 Lt left high)) body = told c p t (length outside.scope.inner) high body
told_by c outside p first condition body = fell

-- ---- statements

abbrev mutual
  -- the execution of a statement at a point
  pub run : Context → Point → StmtTree → Effect
  run c p (empty l k) = fell
  run c p (block l k ss) = run_all c (block_point p) ss
  run c p (local l k t fixed id init) = declared c p.scope t fixed id init
  run c p (assign l k op place e) = assignment_to c p.scope (variable_of p.scope place) op place e
  run c p (value l k e) = evaluate (λ vs. value_of c p.scope vs e)
  run c p (if_only l k test first) = branch (λ vs. value_of c p.scope vs test) (run c (branch_point p) first) fell
  run c p (if_else l k test first second) =
      branch (λ vs. value_of c p.scope vs test) (run c (branch_point p) first) (run c (branch_point (past (loops_in first) p)) second)
  run c p (while_loop l k test body) = repeat c.turns (λ vs. value_of c p.scope vs test) (run c (branch_point p) body)
  run c p (do_loop l k body test) = turns c.turns (λ vs. value_of c p.scope vs test) (run c (branch_point p) body)
  run c p (for_loop l k first test third body) = looped c.turns (run c (head_point p) first)
      (condition_of c (behind (head_point p) first).scope test) (run c (behind (head_point p) first) third) (run c (branch_point (behind (head_point p) first)) body)
  run c p (break_loop l k) = broke
  run c p (continue_loop l k) = continued
  run c p (return_value l k e) = return_of c p.scope e
  run c p (simd l k d body) = run_simd c (branch_point (past 1 p)) body
  run c p (lost l k d) = fell

  -- the loop behind a `simd` line, of which the point counts it already: it is read as the plain loop, and told
  pub run_simd : Context → Point → StmtTree → Effect
  run_simd c p (for_loop l k first test third body) =
      looped c.turns (then_do (run c (head_point p) first) (told_by c p (behind (head_point p) first) first test body))
      (condition_of c (behind (head_point p) first).scope test) (run c (behind (head_point p) first) third) (run c (branch_point (behind (head_point p) first)) body)
  run_simd c p _ = fell

  -- statements one after another
  pub run_all : Context → Point → StmtTrees → Effect
  run_all c p no_stmts = fell
  run_all c p (more_stmts s ss) = then_do (run c p s) (run_all c (behind p s) ss)
