-- A statement ends alike in two related worlds, where it is tame or everything may be written.
use Rattle.std.proofs.Common.{◌≡◌, ℕ, Bool, true, false, List, length, Option, Some, None, pos, refl}
use Rattle.vk_types.specs.declared.types.Ty.{Ty}
use Rattle.vk_types.specs.Numbers.{wrap_number}
use Rattle.vk_kinds.specs.declared.heads.CType.{CType}
use Rattle.vk_kinds.specs.declared.heads.CType.TheVariants.{Void, Int, Ptr}
use Rattle.vk_ast.specs.declared.names.NameId.{NameId}
use Rattle.vk_ast.specs.declared.expressions.BinOp.{BinOp}
use Rattle.vk_ast.specs.declared.expressions.BinOp.TheVariants.{Lt}
use Rattle.vk_ast.specs.Tree.{Tree, name, index, deref, binary}
use Rattle.vk_ast.specs.Statements.{StmtTree, StmtTrees, empty, block, local, assign, value, if_only, if_else, while_loop, do_loop, for_loop, break_loop, continue_loop, return_value, simd, lost, no_stmts, more_stmts}
use Rattle.vk_numbers.proofs.Numbers.{wrap_in_range}
use Rattle.vk_numbers.specs.Operators.{binary_number}
use Rattle.vk_rules_book.specs.Scopes.{Scope, Meaning, with_binding}
use Rattle.vk_rules_book.specs.Typings.{typing_of}
use Rattle.vk_rules_book.specs.Visits.{block_scope}
use Rattle.vk_meaning.specs.Data.{Datum, number, nothing, number_in, got, Action, as_type}
use Rattle.vk_meaning.specs.Points.{Variable, variable_named, Point, past, branch_point, head_point, block_point, behind, loops_in}
use Rattle.vk_meaning.specs.Expressions.{Context, Variables, with_datum, integer_type, value_of, address_of}
use Rattle.vk_meaning.specs.Types.{is_written_type}
use Rattle.vk_meaning.specs.Statements.{then_do, combined, assigned, assigned_by, assignment_to, variable_of, condition_of, initialised, declared, return_of, told, told_by, run, run_simd, run_all}
use Rattle.vk_meaning_terms.specs.Ranges.{IsNumberOf}
use Rattle.vk_meaning_laws.specs.Tame.{IsTame, IsTameOptional, IsWrittenElement, IsTameTarget, IsTameStmt, AreTameStmts}
use Rattle.vk_meaning_laws.proofs.Sights.{Sight, TakesWords, both_got, Keeps, IsReadable, IsOwned, keeps_then, keeps_number, keeps_weaken, keeps_given, keeps_own, keeps_stored, keeps_answered}
use Rattle.vk_meaning_laws.proofs.Expressions.{Allowed, free, tame, allow, Free, free_known, readable_as, Sees, Stands, keeps_both, keeps_value, keeps_address, keeps_written, keeps_first}
use Rattle.vk_meaning_terms.proofs.Zero.{zero_in_range}
use Rattle.vk_meaning_laws.proofs.Variables.{InScope, in_binding, in_inside, in_after, AllFine, fine_in, fine_assigned, fine_declared}
use Rattle.vk_meaning_laws.proofs.Effects.{IsReturned, both_fell, both_returned, Goes, Evaluates, on_alike, goes_fell, goes_broke, goes_continued, goes_then, goes_branch, goes_turns, goes_repeat, goes_looped, goes_evaluate, goes_assign}

-- ---- assignments to elements

abbrev Anything : Datum → Type 0
Anything d = Unit {0}

module _ {v : Sight} where
  keeps_combined : {P Q : Datum → Type 0} {old e : Action} (op : BinOp) (s t : Ty) → Keeps v P old → Keeps v Q e → Keeps v (IsReadable v) (combined op s t old e)
  keeps_combined op s t h k = keeps_both h k (λ x y. keeps_answered (binary_number op s t x y))

  -- a place that may be written
  keeps_assigned : {Q : Datum → Type 0} {place e : Action} (c : Context) → TakesWords v c.arrays → (t : Ty) → Keeps v (IsOwned v c.arrays) place → Keeps v Q e → Keeps v (IsReadable v) (assigned c t place e)
  keeps_assigned c takes t h k = keeps_then h (λ p r. keeps_number k (λ z. keeps_stored c.arrays takes p (wrap_number t z) r))

  keeps_assigned_by : {Q : Datum → Type 0} {place e : Action} (c : Context) → TakesWords v c.arrays → (op : BinOp) (s t : Ty) → Keeps v (IsOwned v c.arrays) place → Keeps v Q e → Keeps v (IsReadable v) (assigned_by c op s t place e)
  keeps_assigned_by c takes op s t h k =
      keeps_then h (λ p r. keeps_number (keeps_combined op s t (keeps_own c.arrays s p r) k) (λ z. keeps_stored c.arrays takes p (wrap_number s z) r))

-- ---- statements

nothing_ranged : (t : CType) → IsNumberOf t nothing
nothing_ranged Void = tt
nothing_ranged (Int t) = zero_in_range t
nothing_ranged (Ptr to written) = tt

pub nothing_returned : (v : Sight) (t : CType) → IsReturned v t nothing
nothing_returned v t = record { readable = tt; ranged = nothing_ranged t }

ranged_as : (t : CType) (d : Datum) → IsNumberOf t (as_type t d)
ranged_as Void d = tt
ranged_as (Int t) d = wrap_in_range t (number_in d)
ranged_as (Ptr to written) d = tt

returned_as : (v : Sight) (t : CType) (d : Datum) → IsReadable v d → IsReturned v t (as_type t d)
returned_as v t d h = record { readable = readable_as v t d h; ranged = ranged_as t d }

-- a function's run: its context, its parameters' types, and what names mean at its file scope
module _ {v : Sight} {c : Context} {file : NameId → Option Meaning} {lane : NameId → Bool} (ts : List CType) (sees : Sees v c file lane) where
  abbrev F : Variables → Type 0
  F vs = AllFine v c.arrays ts vs

  stands : (scope : Scope) (vs : Variables) → InScope ts file scope → F vs → Stands v c file lane scope vs
  stands scope vs i f = record { sees = sees; same = i.same; fine = fine_in v c.arrays ts file scope vs i f }

  goes_value : (scope : Scope) → InScope ts file scope → (e : Tree) → Allowed v (IsTame lane scope e) → Evaluates v F (λ vs. value_of c scope vs e)
  goes_value scope i e h vs f = keeps_value (stands scope vs i f) e h

  goes_condition : (scope : Scope) → InScope ts file scope → (e : Option Tree) → Allowed v (IsTameOptional lane scope e) → Evaluates v F (condition_of c scope e)
  goes_condition scope i None h vs f = keeps_given (number (pos 1)) tt
  goes_condition scope i (Some e) h vs f = keeps_value (stands scope vs i f) e h

  -- the element of a pointer that may be written
  keeps_target : (scope : Scope) (vs : Variables) → Stands v c file lane scope vs → (e : Tree) → IsWrittenElement lane scope e → Keeps v (IsOwned v c.arrays) (address_of c scope vs e)
  keeps_target scope vs st (index l k base subscript) h = keeps_first st subscript h.1 (keeps_written st base h.0)
  keeps_target scope vs st (deref l k operand) h = keeps_written st operand h
  keeps_target scope vs st e h = absurd h

  keeps_place : (scope : Scope) (vs : Variables) → InScope ts file scope → F vs → (e : Tree) → Allowed v (IsWrittenElement lane scope e) → Keeps v (IsOwned v c.arrays) (address_of c scope vs e)
  keeps_place scope vs i f e (free all) = keeps_weaken (keeps_address (stands scope vs i f) e (free all)) (λ d q. free_known v all c.arrays true d)
  keeps_place scope vs i f e (tame h) = keeps_target scope vs (stands scope vs i f) e h

  variable_of_name : (scope : Scope) (e : Tree) (x : Variable) → variable_of scope e ≡ Some x → (id : NameId) × (variable_named scope id ≡ Some x)
  variable_of_name scope (name l k id) x e = (id, e)
  variable_of_name scope e x f = cc

  -- the variable of an assignment may change
  assigns : (scope : Scope) → InScope ts file scope → (e : Tree) (x : Variable) → variable_of scope e ≡ Some x → Allowed v (is_written_type x.ctype ≡ false) →
      (vs : Variables) → F vs → (d : Datum) → IsReadable v d → F (with_datum vs x.number (as_type x.ctype d))
  assigns scope i e x same (free all) vs f d q = λ k. free_known v all c.arrays _ _
  assigns scope i e x same (tame n) vs f d q =
      let named : (id : NameId) × (variable_named scope id ≡ Some x) = variable_of_name scope e x same in
      fine_assigned v c.arrays ts file scope vs named.0 x (as_type x.ctype d) i named.1 n (readable_as v x.ctype d q) f

  -- what a variable has, read for a compound assignment
  keeps_old : (scope : Scope) (vs : Variables) → InScope ts file scope → F vs → (e : Tree) (x : Variable) → variable_of scope e ≡ Some x → Allowed v (is_written_type x.ctype ≡ false) → Keeps v Anything (got (vs x.number))
  keeps_old scope vs i f e x same h = record { from = λ w w' r. both_got (vs x.number) w w' tt r }

  goes_assignment : (scope : Scope) → InScope ts file scope → (o : Option Variable) (op : Option BinOp) (place e : Tree) → variable_of scope place ≡ o → Allowed v (IsTameTarget lane scope place o × IsTame lane scope e) →
      Goes v F c.result (assignment_to c scope o op place e)
  goes_assignment scope i (Some x) None place e same h =
      goes_assign x (λ vs. value_of c scope vs e) (assigns scope i place x same (allow (λ t. t.0) h)) (goes_value scope i e (allow (λ t. t.1) h))
  goes_assignment scope i (Some x) (Some op) place e same h =
      goes_assign x _ (assigns scope i place x same (allow (λ t. t.0) h))
      (λ vs f. keeps_combined op (integer_type (typing_of scope place)) (integer_type (typing_of scope e)) (keeps_old scope vs i f place x same (allow (λ t. t.0) h)) (goes_value scope i e (allow (λ t. t.1) h) vs f))
  goes_assignment scope i None None place e same h =
      goes_evaluate _ (λ vs f. keeps_assigned c sees.words (integer_type (typing_of scope place)) (keeps_place scope vs i f place (allow (λ t. t.0) h)) (goes_value scope i e (allow (λ t. t.1) h) vs f))
  goes_assignment scope i None (Some op) place e same h =
      goes_evaluate _ (λ vs f. keeps_assigned_by c sees.words op (integer_type (typing_of scope place)) (integer_type (typing_of scope e)) (keeps_place scope vs i f place (allow (λ t. t.0) h)) (goes_value scope i e (allow (λ t. t.1) h) vs f))

  goes_initialised : (scope : Scope) → InScope ts file scope → (x : Variable) (init : Option Tree) → Allowed v (IsTameOptional lane scope init) →
      ((vs : Variables) → F vs → (d : Datum) → IsReadable v d → F (with_datum vs x.number (as_type x.ctype d))) → Goes v F c.result (initialised c scope x init)
  goes_initialised scope i x None h keep = goes_fell
  goes_initialised scope i x (Some e) h keep = goes_assign x (λ vs. value_of c scope vs e) keep (goes_value scope i e h)

  goes_declared : (scope : Scope) → InScope ts file scope → (t : Ty) (fixed : Bool) (id : NameId) (init : Option Tree) → Allowed v (IsTameOptional lane (with_binding scope id (Int t) fixed) init) →
      Goes v F c.result (declared c scope t fixed id init)
  goes_declared scope i t fixed id init h = record {
    from = λ vs w w' f r.
        (goes_initialised (with_binding scope id (Int t) fixed) (in_binding ts file scope id t fixed i) (record { number = length scope.inner; ctype = Int t }) init h (λ us g d q. fine_declared v c.arrays ts file scope us (as_type (Int t) d) i tt g)).from
        (with_datum vs (length scope.inner) (number (pos 0))) w w' (fine_declared v c.arrays ts file scope vs (number (pos 0)) i tt f) r;
  }

  goes_return : (scope : Scope) → InScope ts file scope → (e : Option Tree) → Allowed v (IsTameOptional lane scope e) → Goes v F c.result (return_of c scope e)
  goes_return scope i None h = record { from = λ vs w w' f r. both_returned nothing w w' (nothing_returned v c.result) r }
  goes_return scope i (Some e) h = record { from = λ vs w w' f r. on_alike _ _ _ ((goes_value scope i e h vs f).from w w' r) (λ d q u u' s. both_returned (as_type c.result d) u u' (returned_as v c.result d q) s) }

  goes_told : Free v → (p : Point) → InScope ts file p.scope → (t : Ty) (k : ℕ) (high : Tree) (body : StmtTree) → Goes v F c.result (told c p t k high body)
  goes_told all p i t k high body = record { from = λ vs w w' f r. on_alike _ _ _ ((goes_value p.scope i high (free all) vs f).from w w' r) (λ d q u u' s. both_fell vs _ _ f (v.tells u u' s _)) }

  goes_told_by : Free v → (outside p : Point) → InScope ts file p.scope → (first : StmtTree) (test : Option Tree) (body : StmtTree) → Goes v F c.result (told_by c outside p first test body)
  goes_told_by all outside p i (local l k t fixed id init) (Some (binary l1 k1 Lt left high)) body = goes_told all p i t (length outside.scope.inner) high body
  goes_told_by all outside p i first test body = goes_fell

  in_behind : (p : Point) (s : StmtTree) → InScope ts file p.scope → InScope ts file (behind p s).scope
  in_behind p s i = in_after ts file s p.shares p.scope i

  in_branch : (p : Point) → InScope ts file p.scope → InScope ts file (branch_point p).scope
  in_branch p i = in_inside ts file p.scope i

  in_block : (shares : Bool) (scope : Scope) → InScope ts file scope → InScope ts file (block_scope shares scope)
  in_block true scope i = i
  in_block false scope i = in_inside ts file scope i

  mutual
    pub goes_run : (s : StmtTree) (p : Point) → InScope ts file p.scope → Allowed v (IsTameStmt lane p s) → Goes v F c.result (run c p s)
    goes_run (empty l k) p i h = goes_fell
    goes_run (block l k ss) p i h = goes_all ss (block_point p) (in_block p.shares p.scope i) h
    goes_run (local l k t fixed id init) p i h = goes_declared p.scope i t fixed id init h
    goes_run (assign l k op place e) p i h = goes_assignment p.scope i (variable_of p.scope place) op place e refl h
    goes_run (value l k e) p i h = goes_evaluate (λ vs. value_of c p.scope vs e) (goes_value p.scope i e h)
    goes_run (if_only l k test first) p i h =
        goes_branch (λ vs. value_of c p.scope vs test) (goes_value p.scope i test (allow (λ t. t.0) h)) (goes_run first (branch_point p) (in_branch p i) (allow (λ t. t.1) h)) goes_fell
    goes_run (if_else l k test first second) p i h =
        goes_branch (λ vs. value_of c p.scope vs test) (goes_value p.scope i test (allow (λ t. t.0) h)) (goes_run first (branch_point p) (in_branch p i) (allow (λ t. t.1) h))
        (goes_run second (branch_point (past (loops_in first) p)) (in_branch (past (loops_in first) p) i) (allow (λ t. t.2) h))
    goes_run (while_loop l k test body) p i h =
        goes_repeat c.turns (λ vs. value_of c p.scope vs test) (run c (branch_point p) body) (goes_value p.scope i test (allow (λ t. t.0) h)) (goes_run body (branch_point p) (in_branch p i) (allow (λ t. t.1) h))
    goes_run (do_loop l k body test) p i h =
        goes_turns c.turns (λ vs. value_of c p.scope vs test) (run c (branch_point p) body) (goes_value p.scope i test (allow (λ t. t.1) h)) (goes_run body (branch_point p) (in_branch p i) (allow (λ t. t.0) h))
    goes_run (for_loop l k first test third body) p i h =
        goes_looped c.turns (run c (head_point p) first) (condition_of c (behind (head_point p) first).scope test) (run c (behind (head_point p) first) third) (run c (branch_point (behind (head_point p) first)) body)
        (goes_run first (head_point p) (in_branch p i) (allow (λ t. t.0) h))
        (goes_condition (behind (head_point p) first).scope (in_behind (head_point p) first (in_branch p i)) test (allow (λ t. t.1) h))
        (goes_run third (behind (head_point p) first) (in_behind (head_point p) first (in_branch p i)) (allow (λ t. t.2) h))
        (goes_run body (branch_point (behind (head_point p) first)) (in_branch (behind (head_point p) first) (in_behind (head_point p) first (in_branch p i))) (allow (λ t. t.3) h))
    goes_run (break_loop l k) p i h = goes_broke
    goes_run (continue_loop l k) p i h = goes_continued
    goes_run (return_value l k e) p i h = goes_return p.scope i e h
    goes_run (simd l k d body) p i (free all) = goes_simd body (branch_point (past 1 p)) (in_branch (past 1 p) i) all
    goes_run (simd l k d body) p i (tame h) = absurd h
    goes_run (lost l k d) p i h = goes_fell

    goes_simd : (s : StmtTree) (p : Point) → InScope ts file p.scope → Free v → Goes v F c.result (run_simd c p s)
    goes_simd (for_loop l k first test third body) p i all =
        goes_looped c.turns (then_do (run c (head_point p) first) (told_by c p (behind (head_point p) first) first test body)) (condition_of c (behind (head_point p) first).scope test)
        (run c (behind (head_point p) first) third) (run c (branch_point (behind (head_point p) first)) body)
        (goes_then (goes_run first (head_point p) (in_branch p i) (free all)) (goes_told_by all p (behind (head_point p) first) (in_behind (head_point p) first (in_branch p i)) first test body))
        (goes_condition (behind (head_point p) first).scope (in_behind (head_point p) first (in_branch p i)) test (free all))
        (goes_run third (behind (head_point p) first) (in_behind (head_point p) first (in_branch p i)) (free all))
        (goes_run body (branch_point (behind (head_point p) first)) (in_branch (behind (head_point p) first) (in_behind (head_point p) first (in_branch p i))) (free all))
    goes_simd s p i all = goes_fell

    goes_all : (ss : StmtTrees) (p : Point) → InScope ts file p.scope → Allowed v (AreTameStmts lane p ss) → Goes v F c.result (run_all c p ss)
    goes_all no_stmts p i h = goes_fell
    goes_all (more_stmts s ss) p i h = goes_then (goes_run s p i (allow (λ t. t.0) h)) (goes_all ss (behind p s) (in_behind p s i) (allow (λ t. t.1) h))
