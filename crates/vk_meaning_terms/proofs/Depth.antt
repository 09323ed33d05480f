-- What a body does hangs on the calls that stand in it alone, so a deeper meaning is the same where chains of calls are short.
use Rattle.std.proofs.Common.{◌≡◌, ℕ, zero, suc, ◌≤◌, Bool, true, false, List, [], ◌∷◌, ◌++◌, length, Option, Some, None, pos, refl, subst, sym, arith, ◌⊎◌, inl, inr}
use Rattle.vk_types.specs.declared.types.Ty.{Ty}
use Rattle.vk_types.specs.Numbers.{wrap_number}
use Rattle.vk_types.specs.Conversions.{common_type}
use Rattle.vk_kinds.specs.declared.heads.CType.{CType}
use Rattle.vk_kinds.specs.declared.heads.CType.TheVariants.{Int}
use Rattle.vk_ast.specs.declared.names.NameId.{NameId}
use Rattle.vk_ast.specs.declared.expressions.BinOp.{BinOp}
use Rattle.vk_ast.specs.declared.expressions.BinOp.TheVariants.{Lt}
use Rattle.vk_ast.specs.Tree.{Tree, Trees, int, name, index, deref, addr, unary, binary, choice, cast, call, no_trees, more_trees}
use Rattle.vk_ast.specs.Statements.{StmtTree, StmtTrees, block, local, assign, value, if_only, if_else, while_loop, do_loop, for_loop, return_value, simd, no_stmts, more_stmts}
use Rattle.vk_numbers.specs.Operators.{unary_number}
use Rattle.vk_rules_book.specs.Scopes.{Scope, text_of, is_print, meaning_of, with_binding}
use Rattle.vk_rules_book.specs.Typings.{wanted_types, typing_of}
use Rattle.vk_rules_book.specs.Rules.{Subject}
use Rattle.vk_meaning.specs.Types.{next_type, next_types}
use Rattle.vk_meaning.specs.World.{simd_loop, with_event}
use Rattle.vk_meaning.specs.Data.{Datum, number, nothing, number_in, as_type, got, Action, and_then, then_number, loaded}
use Rattle.vk_meaning.specs.Points.{Variable, Point, past, branch_point, head_point, block_point, behind, loops_in}
use Rattle.vk_meaning.specs.Expressions.{Context, Variables, integer_type, pointed_type, answered, operator_value, chosen, converted, subscripted, value_of, address_of, with_arguments}
use Rattle.vk_meaning.specs.Guards.{guard_pairs, guard_holds}
use Rattle.vk_meaning.specs.Statements.{at_world, with_variable, fell, returned, on_value, then_do, branch, turns, repeat, looped, assign_variable, evaluate, combined, assigned, assigned_by, assignment_to, variable_of, condition_of, iterations, initialised, return_of, told, told_by, run, run_simd, run_all}
use Rattle.vk_meaning.specs.Programs.{Definition, definition_of, first_point}
use Rattle.vk_meaning.specs.Meaning.{ended, first_variables, Calls, call_by, context_of, called_where_defined, call_within, call_of}
use Rattle.vk_meaning_terms.specs.Depth.{EachCall, EachCallOf, EachCallMaybe, EachCallIn, EachCallInLoop, EachCallInAll, EachCallee, IsShallow}

abbrev CallsByName : Type 0
CallsByName = NameId → List Datum → Action

-- the same context, where calls do something else
abbrev with_call : Context → CallsByName → Context
with_call c f = record { arrays = c.arrays; array = c.array; call = f; turns = c.turns; text = c.text; result = c.result }

-- a context, what calls do in another one, and functions whose calls do the same in both
module _ (c : Context) (f : CallsByName) (P : NameId → Type 0) (s : (id : NameId) → P id → c.call id ≡ f id) where
  abbrev c' : Context
  c' = with_call c f

  mutual
    same_value : (scope : Scope) (vs : Variables) (e : Tree) → EachCall P e → value_of c scope vs e ≡ value_of c' scope vs e
    same_value scope vs (int l k t n) h = refl
    same_value scope vs (name l k id) h = refl
    same_value scope vs (index l k base subscript) h =
        λ i. and_then (subscripted (same_value scope vs base h.0 i) (same_value scope vs subscript h.1 i)) (loaded c.arrays (pointed_type (typing_of scope base)))
    same_value scope vs (deref l k operand) h = λ i. and_then (same_value scope vs operand h i) (loaded c.arrays (pointed_type (typing_of scope operand)))
    same_value scope vs (addr l k operand) h = same_address scope vs operand h
    same_value scope vs (unary l k op operand) h = λ i. then_number (same_value scope vs operand h i) (λ z. answered (unary_number op (integer_type (typing_of scope operand)) z))
    same_value scope vs (binary l k op left right) h =
        λ i. operator_value op (typing_of scope left) (typing_of scope right) (same_value scope vs left h.0 i) (same_value scope vs right h.1 i)
    same_value scope vs (choice l k condition first second) h =
        λ i. converted (common_type (integer_type (typing_of scope first)) (integer_type (typing_of scope second)))
        (chosen (same_value scope vs condition h.0 i) (same_value scope vs first h.1 i) (same_value scope vs second h.2 i))
    same_value scope vs (cast l k t operand) h = λ i. converted t (same_value scope vs operand h i)
    same_value scope vs (call l k id arguments) h = same_arguments scope vs (wanted_types (meaning_of scope id)) arguments [] (c.call id) (f id) h.1 (s id h.0)

    same_address : (scope : Scope) (vs : Variables) (e : Tree) → EachCall P e → address_of c scope vs e ≡ address_of c' scope vs e
    same_address scope vs (index l k base subscript) h = λ i. subscripted (same_value scope vs base h.0 i) (same_value scope vs subscript h.1 i)
    same_address scope vs (deref l k operand) h = same_value scope vs operand h
    same_address scope vs e h = refl

    same_arguments : (scope : Scope) (vs : Variables) (ts : List CType) (es : Trees) (before : List Datum) (next next' : List Datum → Action) →
        EachCallOf P es → next ≡ next' → with_arguments c scope vs ts es before next ≡ with_arguments c' scope vs ts es before next'
    same_arguments scope vs ts no_trees before next next' h e = λ i. e i before
    same_arguments scope vs ts (more_trees x es) before next next' h e =
        λ i. and_then (same_value scope vs x h.0 i) (λ d. same_arguments scope vs (next_types ts) es (before ++ as_type (next_type ts) d ∷ []) next next' h.1 e i)

  same_condition : (scope : Scope) (e : Option Tree) → EachCallMaybe P e → condition_of c scope e ≡ condition_of c' scope e
  same_condition scope None h = λ i vs. got (number (pos 1))
  same_condition scope (Some e) h = λ i vs. same_value scope vs e h i

  same_assignment : (scope : Scope) (o : Option Variable) (op : Option BinOp) (place e : Tree) → EachCall P place → EachCall P e → assignment_to c scope o op place e ≡ assignment_to c' scope o op place e
  same_assignment scope (Some v) None place e h k = λ i. assign_variable v (λ vs. same_value scope vs e k i)
  same_assignment scope (Some v) (Some op) place e h k =
      λ i. assign_variable v (λ vs. combined op (integer_type (typing_of scope place)) (integer_type (typing_of scope e)) (got (vs v.number)) (same_value scope vs e k i))
  same_assignment scope None None place e h k =
      λ i. evaluate (λ vs. assigned c (integer_type (typing_of scope place)) (same_address scope vs place h i) (same_value scope vs e k i))
  same_assignment scope None (Some op) place e h k =
      λ i. evaluate (λ vs. assigned_by c op (integer_type (typing_of scope place)) (integer_type (typing_of scope e)) (same_address scope vs place h i) (same_value scope vs e k i))

  same_initialised : (scope : Scope) (v : Variable) (e : Option Tree) → EachCallMaybe P e → initialised c scope v e ≡ initialised c' scope v e
  same_initialised scope v None h = λ i st. fell st
  same_initialised scope v (Some e) h = λ i. assign_variable v (λ vs. same_value scope vs e h i)

  same_return : (scope : Scope) (e : Option Tree) → EachCallMaybe P e → return_of c scope e ≡ return_of c' scope e
  same_return scope None h = λ i st. returned nothing st.world
  same_return scope (Some e) h = λ i st. on_value (same_value scope st.variables e h i st.world) (λ d w. returned (as_type c.result d) w)

  same_told : (p : Point) (t : Ty) (k : ℕ) (high : Tree) (body : StmtTree) → EachCall P high → told c p t k high body ≡ told c' p t k high body
  same_told p t k high body h =
      λ i st. on_value (same_value p.scope st.variables high h i st.world)
      (λ d w. fell (at_world st (with_event w
      (simd_loop c.text p.loops (iterations (number_in (st.variables k)) (wrap_number t (number_in d)))
      (guard_holds c st.variables (guard_pairs (branch_point p) body))))))

  same_told_by : (outside p : Point) (first : StmtTree) (test : Option Tree) (body : StmtTree) → EachCallMaybe P test → told_by c outside p first test body ≡ told_by c' outside p first test body
  same_told_by outside p (local l k t fixed id init) (Some (binary l1 k1 Lt left high)) body h = same_told p t (length outside.scope.inner) high body h.1
  same_told_by outside p first test body h = refl

  mutual
    same_run : (p : Point) (x : StmtTree) → EachCallIn P x → run c p x ≡ run c' p x
    same_run p (block l k ss) h = same_all (block_point p) ss h
    same_run p (local l k t fixed id init) h =
        λ i st. same_initialised (with_binding p.scope id (Int t) fixed) (record { number = length p.scope.inner; ctype = Int t }) init h i (with_variable st (length p.scope.inner) (number (pos 0)))
    same_run p (assign l k op place e) h = same_assignment p.scope (variable_of p.scope place) op place e h.0 h.1
    same_run p (value l k e) h = λ i. evaluate (λ vs. same_value p.scope vs e h i)
    same_run p (if_only l k test first) h = λ i. branch (λ vs. same_value p.scope vs test h.0 i) (same_run (branch_point p) first h.1 i) fell
    same_run p (if_else l k test first second) h =
        λ i. branch (λ vs. same_value p.scope vs test h.0 i) (same_run (branch_point p) first h.1 i) (same_run (branch_point (past (loops_in first) p)) second h.2 i)
    same_run p (while_loop l k test body) h = λ i. repeat c.turns (λ vs. same_value p.scope vs test h.0 i) (same_run (branch_point p) body h.1 i)
    same_run p (do_loop l k body test) h = λ i. turns c.turns (λ vs. same_value p.scope vs test h.1 i) (same_run (branch_point p) body h.0 i)
    same_run p (for_loop l k first test third body) h =
        λ i. looped c.turns (same_run (head_point p) first h.0 i) (same_condition (behind (head_point p) first).scope test h.1 i)
        (same_run (behind (head_point p) first) third h.2 i) (same_run (branch_point (behind (head_point p) first)) body h.3 i)
    same_run p (return_value l k e) h = same_return p.scope e h
    same_run p (simd l k d body) h = same_simd (branch_point (past 1 p)) body h
    same_run p x h = refl

    same_simd : (p : Point) (x : StmtTree) → EachCallInLoop P x → run_simd c p x ≡ run_simd c' p x
    same_simd p (for_loop l k first test third body) h =
        λ i. looped c.turns (then_do (same_run (head_point p) first h.0 i) (same_told_by p (behind (head_point p) first) first test body h.1 i)) (same_condition (behind (head_point p) first).scope test h.1 i)
        (same_run (behind (head_point p) first) third h.2 i) (same_run (branch_point (behind (head_point p) first)) body h.3 i)
    same_simd p x h = refl

    same_all : (p : Point) (xs : StmtTrees) → EachCallInAll P xs → run_all c p xs ≡ run_all c' p xs
    same_all p no_stmts h = refl
    same_all p (more_stmts x xs) h = λ i. then_do (same_run p x h.0 i) (same_all (behind p x) xs h.1 i)

-- ---- depth

-- the callees of a definition mean the same
same_called : (units : List Subject) (limit : ℕ) (g g' : Calls) (Q : List ℕ → Type 0) → ((text : List ℕ) → Q text → g text ≡ g' text) → (o : Option Definition) → EachCallee Q o →
    called_where_defined units limit g o ≡ called_where_defined units limit g' o
same_called units limit g g' Q k None h = refl
same_called units limit g g' Q k (Some d) h =
    λ i ds w. ended d.function.result (same_run (context_of units limit g d) (λ id. call_by g' (is_print d.unit.texts id) (text_of d.unit.texts id))
    (λ id. (is_print d.unit.texts id ≡ true) ⊎ Q (text_of d.unit.texts id)) calls (first_point d) d.body h i
    (record { variables = first_variables ds; world = w }))
  where
    printing : (b : Bool) (text : List ℕ) → b ≡ true → call_by g b text ≡ call_by g' b text
    printing b text e = subst (λ (b : Bool). call_by g b text ≡ call_by g' b text) (sym e) refl

    named : (b : Bool) (text : List ℕ) → g text ≡ g' text → call_by g b text ≡ call_by g' b text
    named true text e = refl
    named false text e = e

    calls : (id : NameId) → (is_print d.unit.texts id ≡ true) ⊎ Q (text_of d.unit.texts id) →
        call_by g (is_print d.unit.texts id) (text_of d.unit.texts id) ≡ call_by g' (is_print d.unit.texts id) (text_of d.unit.texts id)
    calls id (inl e) = printing (is_print d.unit.texts id) (text_of d.unit.texts id) e
    calls id (inr q) = named (is_print d.unit.texts id) (text_of d.unit.texts id) (k (text_of d.unit.texts id) q)

-- a deeper meaning is the same
pub deeper : (units : List Subject) (limit n m : ℕ) (text : List ℕ) → n ≤ m → IsShallow n units text → call_within n units limit text ≡ call_within m units limit text
deeper units limit zero m text h s = absurd s
deeper units limit (suc n) zero text h s = absurd (omega arith)
deeper units limit (suc n) (suc m) text h s =
    same_called units limit (call_within n units limit) (call_within m units limit) (IsShallow n units) (λ t k. deeper units limit n m t (omega arith) k) (definition_of units text) s

-- a call does what its definition's body does with these very calls
pub call_unfolds : (units : List Subject) (limit : ℕ) (text : List ℕ) → IsShallow 32 units text → call_of units limit text ≡ called_where_defined units limit (call_of units limit) (definition_of units text)
call_unfolds units limit text s = deeper units limit 32 33 text (omega arith) s
