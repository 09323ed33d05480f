-- Names, variables and registers, behind code and behind a declaration.
use Rattle.std.proofs.Common.{sym, ◌≡◌, ℕ, ◌≤◌, Bool, true, false, ◌&&◌, List, length, refl, ap, ap₂, ◌∙◌, Option, Some, None, IsTrue, is_some, true≢false}
use Rattle.vk_kinds.specs.declared.heads.CType.{CType}
use Rattle.vk_ast.specs.Tree.{Tree, binary, cast, choice, int, name, unary, index, deref, addr, call}
use Rattle.vk_rules_book.specs.Scopes.{Scope}
use Rattle.vk_rules_book.specs.Typings.{typing_of}
use Rattle.vk_meaning.specs.Data.{Action, then_number}
use Rattle.vk_meaning.specs.Expressions.{Context, Variables, answered, chosen, converted, integer_type, name_value, operator_value, value_of}
use Rattle.vk_types.specs.Conversions.{common_type}
use Rattle.vk_numbers.specs.Operators.{unary_number}
use Rattle.vk_lane.specs.Entries.{LaneCall}
use Rattle.vk_lane.specs.Pieces.{Change}
use Rattle.vk_construct.specs.Adds.{Adds, Written}
use Rattle.vk_construct.specs.Computes.{Table}
use Rattle.vk_construct.proofs.Adding.{adds_weaken, no_fewer, table_kept, table_more}
use Rattle.vk_flat.specs.declared.locals.Local.{Local}
use Rattle.vk_flat.specs.Locals.{AreLocals, is_numeric, local_named}
use Rattle.vk_flat.proofs.Cases.{first_of, middle_of, second_of}
use Rattle.vk_flat_statements.specs.Statements.{StandFor, returning}

-- what stands for variables does so behind code
pub stands_behind : (a b : Written) (F : LaneCall → Change) (size depth : ℕ) (locals : List Local) (scope : Scope) (tb : Table) → Adds a b F size depth → StandFor a locals scope tb → StandFor b locals scope tb
stands_behind a b F size depth locals scope tb h st = record {
  names = st.names;
  count = st.count;
  registers = table_more b tb (length a.regs) (length b.regs) (no_fewer a b F size depth h) (table_kept a b F size depth tb (length a.regs) h st.registers);
}

-- room for more instructions
pub larger : (a b : Written) (F : LaneCall → Change) (s t depth : ℕ) → s ≤ t → Adds a b F s depth → Adds a b F t depth
larger a b F s t depth le h = adds_weaken a b F F s t depth h le (λ q hw j g g' s1 s2 x. x)

there_is : (o : Option Local) → IsTrue (is_some o) → (x : Local) × (o ≡ Some x)
there_is (Some x) h = (x, refl)
there_is None h = absurd (true≢false (sym h))

third_of : (a b c : Bool) → IsTrue (a && b && c) → IsTrue c
third_of true true c h = h
third_of true false c h = absurd (true≢false (sym h))
third_of false b c h = absurd (true≢false (sym h))

-- the value of a numeric expression does not depend on the function's result
pub numeric_same : (locals : List Local) (scope : Scope) (tb : Table) → AreLocals locals scope tb → (t : CType) (c : Context) (vs : Variables) (e : Tree) → IsTrue (is_numeric locals e) → value_of c scope vs e ≡ value_of (returning t c) scope vs e
numeric_same locals scope tb names t c vs (int l k u n) h = refl
numeric_same locals scope tb names t c vs (name l k id) h = let x = there_is (local_named locals id) h in let v = names.each id x.0 x.1 in
    ap (λ o. name_value c scope vs o id) v.named ∙ sym (ap (λ o. name_value (returning t c) scope vs o id) v.named)
numeric_same locals scope tb names t c vs (cast l k u e) h = ap (converted u) (numeric_same locals scope tb names t c vs e h)
numeric_same locals scope tb names t c vs (unary l k op e) h = ap (λ (x : Action). then_number x (λ z. answered (unary_number op (integer_type (typing_of scope e)) z))) (numeric_same locals scope tb names t c vs e h)
numeric_same locals scope tb names t c vs (binary l k op a b) h =
    ap₂ (λ (x y : Action). operator_value op (typing_of scope a) (typing_of scope b) x y) (numeric_same locals scope tb names t c vs a (first_of (is_numeric locals a) (is_numeric locals b) h)) (numeric_same locals scope tb names t c vs b (second_of (is_numeric locals a) (is_numeric locals b) h))
numeric_same locals scope tb names t c vs (choice l k test a b) h =
    ap₂ (λ (x y : Action). kind (chosen x y (value_of c scope vs b))) (numeric_same locals scope tb names t c vs test (first_of (is_numeric locals test) (is_numeric locals a) (first_of (is_numeric locals test && is_numeric locals a) (is_numeric locals b) h))) (numeric_same locals scope tb names t c vs a (middle_of (is_numeric locals test) (is_numeric locals a) (is_numeric locals b) h))
    ∙ ap (λ (z : Action). kind (chosen (value_of (returning t c) scope vs test) (value_of (returning t c) scope vs a) z)) (numeric_same locals scope tb names t c vs b (third_of (is_numeric locals test) (is_numeric locals a) (is_numeric locals b) h))
  where
    kind : Action → Action
    kind x = converted (common_type (integer_type (typing_of scope a)) (integer_type (typing_of scope b))) x
numeric_same locals scope tb names t c vs (index l k a b) h = absurd (true≢false (sym h))
numeric_same locals scope tb names t c vs (deref l k a) h = absurd (true≢false (sym h))
numeric_same locals scope tb names t c vs (addr l k a) h = absurd (true≢false (sym h))
numeric_same locals scope tb names t c vs (call l k id es) h = absurd (true≢false (sym h))
