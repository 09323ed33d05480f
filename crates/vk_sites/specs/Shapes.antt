-- How the words of an argument hang together over the lanes, as the code that makes the call knows it: this decides which linear and
-- uniform parameters of a variant it fits (OpenMP 5.2, 7.7).
use Rattle.std.specs.Prelude.{ℕ, ◌/◌, ◌==◌, nat_lt, Bool, true, false, cond, not, ◌&&◌, ◌||◌, List, [], ◌∷◌, slice_get, Option, Some, None, ℤ, pos, int_le, int_div, Result, Ok, Err}
use Rattle.vk_types.specs.declared.types.Ty.{Ty}
use Rattle.vk_types.specs.declared.types.Ty.TheVariants.{I32}
use Rattle.vk_types.specs.declared.types.Stop.{Stop}
use Rattle.vk_types.specs.Numbers.{width_of}
use Rattle.vk_types.specs.Conversions.{common_type, least_of, greatest_of}
use Rattle.vk_kinds.specs.declared.heads.CType.{CType}
use Rattle.vk_kinds.specs.declared.heads.CType.TheVariants.{Int, Ptr}
use Rattle.vk_kinds.specs.declared.kinds.Kind.{Kind}
use Rattle.vk_kinds.specs.declared.kinds.Kind.TheVariants as kinds
use Rattle.vk_kinds.specs.declared.kinds.Step.TheVariants as steps
use Rattle.vk_kinds.specs.declared.kinds.Param.{Param}
use Rattle.vk_ast.specs.declared.expressions.UnOp.{UnOp}
use Rattle.vk_ast.specs.declared.expressions.UnOp.TheVariants.{Neg}
use Rattle.vk_ast.specs.declared.expressions.BinOp.{BinOp}
use Rattle.vk_ast.specs.declared.expressions.BinOp.TheVariants.{Add, Sub}
use Rattle.vk_ast.specs.Tree.{Tree, Trees, int, name, index, deref, addr, unary, binary, choice, cast, call, no_trees, more_trees}
use Rattle.vk_ast.specs.Statements.{StmtTree, StmtTrees, block, assign, if_only, if_else, while_loop, do_loop, for_loop, simd, no_stmts, more_stmts}
use Rattle.vk_numbers.specs.Operators.{unary_number}
use Rattle.vk_rules_book.specs.Scopes.{Scope, Meaning, an_object, meaning_of}
use Rattle.vk_rules_book.specs.Typings.{same_type, number_type, is_plus, moves_left, moves_right, typing_of}
use Rattle.vk_meaning.specs.Types.{type_at, next_type, next_types}
use Rattle.vk_meaning.specs.Points.{Variable, variable_named, Point, branch_point, head_point, block_point, behind}
use Rattle.vk_meaning.specs.Expressions.{integer_type}
use Rattle.vk_meaning.specs.Statements.{variable_of}
use Rattle.vk_code.specs.declared.code.Shape.{Shape}
use Rattle.vk_code.specs.declared.code.Shape.TheVariants.{Vector, Uniform, By, Along, Literal, Same}
use Rattle.vk_sites.specs.Loops.{LoopText, variable_number}

-- what is known where an argument stands: the shapes of the variables by their numbers, and the number of the simd loop's variable,
-- where there is one
pub record View : Type 0 where
  pub variable : ℕ → Shape
  pub loop : Option ℕ

-- ---- shapes on their own

-- one word in all lanes
abbrev pub is_uniform : Shape → Bool
is_uniform Vector = false
is_uniform Uniform = true
is_uniform (By c) = false
is_uniform (Along p) = false
is_uniform (Literal n) = true
is_uniform (Same p) = true

-- a word that goes on by one step from lane to lane
abbrev pub is_linear : Shape → Bool
is_linear Vector = false
is_linear Uniform = false
is_linear (By c) = true
is_linear (Along p) = true
is_linear (Literal n) = false
is_linear (Same p) = false

abbrev pub uniform_if : Bool → Shape
uniform_if b = cond b Uniform Vector

-- the type has the number
abbrev pub has_number : Ty → ℤ → Bool
has_number t z = int_le (least_of t) z && int_le z (greatest_of t)

-- more bits
abbrev pub widens : (from to : Ty) → Bool
widens s t = nat_lt (width_of s) (width_of t)

-- a conversion from one integer type to another; `itself`: of the loop's variable itself
abbrev pub as_integer : (from to : Ty) → (itself : Bool) → Shape → Shape
as_integer s t itself Vector = Vector
as_integer s t itself Uniform = Uniform
as_integer s t itself (Literal z) = cond (has_number t z) (Literal z) Uniform
as_integer s t itself (Same p) = cond (same_type s t) (Same p) Uniform
as_integer s t itself (By c) = cond (widens s t && not itself) Vector (By c)
as_integer s t itself (Along p) = cond (widens s t) Vector (Along p)

-- to the type of a parameter; a pointer is passed as it is
abbrev pub as_parameter : (from : Option Ty) → (to : CType) → (itself : Bool) → Shape → Shape
as_parameter (Some s) (Int t) itself shape = as_integer s t itself shape
as_parameter from to itself shape = shape

-- a linear operand that the conversion to the common type does not widen
abbrev pub kept : (from to : Ty) → Shape → Shape
kept s t shape = cond (widens s t) Vector shape

-- an operator on integers of the types s and t
abbrev pub operator_shape : BinOp → Ty → Ty → Shape → Shape → Shape
operator_shape Add s t a b =
    cond (is_uniform a && is_uniform b) Uniform
    (cond (is_linear a && is_uniform b) (kept s (common_type s t) a)
    (cond (is_uniform a && is_linear b) (kept t (common_type s t) b) Vector))
operator_shape Sub s t a b =
    cond (is_uniform a && is_uniform b) Uniform (cond (is_linear a && is_uniform b) (kept s (common_type s t) a) Vector)
operator_shape _ s t a b = uniform_if (is_uniform a && is_uniform b)

-- a pointer and an added number; `exactly`: the number is the loop's variable, and is added
abbrev pub moved_shape : (exactly : Bool) → (p e : Shape) → Shape
moved_shape exactly p e =
    cond (is_linear p && is_uniform e) p (cond (is_uniform p && exactly) (By (pos 1)) (uniform_if (is_uniform p && is_uniform e)))

abbrev pub literal_shape : ℤ → Shape
literal_shape z = cond (has_number I32 z) (Literal z) Vector

-- `-` before a literal, where the number fits an int; else the shape of an operator
abbrev pub negated : Result ℤ Stop → Shape → Shape
negated (Ok z) other = cond (has_number I32 z) (Literal z) other
negated (Err x) other = other

abbrev pub negative : UnOp → Tree → Shape → Shape
negative Neg (int l k t n) other = negated (unary_number Neg t (pos n)) other
negative op e other = other

-- the address of an array, or the number in a `const` scalar
abbrev pub object_shape : Option Meaning → Shape
object_shape (Some (an_object t is_array fixed)) = uniform_if (is_array || fixed)
object_shape _ = Vector

abbrev pub name_shape : View → Option Variable → Option Meaning → Shape
name_shape v (Some x) meaning = v.variable x.number
name_shape v None meaning = object_shape meaning

abbrev pub is_number : Option ℕ → ℕ → Bool
is_number None n = false
is_number (Some m) n = m == n

abbrev pub is_loop : Option ℕ → Option Variable → Bool
is_loop loop None = false
is_loop loop (Some x) = is_number loop x.number

-- the name of the loop's variable
abbrev pub is_loop_variable : View → Scope → Tree → Bool
is_loop_variable v scope (name l k id) = is_loop v.loop (variable_named scope id)
is_loop_variable v scope _ = false

-- ---- shapes of expressions

abbrev mutual
  pub shape_of : View → Scope → Tree → Shape
  shape_of v scope (int l k t n) = literal_shape (pos n)
  shape_of v scope (name l k id) = name_shape v (variable_named scope id) (meaning_of scope id)
  shape_of v scope (index l k base subscript) = Vector
  shape_of v scope (deref l k operand) = Vector
  shape_of v scope (addr l k operand) = address_shape v scope operand
  shape_of v scope (unary l k op operand) = negative op operand (uniform_if (is_uniform (shape_of v scope operand)))
  shape_of v scope (binary l k op left right) =
      cond (moves_left op (typing_of scope left))
      (moved_shape (is_plus op && is_loop_variable v scope right) (shape_of v scope left) (shape_of v scope right))
      (cond (moves_right op (typing_of scope left) (typing_of scope right))
      (moved_shape (is_loop_variable v scope left) (shape_of v scope right) (shape_of v scope left))
      (operator_shape op (integer_type (typing_of scope left)) (integer_type (typing_of scope right)) (shape_of v scope left) (shape_of v scope right)))
  shape_of v scope (choice l k condition first second) =
      uniform_if (is_uniform (shape_of v scope condition) && (is_uniform (shape_of v scope first) && is_uniform (shape_of v scope second)))
  shape_of v scope (cast l k t operand) =
      as_integer (integer_type (typing_of scope operand)) t (is_loop_variable v scope operand) (shape_of v scope operand)
  shape_of v scope (call l k id arguments) = Vector

  -- of a pointer to a place
  pub address_shape : View → Scope → Tree → Shape
  address_shape v scope (name l k id) = Uniform
  address_shape v scope (index l k base subscript) =
      moved_shape (is_loop_variable v scope subscript) (shape_of v scope base) (shape_of v scope subscript)
  address_shape v scope _ = Vector

-- of the arguments of a call, for parameters of these types
abbrev pub shapes_of : View → Scope → List CType → Trees → List Shape
shapes_of v scope ts no_trees = []
shapes_of v scope ts (more_trees e es) =
    as_parameter (number_type (typing_of scope e)) (next_type ts) (is_loop_variable v scope e) (shape_of v scope e) ∷ shapes_of v scope (next_types ts) es

-- ---- what is known in the two kinds of lane code

abbrev pub is_of : ℕ → Option Variable → Bool
is_of n None = false
is_of n (Some x) = x.number == n

-- the statement assigns the variable with this number
abbrev mutual
  pub assigns : ℕ → Point → StmtTree → Bool
  assigns n p (block l k ss) = any_assigns n (block_point p) ss
  assigns n p (assign l k op place e) = is_of n (variable_of p.scope place)
  assigns n p (if_only l k test first) = assigns n (branch_point p) first
  assigns n p (if_else l k test first second) = assigns n (branch_point p) first || assigns n (branch_point p) second
  assigns n p (while_loop l k test body) = assigns n (branch_point p) body
  assigns n p (do_loop l k body test) = assigns n (branch_point p) body
  assigns n p (for_loop l k first test third body) =
      assigns n (head_point p) first
      || (assigns n (behind (head_point p) first) third || assigns n (branch_point (behind (head_point p) first)) body)
  assigns n p (simd l k d body) = assigns n (branch_point p) body
  assigns n p _ = false

  pub any_assigns : ℕ → Point → StmtTrees → Bool
  any_assigns n p no_stmts = false
  any_assigns n p (more_stmts s ss) = assigns n p s || any_assigns n (behind p s) ss

-- a step of a pointer counts bytes in a directive, and elements in a shape
abbrev pub in_elements : CType → ℤ → ℤ
in_elements (Ptr to written) z = int_div z (pos (width_of to / 8))
in_elements t z = z

-- the shape of parameter n, by its kind
abbrev pub kind_shape : CType → ℕ → Kind → Shape
kind_shape t n kinds.Vector = Vector
kind_shape t n kinds.Uniform = Same n
kind_shape t n (kinds.Linear steps.One) = By (in_elements t (pos 1))
kind_shape t n (kinds.Linear (steps.By c)) = By (in_elements t c)
kind_shape t n (kinds.Linear (steps.Arg q)) = Along q
kind_shape t n (kinds.Ref step) = Vector
kind_shape t n (kinds.Val step) = Vector
kind_shape t n (kinds.Uval step) = Vector

abbrev pub param_shape : List CType → ℕ → Option Param → Shape
param_shape ts n None = Vector
param_shape ts n (Some p) = kind_shape (type_at ts n) n p.kind

-- in the code of a directive: a parameter that the body never assigns has the shape of its kind
abbrev pub lane_view : List CType → List Param → Point → StmtTree → View
lane_view ts ps p body = record { variable = λ n. cond (assigns n p body) Vector (param_shape ts n (slice_get ps n)); loop = None }

-- in the body of a simd loop: variables from outside stay as they are, the loop's own goes on by 1
abbrev pub loop_view : LoopText → View
loop_view l =
    let own : ℕ = variable_number l in
    record { variable = λ n. cond (nat_lt n own) Uniform (cond (n == own) (By (pos 1)) Vector); loop = Some own }
