-- What an expression does (C17 6.5). Operands are evaluated from left to right, and `&&`, `||` and `?:` evaluate only what C
-- evaluates.
use Rattle.std.specs.Prelude.{ℕ, ◌==◌, cond, List, [], ◌∷◌, ◌++◌, Option, Some, None, unwrap_or, ℤ, pos, neg_ℤ, Result, Ok, Err}
use Rattle.vk_types.specs.declared.types.Ty.{Ty}
use Rattle.vk_types.specs.declared.types.Ty.TheVariants.{I32}
use Rattle.vk_types.specs.declared.types.Stop.{Stop}
use Rattle.vk_types.specs.Numbers.{wrap_number}
use Rattle.vk_types.specs.Operators.{truth}
use Rattle.vk_types.specs.Conversions.{common_type}
use Rattle.vk_kinds.specs.declared.heads.CType.{CType}
use Rattle.vk_ast.specs.declared.names.NameId.{NameId}
use Rattle.vk_ast.specs.declared.expressions.BinOp.{BinOp}
use Rattle.vk_ast.specs.declared.expressions.BinOp.TheVariants.{Sub, LogAnd, LogOr}
use Rattle.vk_ast.specs.Tree.{Tree, Trees, int, name, index, deref, addr, unary, binary, choice, cast, call, no_trees, more_trees}
use Rattle.vk_numbers.specs.Operators.{is_on, unary_number, binary_number}
use Rattle.vk_rules_book.specs.declared.typings.Typing.{Typing}
use Rattle.vk_rules_book.specs.declared.typings.Typing.TheVariants.{Pointer}
use Rattle.vk_rules_book.specs.Scopes.{Scope, Meaning, an_object, meaning_of}
use Rattle.vk_rules_book.specs.Typings.{number_type, moves_left, moves_right, wanted_types, typing_of}
use Rattle.vk_meaning.specs.Types.{next_type, next_types}
use Rattle.vk_meaning.specs.World.{Array}
use Rattle.vk_meaning.specs.Data.{Datum, number, pointer, nothing, as_type, got, halts, Action, given, and_then, then_number, moved, loaded}
use Rattle.vk_meaning.specs.Points.{Variable, variable_named}

-- What the body of a function needs of the program that it stands in.
pub record Context : Type 0 where
  -- the arrays of the program, and which one an object of file scope is
  pub arrays : List Array
  pub array : NameId → ℕ
  -- what a call of each function does, the built-in one among them
  pub call : NameId → List Datum → Action
  -- how many turns a loop may make
  pub turns : ℕ
  -- the function's own name, and the type of its result
  pub text : List ℕ
  pub result : CType

-- what each variable has
abbrev pub Variables : Type 0
Variables = ℕ → Datum

-- with another value of one variable
abbrev pub with_datum : Variables → ℕ → Datum → Variables
with_datum vs k d n = cond (n == k) d (vs n)

-- ---- types

-- the type of the number that an expression gives; where it gives none, none is asked for
abbrev pub integer_type : Typing → Ty
integer_type t = unwrap_or (number_type t) I32

-- the type of the elements that a pointer points to
abbrev pub pointed_type : Typing → Ty
pointed_type (Pointer to written) = to
pointed_type _ = I32

-- ---- names (C17 6.5.1, 6.3.2.1)

-- an object of file scope: the number in a scalar, or a pointer to the first element of an array
abbrev pub object_value : List Array → ℕ → Option Meaning → Action
object_value arrays a (Some (an_object t is_array fixed)) = cond is_array (given (pointer a (pos 0))) (loaded arrays t (pointer a (pos 0)))
object_value arrays a _ = given nothing

-- a variable, else an object
abbrev pub name_value : Context → Scope → Variables → Option Variable → NameId → Action
name_value c scope vs (Some v) id = given (vs v.number)
name_value c scope vs None id = object_value c.arrays (c.array id) (meaning_of scope id)

-- ---- operators (C17 6.5.3 to 6.5.15)

-- the result of an operator: a number, or a stop
abbrev pub answered : Result ℤ Stop → Action
answered (Ok z) w = got (number z) w
answered (Err stop) w = halts stop w

-- both operands, the left one first
abbrev pub both : Action → Action → (ℤ → ℤ → Action) → Action
both left right next = then_number left (λ x. then_number right (next x))

-- 1 where the operand is not 0, else 0
abbrev pub truth_of : Action → Action
truth_of e = then_number e (λ z. given (number (truth (is_on z))))

-- an operator on two numbers of the types s and t
abbrev pub integers_value : BinOp → Ty → Ty → Action → Action → Action
integers_value LogAnd s t left right = then_number left (λ x. cond (is_on x) (truth_of right) (given (number (pos 0))))
integers_value LogOr s t left right = then_number left (λ x. cond (is_on x) (given (number (pos 1))) (truth_of right))
integers_value op s t left right = both left right (λ x y. answered (binary_number op s t x y))

-- a pointer, moved forwards by a sum and backwards by a difference
abbrev pub moved_by : BinOp → Datum → ℤ → Action
moved_by Sub p n = moved p (neg_ℤ n)
moved_by op p n = moved p n

-- `P + E` and `P - E`; `E + P`, which is read as `P + E`; or an operator on two numbers
abbrev pub operator_value : BinOp → Typing → Typing → Action → Action → Action
operator_value op s t left right =
    cond (moves_left op s) (and_then left (λ p. then_number right (moved_by op p)))
    (cond (moves_right op s t) (and_then right (λ p. then_number left (moved_by op p)))
    (integers_value op (integer_type s) (integer_type t) left right))

-- one of two evaluations, by a condition
abbrev pub chosen : Action → Action → Action → Action
chosen condition first second = then_number condition (λ z. cond (is_on z) first second)

-- the number, as one of the type (C17 6.3.1.3)
abbrev pub converted : Ty → Action → Action
converted t e = then_number e (λ z. given (number (wrap_number t z)))

-- ---- expressions

-- `P[E]` points where `P + E` does (C17 6.5.2.1)
abbrev pub subscripted : Action → Action → Action
subscripted base subscript = and_then base (λ p. then_number subscript (moved p))

abbrev mutual
  -- the value of an expression
  pub value_of : Context → Scope → Variables → Tree → Action
  value_of c scope vs (int l k t n) = given (number (wrap_number t (pos n)))
  value_of c scope vs (name l k id) = name_value c scope vs (variable_named scope id) id
  value_of c scope vs (index l k base subscript) =
      and_then (subscripted (value_of c scope vs base) (value_of c scope vs subscript)) (loaded c.arrays (pointed_type (typing_of scope base)))
  value_of c scope vs (deref l k operand) = and_then (value_of c scope vs operand) (loaded c.arrays (pointed_type (typing_of scope operand)))
  value_of c scope vs (addr l k operand) = address_of c scope vs operand
  value_of c scope vs (unary l k op operand) =
      then_number (value_of c scope vs operand) (λ z. answered (unary_number op (integer_type (typing_of scope operand)) z))
  value_of c scope vs (binary l k op left right) =
      operator_value op (typing_of scope left) (typing_of scope right) (value_of c scope vs left) (value_of c scope vs right)
  value_of c scope vs (choice l k condition first second) =
      converted (common_type (integer_type (typing_of scope first)) (integer_type (typing_of scope second)))
      (chosen (value_of c scope vs condition) (value_of c scope vs first) (value_of c scope vs second))
  value_of c scope vs (cast l k t operand) = converted t (value_of c scope vs operand)
  value_of c scope vs (call l k id arguments) = with_arguments c scope vs (wanted_types (meaning_of scope id)) arguments [] (c.call id)

  -- a pointer to the object that an lvalue designates (C17 6.5.3.2)
  pub address_of : Context → Scope → Variables → Tree → Action
  address_of c scope vs (name l k id) = given (pointer (c.array id) (pos 0))
  address_of c scope vs (index l k base subscript) = subscripted (value_of c scope vs base) (value_of c scope vs subscript)
  address_of c scope vs (deref l k operand) = value_of c scope vs operand
  address_of c scope vs _ = given nothing

  -- goes on with the arguments, each converted to its parameter's type (C17 6.5.2.2), behind those that were evaluated before
  pub with_arguments : Context → Scope → Variables → List CType → Trees → (before : List Datum) → (List Datum → Action) → Action
  with_arguments c scope vs ts no_trees before next = next before
  with_arguments c scope vs ts (more_trees e es) before next =
      and_then (value_of c scope vs e) (λ d. with_arguments c scope vs (next_types ts) es (before ++ as_type (next_type ts) d ∷ []) next)
