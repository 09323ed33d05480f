-- Constants (C17 6.6): literals, the operators `+ - ~ !`, binary operators, `?:` and casts, whose value is no stop.
use Rattle.std.specs.Prelude.{ℕ, cond, ◌&&◌, Option, Some, None, ℤ, pos, int_le, unsigned_abs}
use Rattle.std.specs.Option.{option_and_then, option_map}
use Rattle.vk_types.specs.declared.types.Ty.{Ty}
use Rattle.vk_types.specs.Conversions.{common_type}
use Rattle.vk_ast.specs.declared.expressions.UnOp.{UnOp}
use Rattle.vk_ast.specs.declared.expressions.BinOp.{BinOp}
use Rattle.vk_ast.specs.Tree.{Tree, int, name, index, deref, addr, unary, binary, choice, cast, call}
use Rattle.vk_numbers.specs.Types.{unary_type, binary_type}
use Rattle.vk_numbers.specs.Values.{Value, got, halts, with_value, converted}
use Rattle.vk_numbers.specs.Operators.{unary_value, binary_value, choice_value}

-- what an expression computes: its type, and its value, which may be a stop
pub record Computed : Type 0 where
  pub ty : Ty
  pub value : Value

abbrev pub computed_literal : Ty → ℕ → Computed
computed_literal t n = record { ty = t; value = converted t (pos n) }

abbrev pub computed_unary : UnOp → Computed → Computed
computed_unary op e = record { ty = unary_type op e.ty; value = with_value e.value (unary_value op e.ty) }

abbrev pub computed_binary : BinOp → Computed → Computed → Computed
computed_binary op left right = record { ty = binary_type op left.ty right.ty; value = binary_value op left.ty right.ty left.value right.value }

abbrev pub computed_choice : Computed → Computed → Computed → Computed
computed_choice condition first second =
    record { ty = common_type first.ty second.ty; value = choice_value first.ty second.ty condition.value first.value second.value }

abbrev pub computed_cast : Ty → Computed → Computed
computed_cast t e = record { ty = t; value = with_value e.value (converted t) }

-- what an expression of the form of a constant computes, none of another form
abbrev pub computed : Tree → Option Computed
computed (int l k t n) = Some (computed_literal t n)
computed (name l k id) = None
computed (index l k base subscript) = None
computed (deref l k operand) = None
computed (addr l k operand) = None
computed (unary l k op operand) = option_map (computed_unary op) (computed operand)
computed (binary l k op left right) = option_and_then (λ x. option_map (computed_binary op x) (computed right)) (computed left)
computed (choice l k condition first second) =
    option_and_then (λ c. option_and_then (λ x. option_map (computed_choice c x) (computed second)) (computed first)) (computed condition)
computed (cast l k t operand) = option_map (computed_cast t) (computed operand)
computed (call l k id arguments) = None

abbrev pub number_got : Value → Option ℤ
number_got (got z) = Some z
number_got (halts stop) = None

-- the number of a constant, none where it is no constant
unfoldable pub constant_of : Tree → Option ℤ
constant_of e = option_and_then (λ c. number_got c.value) (computed e)

-- a number from 1 up to a limit
abbrev pub number_to : (limit : ℕ) → ℤ → Option ℕ
number_to limit z = cond (int_le (pos 1) z && int_le z (pos limit)) (Some (unsigned_abs z)) None

-- the number of a constant, where it is from 1 up to a limit
abbrev pub constant_to : (limit : ℕ) → Tree → Option ℕ
constant_to limit e = option_and_then (number_to limit) (constant_of e)
