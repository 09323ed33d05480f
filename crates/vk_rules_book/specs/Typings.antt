-- Of what type an expression is (C17 6.5), in this language: an expression that breaks C8, C9 or C10 has no type, nor has what
-- holds it. What holds an expression gives it a role, which takes some types and not others.
use Rattle.std.specs.Prelude.{ℕ, ◌==◌, Bool, true, false, cond, ◌&&◌, ◌||◌, not, List, [], ◌∷◌, length, Option, Some, None, is_some}
use denote.Enum.Bare.{sameb}
use Rattle.vk_types.specs.declared.types.Ty.{Ty}
use Rattle.vk_types.specs.contracts.types.Ty.{the_type}
use Rattle.vk_types.specs.Conversions.{common_type}
use Rattle.vk_kinds.specs.declared.heads.CType.{CType}
use Rattle.vk_kinds.specs.declared.heads.CType.TheVariants.{Void, Int, Ptr}
use Rattle.vk_ast.specs.declared.expressions.UnOp.{UnOp}
use Rattle.vk_ast.specs.declared.expressions.BinOp.{BinOp}
use Rattle.vk_ast.specs.declared.expressions.BinOp.TheVariants.{Add, Sub}
use Rattle.vk_ast.specs.Tree.{Tree, Trees, int, name, index, deref, addr, unary, binary, choice, cast, call, no_trees, more_trees}
use Rattle.vk_numbers.specs.Types.{unary_type, binary_type}
use Rattle.vk_rules_book.specs.declared.typings.Typing.{Typing}
use Rattle.vk_rules_book.specs.declared.typings.Typing.TheVariants.{Number, Variable, Cell, Pointer, Nothing, Function, Untyped}
use Rattle.vk_rules_book.specs.declared.contexts.Role.{Role}
use Rattle.vk_rules_book.specs.declared.contexts.Role.TheVariants as role
use Rattle.vk_rules_book.specs.Scopes.{Scope, Meaning, a_variable, an_object, a_function, meaning_of}

abbrev pub same_type : Ty → Ty → Bool
same_type = sameb the_type

-- ---- types

-- the type of the number that an expression gives
abbrev pub number_type : Typing → Option Ty
number_type (Number t) = Some t
number_type (Variable t fixed) = Some t
number_type (Cell t written) = Some t
number_type (Pointer to written) = None
number_type Nothing = None
number_type Function = None
number_type Untyped = None

abbrev pub is_number : Typing → Bool
is_number t = is_some (number_type t)

abbrev pub is_pointer : Typing → Bool
is_pointer (Pointer to written) = true
is_pointer _ = false

abbrev pub is_typed : Typing → Bool
is_typed Untyped = false
is_typed _ = true

abbrev pub is_nothing : Typing → Bool
is_nothing Nothing = true
is_nothing _ = false

-- goes on with the type of a number, or with a pointer; else there is no type
abbrev pub then_number : Option Ty → (Ty → Typing) → Typing
then_number (Some t) next = next t
then_number None next = Untyped

abbrev pub with_number : Typing → (Ty → Typing) → Typing
with_number t next = then_number (number_type t) next

abbrev pub with_pointer : Typing → (Ty → Bool → Typing) → Typing
with_pointer (Pointer to written) next = next to written
with_pointer _ next = Untyped

-- the address of a place in memory
abbrev pub with_address : Typing → Typing
with_address (Cell t written) = Pointer t written
with_address _ = Untyped

-- a pointer to elements of one type, which may be assigned where that is wanted
abbrev pub is_pointer_to : Ty → Bool → Typing → Bool
is_pointer_to to written (Pointer to' written') = same_type to to' && (not written || written')
is_pointer_to to written _ = false

-- an argument has the type that the parameter wants
abbrev pub is_argument : Option CType → Typing → Bool
is_argument None t = is_number t || is_pointer t
is_argument (Some Void) t = true
is_argument (Some (Int t)) typing = is_number typing
is_argument (Some (Ptr to written)) typing = is_pointer_to to written typing

-- The role takes an expression of this type. Of one without a type nothing is judged, and whether something is a place is judged
-- by C10 alone.
abbrev pub takes_typed : Role → Typing → Bool
takes_typed role.Value t = is_number t
takes_typed role.Added t = is_pointer t
takes_typed (role.Base direct) t = is_pointer t
takes_typed role.Address t = true
takes_typed role.Place t = true
takes_typed (role.Argument wanted) t = is_argument wanted t
takes_typed role.Whole t = is_number t || is_nothing t

abbrev pub takes : Role → Typing → Bool
takes r t = not (is_typed t) || takes_typed r t

-- ---- sums

abbrev pub is_sum : BinOp → Bool
is_sum Add = true
is_sum Sub = true
is_sum _ = false

abbrev pub is_plus : BinOp → Bool
is_plus Add = true
is_plus _ = false

-- `P + E` and `P - E`, and `E + P`, where P is a pointer
abbrev pub moves_left : BinOp → Typing → Bool
moves_left op left = is_sum op && is_pointer left

abbrev pub moves_right : BinOp → Typing → Typing → Bool
moves_right op left right = is_plus op && (not (is_pointer left) && is_pointer right)

abbrev pub left_role : BinOp → Typing → Typing → Role
left_role op left right = cond (moves_left op left) role.Added role.Value

abbrev pub right_role : BinOp → Typing → Typing → Role
right_role op left right = cond (moves_right op left right) role.Added role.Value

abbrev pub binary_typing : BinOp → Typing → Typing → Typing
binary_typing op left right =
    cond (moves_left op left) (with_number right (λ t. left))
    (cond (moves_right op left right) (with_number left (λ t. right))
    (with_number left (λ s. with_number right (λ t. Number (binary_type op s t)))))

-- ---- other operators

abbrev pub pointed_typing : Typing → Typing
pointed_typing operand = with_pointer operand (λ to written. Cell to written)

abbrev pub element_typing : Typing → Typing → Typing
element_typing base subscript = with_pointer base (λ to written. with_number subscript (λ t. Cell to written))

abbrev pub unary_typing : UnOp → Typing → Typing
unary_typing op operand = with_number operand (λ t. Number (unary_type op t))

abbrev pub cast_typing : Ty → Typing → Typing
cast_typing ty operand = with_number operand (λ t. Number ty)

unfoldable pub choice_typing : Typing → Typing → Typing → Typing
choice_typing condition first second =
    with_number condition (λ c. with_number first (λ s. with_number second (λ t. Number (common_type s t))))

-- ---- names and calls

abbrev pub name_typing : Option Meaning → Typing
name_typing None = Untyped
name_typing (Some (a_variable Void fixed)) = Untyped
name_typing (Some (a_variable (Int t) fixed)) = Variable t fixed
name_typing (Some (a_variable (Ptr to written) fixed)) = Pointer to written
name_typing (Some (an_object t true fixed)) = Pointer t (not fixed)
name_typing (Some (an_object t false fixed)) = Cell t (not fixed)
name_typing (Some (a_function result params is_simd)) = Function

-- the parameters that the arguments of a call are for
abbrev pub wanted_types : Option Meaning → List CType
wanted_types (Some (a_function result params is_simd)) = params
wanted_types _ = []

-- each argument has a type that its parameter takes
unfoldable pub are_arguments : List CType → List Typing → Bool
are_arguments wanted [] = true
are_arguments [] (t ∷ ts) = is_typed t && (is_argument None t && are_arguments [] ts)
are_arguments (w ∷ ws) (t ∷ ts) = is_typed t && (is_argument (Some w) t && are_arguments ws ts)

-- a call of this many arguments fits what is called
abbrev pub is_callable : Option Meaning → ℕ → Bool
is_callable (Some (a_function result params is_simd)) count = length params == count
is_callable _ count = false

abbrev pub result_typing : CType → Typing
result_typing Void = Nothing
result_typing (Int t) = Number t
result_typing (Ptr to written) = Untyped

abbrev pub called_typing : Option Meaning → Typing
called_typing (Some (a_function result params is_simd)) = result_typing result
called_typing _ = Untyped

abbrev pub call_typing : Option Meaning → List Typing → Typing
call_typing meaning ts = cond (are_arguments (wanted_types meaning) ts && is_callable meaning (length ts)) (called_typing meaning) Untyped

-- ---- expressions

module _ (scope : Scope) where
  abbrev mutual
    pub typing_of : Tree → Typing
    typing_of (int l k t value) = Number t
    typing_of (name l k id) = name_typing (meaning_of scope id)
    typing_of (index l k base subscript) = element_typing (typing_of base) (typing_of subscript)
    typing_of (deref l k operand) = pointed_typing (typing_of operand)
    typing_of (addr l k operand) = with_address (typing_of operand)
    typing_of (unary l k op operand) = unary_typing op (typing_of operand)
    typing_of (binary l k op left right) = binary_typing op (typing_of left) (typing_of right)
    typing_of (choice l k condition first second) = choice_typing (typing_of condition) (typing_of first) (typing_of second)
    typing_of (cast l k t operand) = cast_typing t (typing_of operand)
    typing_of (call l k id arguments) = call_typing (meaning_of scope id) (typings_of arguments)

    pub typings_of : Trees → List Typing
    typings_of no_trees = []
    typings_of (more_trees e es) = typing_of e ∷ typings_of es
