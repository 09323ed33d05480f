-- The rules on expressions: C8, C9, C10, C16, D15 and D16.
use Rattle.std.specs.Prelude.{ℕ, ◌==◌, Bool, true, false, ◌&&◌, not, List, [], ◌++◌, length, Option, Some, is_none, is_some}
use Rattle.vk_kinds.specs.declared.heads.CType.TheVariants.{Ptr}
use Rattle.vk_ast.specs.declared.names.NameId.{NameId}
use Rattle.vk_ast.specs.Tree.{Tree, Trees, name, index, deref}
use Rattle.vk_unit_rules.specs.declared.rules.UnitRule.TheVariants.{C8, C9, C10, C16, D15, D16}
use Rattle.vk_rules_book.specs.declared.faults.Fault.{Fault}
use Rattle.vk_rules_book.specs.declared.contexts.Around.{Around}
use Rattle.vk_rules_book.specs.declared.contexts.Role.{Role}
use Rattle.vk_rules_book.specs.declared.contexts.Role.TheVariants as role
use Rattle.vk_rules_book.specs.declared.typings.Typing.{Typing}
use Rattle.vk_rules_book.specs.declared.typings.Typing.TheVariants.{Variable, Cell, Untyped}
use Rattle.vk_rules_book.specs.Faults.{when, fault_at, fault_with}
use Rattle.vk_rules_book.specs.Places.{line_of, token_of}
use Rattle.vk_rules_book.specs.Scopes.{Scope, Meaning, a_variable, an_object, a_function, meaning_of, is_long}
use Rattle.vk_rules_book.specs.Typings.{takes, wanted_types, are_arguments, is_callable, typing_of, typings_of}

-- C8: a name that is not declared
abbrev pub is_undeclared : Option Meaning → Bool
is_undeclared meaning = is_none meaning

-- C9: what holds an expression does not take its type
abbrev pub is_ill_typed : Role → Typing → Bool
is_ill_typed r t = not (takes r t)

-- C9: a call of what is no function, or with a wrong number of arguments, each of which is what is wanted there
abbrev pub is_wrong_call : Option Meaning → List Typing → Bool
is_wrong_call meaning ts = is_some meaning && (are_arguments (wanted_types meaning) ts && not (is_callable meaning (length ts)))

-- a name, an element or `*p`; all else is no place
abbrev pub has_form_of_place : Tree → Bool
has_form_of_place (name l k id) = true
has_form_of_place (index l k b subscript) = true
has_form_of_place (deref l k operand) = true
has_form_of_place _ = false

-- a place that may be assigned; nothing is said of one that breaks C8 or C9
abbrev pub may_be_assigned : Typing → Bool
may_be_assigned Untyped = true
may_be_assigned (Variable t fixed) = not fixed
may_be_assigned (Cell t written) = written
may_be_assigned _ = false

-- a place in memory; nothing is said of one that breaks C8 or C9
abbrev pub may_have_address : Typing → Bool
may_have_address Untyped = true
may_have_address (Cell t written) = true
may_have_address _ = false

-- C10: assignment to what is no place, is `const`, an array or a pointer parameter; `&` of what is no place, an array, a local
-- variable or a parameter
abbrev pub is_wrong_place : Role → Tree → Typing → Bool
is_wrong_place role.Place e t = not (has_form_of_place e && may_be_assigned t)
is_wrong_place role.Address e t = not (has_form_of_place e && may_have_address t)
is_wrong_place _ e t = false

-- D15: an object that is not `const`
abbrev pub is_changing : Option Meaning → Bool
is_changing (Some (an_object t is_array fixed)) = not fixed
is_changing _ = false

-- D15: a call of `print`, or of another function without directives
abbrev pub is_plain_function : Option Meaning → Bool
is_plain_function (Some (a_function result params is_simd)) = not is_simd
is_plain_function _ = false

-- the name of a written pointer, which is a parameter
abbrev pub is_written_parameter : Option Meaning → Bool
is_written_parameter (Some (a_variable (Ptr to written) fixed)) = written
is_written_parameter _ = false

-- `*p` or `p[0]` that is not the operand of `&`, or a whole argument for a written pointer
abbrev pub lets_written : Role → Bool
lets_written (role.Base direct) = direct
lets_written (role.Argument (Some (Ptr to written))) = written
lets_written _ = false

-- D16: a written pointer used otherwise than so
abbrev pub is_free_pointer : Role → Option Meaning → Bool
is_free_pointer r meaning = is_written_parameter meaning && not (lets_written r)

-- in the body of a function with directives
abbrev pub is_simd : Around → Bool
is_simd around = not (around.directive == 0)

-- a name that stands as an expression: C8, C16 (an identifier above 1024 bytes), D15, D16
abbrev pub name_faults : List (List ℕ) → Around → Role → (line token : ℕ) → NameId → Option Meaning → List Fault
name_faults texts around r l k id meaning =
    when (is_undeclared meaning) (fault_at l k C8)
    ++ (when (is_long texts id) (fault_at l k C16)
    ++ (when (is_simd around && is_changing meaning) (fault_with l k D15 around.directive)
    ++ when (is_simd around && is_free_pointer r meaning) (fault_with l k D16 around.directive)))

abbrev pub own_faults : List (List ℕ) → Around → Scope → Role → Tree → List Fault
own_faults texts around scope r (name l k id) = name_faults texts around r l k id (meaning_of scope id)
own_faults texts around scope r e = []

-- an expression: C9 and C10, and what its name breaks
unfoldable pub expression_faults : List (List ℕ) → Around → Scope → Role → Tree → List Fault
expression_faults texts around scope r e =
    when (is_ill_typed r (typing_of scope e)) (fault_at (line_of e) (token_of e) C9)
    ++ (when (is_wrong_place r e (typing_of scope e)) (fault_at (line_of e) (token_of e) C10)
    ++ own_faults texts around scope r e)

-- a call whose arguments have these types: C8, C9, C16, D15
unfoldable pub call_faults : List (List ℕ) → Around → (line token : ℕ) → NameId → Option Meaning → List Typing → List Fault
call_faults texts around l k id meaning ts =
    when (is_undeclared meaning) (fault_at l k C8)
    ++ (when (is_wrong_call meaning ts) (fault_at l k C9)
    ++ (when (is_long texts id) (fault_at l k C16)
    ++ when (is_simd around && is_plain_function meaning) (fault_with l k D15 around.directive)))

unfoldable pub called_faults : List (List ℕ) → Around → Scope → (line token : ℕ) → NameId → Trees → List Fault
called_faults texts around scope l k id arguments =
    call_faults texts around l k id (meaning_of scope id) (typings_of scope arguments)
