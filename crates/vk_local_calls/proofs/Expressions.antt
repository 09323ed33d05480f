-- A tame expression has no events, where those of its calls have none.
use Rattle.std.proofs.Common.{◌≡◌, Bool, true, false, List, [], ◌∷◌, ◌++◌, Option, Some, None, pos, inl, inr}
use Rattle.vk_types.specs.Numbers.{wrap_number}
use Rattle.vk_types.specs.Conversions.{common_type}
use Rattle.vk_kinds.specs.declared.heads.CType.{CType}
use Rattle.vk_ast.specs.declared.names.NameId.{NameId}
use Rattle.vk_ast.specs.Tree.{Tree, Trees, int, name, index, deref, addr, unary, binary, choice, cast, call, no_trees, more_trees}
use Rattle.vk_numbers.specs.Operators.{is_on, unary_number}
use Rattle.vk_rules_book.specs.Scopes.{Scope, meaning_of}
use Rattle.vk_rules_book.specs.Typings.{wanted_types, typing_of}
use Rattle.vk_meaning.specs.Data.{Datum, number, pointer, nothing, as_type, Action}
use Rattle.vk_meaning.specs.Points.{Variable, variable_named}
use Rattle.vk_meaning.specs.Types.{is_written_type, next_type, next_types}
use Rattle.vk_meaning.specs.Expressions.{Context, Variables, integer_type, name_value, pointed_type, value_of, address_of, with_arguments}
use Rattle.vk_meaning_laws.specs.Tame.{AreTame, IsTame, IsTameArgument, IsTamePlace, IsZero, is_written_name}
use Rattle.vk_local_calls.proofs.Silence.{Hushes, hush_answered, hush_cond, hush_converted, hush_given, hush_number, hush_object, hush_operator, hush_read, hush_subscripted, hush_then}

-- calls of these functions have no events
abbrev pub CallsHush : Context → (lane : NameId → Bool) → Type 0
CallsHush c lane = (id : NameId) → lane id ≡ true → (ds : List Datum) → Hushes (c.call id ds)

module _ (c : Context) (lane : NameId → Bool) (calls : CallsHush c lane) (scope : Scope) (vs : Variables) where
  hush_name : (id : NameId) (x : Option Variable) → Hushes (name_value c scope vs x id)
  hush_name id None = hush_object c.arrays (c.array id) (meaning_of scope id)
  hush_name id (Some x) = hush_given (vs x.number)

  pub hush_written : (e : Tree) → is_written_name scope e ≡ true → Hushes (value_of c scope vs e)
  hush_written (name l k id) h = hush_name id (variable_named scope id)
  hush_written e h = cc

  pub hush_zero : (e : Tree) → IsZero e → Hushes (value_of c scope vs e)
  hush_zero (int l k t n) h = hush_given (number (wrap_number t (pos n)))
  hush_zero e h = absurd h

  hush_argument : (written : Bool) (e : Tree) → (IsTame lane scope e → Hushes (value_of c scope vs e)) → IsTameArgument written (is_written_name scope e ≡ true) (IsTame lane scope e) → Hushes (value_of c scope vs e)
  hush_argument true e k h = hush_written e h
  hush_argument false e k h = k h

  mutual
    pub hush_expression : (e : Tree) → IsTame lane scope e → Hushes (value_of c scope vs e)
    hush_expression (int l k t n) h = hush_given (number (wrap_number t (pos n)))
    hush_expression (name l k id) h = hush_name id (variable_named scope id)
    hush_expression (index l k base subscript) (inl h) =
        hush_read c.arrays (pointed_type (typing_of scope base)) (hush_subscripted (hush_written base h.0) (hush_zero subscript h.1))
    hush_expression (index l k base subscript) (inr h) =
        hush_read c.arrays (pointed_type (typing_of scope base)) (hush_subscripted (hush_expression base h.0) (hush_expression subscript h.1))
    hush_expression (deref l k operand) (inl h) = hush_read c.arrays (pointed_type (typing_of scope operand)) (hush_written operand h)
    hush_expression (deref l k operand) (inr h) = hush_read c.arrays (pointed_type (typing_of scope operand)) (hush_expression operand h)
    hush_expression (addr l k operand) h = hush_place operand h
    hush_expression (unary l k op operand) h = hush_number (hush_expression operand h) (λ z. hush_answered (unary_number op (integer_type (typing_of scope operand)) z))
    hush_expression (binary l k op left right) h = hush_operator op (typing_of scope left) (typing_of scope right) (hush_expression left h.0) (hush_expression right h.1)
    hush_expression (choice l k condition first second) h =
        hush_converted (common_type (integer_type (typing_of scope first)) (integer_type (typing_of scope second)))
        (hush_number (hush_expression condition h.0) (λ z. hush_cond (is_on z) (hush_expression first h.1) (hush_expression second h.2)))
    hush_expression (cast l k t operand) h = hush_converted t (hush_expression operand h)
    hush_expression (call l k id arguments) h = hush_arguments (wanted_types (meaning_of scope id)) arguments [] (c.call id) h.2 (λ ds. calls id h.0 ds)

    pub hush_place : (e : Tree) → IsTamePlace lane scope e → Hushes (address_of c scope vs e)
    hush_place (name l k id) h = hush_given (pointer (c.array id) (pos 0))
    hush_place (index l k base subscript) h = hush_subscripted (hush_expression base h.0) (hush_expression subscript h.1)
    hush_place (deref l k operand) h = hush_expression operand h
    hush_place e h = hush_given nothing

    hush_arguments : (ts : List CType) (es : Trees) (before : List Datum) (next : List Datum → Action) → AreTame lane scope ts es → ((ds : List Datum) → Hushes (next ds)) → Hushes (with_arguments c scope vs ts es before next)
    hush_arguments ts no_trees before next h k = k before
    hush_arguments ts (more_trees e es) before next h k =
        hush_then (hush_argument (is_written_type (next_type ts)) e (λ t. hush_expression e t) h.0)
        (λ d. hush_arguments (next_types ts) es (before ++ as_type (next_type ts) d ∷ []) next h.1 k)
