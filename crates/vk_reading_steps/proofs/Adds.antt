-- Evaluations only add to the events.
use Rattle.std.proofs.Common.{ℕ, Bool, true, false, cond, List, [], ◌∷◌, ◌++◌, Option, Some, None, ℤ, pos, neg_ℤ, ◌+ℤ◌, Result, Ok, Err, sym, ap, ◌∙◌, append_assoc, append-nil}
use Rattle.vk_types.specs.declared.types.Ty.{Ty}
use Rattle.vk_types.specs.declared.types.Stop.{Stop}
use Rattle.vk_types.specs.Numbers.{wrap_number}
use Rattle.vk_types.specs.Operators.{truth}
use Rattle.vk_types.specs.Conversions.{common_type}
use Rattle.vk_types.specs.declared.types.Stop.TheVariants.{Bounds}
use Rattle.vk_kinds.specs.declared.heads.CType.{CType}
use Rattle.vk_ast.specs.declared.names.NameId.{NameId}
use Rattle.vk_ast.specs.declared.expressions.BinOp.{BinOp}
use Rattle.vk_ast.specs.declared.expressions.BinOp.TheVariants.{Add, Sub, Mul, Div, Rem, And, Or, Xor, Shl, Shr, Eq, Ne, Lt, Le, Gt, Ge, LogAnd, LogOr}
use Rattle.vk_ast.specs.Tree.{Tree, Trees, int, name, index, deref, addr, unary, binary, choice, cast, call, no_trees, more_trees}
use Rattle.vk_numbers.specs.Operators.{is_on, unary_number, binary_number}
use Rattle.vk_rules_book.specs.declared.typings.Typing.{Typing}
use Rattle.vk_rules_book.specs.Scopes.{Scope, Meaning, a_variable, an_object, a_function, meaning_of}
use Rattle.vk_rules_book.specs.Typings.{moves_left, moves_right, wanted_types, typing_of}
use Rattle.vk_meaning.specs.World.{Array, Event}
use Rattle.vk_meaning.specs.Data.{Datum, number, pointer, nothing, number_in, as_type, Value, got, halts, with_value, Action, given, and_then, then_number, fits_offset, pointer_at, moved, named_element, at_element, loaded, stored}
use Rattle.vk_meaning.specs.Meaning.{world_of}
use Rattle.vk_meaning.specs.Types.{next_type, next_types}
use Rattle.vk_meaning.specs.Points.{Variable, variable_named}
use Rattle.vk_meaning.specs.Expressions.{Context, Variables, integer_type, pointed_type, object_value, name_value, answered, both, truth_of, integers_value, moved_by, operator_value, chosen, converted, subscripted, value_of, address_of, with_arguments}
use Rattle.vk_reading.specs.Reading.{AreFirst}
use Rattle.vk_reading_steps.specs.Runs.{Adds}

first_itself : (es : List Event) → AreFirst es es
first_itself es = record { rest = []; parts = sym (append-nil es) }

pub first_trans : {es fs gs : List Event} → AreFirst es fs → AreFirst fs gs → AreFirst es gs
first_trans {es = es} h k = record { rest = h.rest ++ k.rest; parts = k.parts ∙ ap (λ xs. xs ++ k.rest) h.parts ∙ append_assoc es h.rest k.rest }

pub adds_given : (d : Datum) → Adds (given d)
adds_given d = record { adds = λ w. first_itself w.events }

adds_bounds : Adds (λ w. halts Bounds w)
adds_bounds = record { adds = λ w. first_itself w.events }

values_add : {f : Datum → Action} (es : List Event) (v : Value) → AreFirst es (world_of v).events → ((d : Datum) → Adds (f d)) → AreFirst es (world_of (with_value v f)).events
values_add es (got d w) h k = first_trans h ((k d).adds w)
values_add es (halts x w) h k = h

pub adds_then : {a : Action} {f : Datum → Action} → Adds a → ((d : Datum) → Adds (f d)) → Adds (and_then a f)
adds_then {a = a} h k = record { adds = λ w. values_add w.events (a w) (h.adds w) k }

pub adds_number : {a : Action} {f : ℤ → Action} → Adds a → ((z : ℤ) → Adds (f z)) → Adds (then_number a f)
adds_number h k = adds_then h (λ d. k (number_in d))

pub adds_cond : {a b : Action} (t : Bool) → Adds a → Adds b → Adds (cond t a b)
adds_cond true h k = h
adds_cond false h k = k

pub adds_answered : (r : Result ℤ Stop) → Adds (answered r)
adds_answered (Ok z) = record { adds = λ w. first_itself w.events }
adds_answered (Err x) = record { adds = λ w. first_itself w.events }

adds_pointer_at : (fits : Bool) (a : ℕ) (o : ℤ) → Adds (pointer_at fits a o)
adds_pointer_at true a o = record { adds = λ w. first_itself w.events }
adds_pointer_at false a o = record { adds = λ w. first_itself w.events }

pub adds_moved : (d : Datum) (n : ℤ) → Adds (moved d n)
adds_moved (number z) n = record { adds = λ w. first_itself w.events }
adds_moved (pointer a o) n = adds_pointer_at (fits_offset (o +ℤ n)) a (o +ℤ n)
adds_moved nothing n = record { adds = λ w. first_itself w.events }

pub adds_moved_by : (op : BinOp) (d : Datum) (n : ℤ) → Adds (moved_by op d n)
adds_moved_by Sub d n = adds_moved d (neg_ℤ n)
adds_moved_by Add d n = adds_moved d n
adds_moved_by Mul d n = adds_moved d n
adds_moved_by Div d n = adds_moved d n
adds_moved_by Rem d n = adds_moved d n
adds_moved_by And d n = adds_moved d n
adds_moved_by Or d n = adds_moved d n
adds_moved_by Xor d n = adds_moved d n
adds_moved_by Shl d n = adds_moved d n
adds_moved_by Shr d n = adds_moved d n
adds_moved_by Eq d n = adds_moved d n
adds_moved_by Ne d n = adds_moved d n
adds_moved_by Lt d n = adds_moved d n
adds_moved_by Le d n = adds_moved d n
adds_moved_by Gt d n = adds_moved d n
adds_moved_by Ge d n = adds_moved d n
adds_moved_by LogAnd d n = adds_moved d n
adds_moved_by LogOr d n = adds_moved d n

adds_element : (e : Option ℕ) {f : ℕ → Action} → ((i : ℕ) → Adds (f i)) → Adds (at_element e f)
adds_element None k = record { adds = λ w. first_itself w.events }
adds_element (Some i) k = k i

pub adds_loaded : (arrays : List Array) (t : Ty) (d : Datum) → Adds (loaded arrays t d)
adds_loaded arrays t d = adds_element (named_element arrays d) (λ i. record { adds = λ w. first_itself w.events })

pub adds_stored : (arrays : List Array) (d : Datum) (z : ℤ) → Adds (stored arrays d z)
adds_stored arrays d z = adds_element (named_element arrays d) (λ i. record { adds = λ w. first_itself w.events })

adds_both : {a b : Action} {f : ℤ → ℤ → Action} → Adds a → Adds b → ((x y : ℤ) → Adds (f x y)) → Adds (both a b f)
adds_both h k g = adds_number h (λ x. adds_number k (g x))

adds_truth : {a : Action} → Adds a → Adds (truth_of a)
adds_truth h = adds_number h (λ z. adds_given (number (truth (is_on z))))

adds_integers : (op : BinOp) (s t : Ty) {a b : Action} → Adds a → Adds b → Adds (integers_value op s t a b)
adds_integers LogAnd s t h k = adds_number h (λ x. adds_cond (is_on x) (adds_truth k) (adds_given (number (pos 0))))
adds_integers LogOr s t h k = adds_number h (λ x. adds_cond (is_on x) (adds_given (number (pos 1))) (adds_truth k))
adds_integers Add s t h k = adds_both h k (λ x y. adds_answered (binary_number Add s t x y))
adds_integers Sub s t h k = adds_both h k (λ x y. adds_answered (binary_number Sub s t x y))
adds_integers Mul s t h k = adds_both h k (λ x y. adds_answered (binary_number Mul s t x y))
adds_integers Div s t h k = adds_both h k (λ x y. adds_answered (binary_number Div s t x y))
adds_integers Rem s t h k = adds_both h k (λ x y. adds_answered (binary_number Rem s t x y))
adds_integers And s t h k = adds_both h k (λ x y. adds_answered (binary_number And s t x y))
adds_integers Or s t h k = adds_both h k (λ x y. adds_answered (binary_number Or s t x y))
adds_integers Xor s t h k = adds_both h k (λ x y. adds_answered (binary_number Xor s t x y))
adds_integers Shl s t h k = adds_both h k (λ x y. adds_answered (binary_number Shl s t x y))
adds_integers Shr s t h k = adds_both h k (λ x y. adds_answered (binary_number Shr s t x y))
adds_integers Eq s t h k = adds_both h k (λ x y. adds_answered (binary_number Eq s t x y))
adds_integers Ne s t h k = adds_both h k (λ x y. adds_answered (binary_number Ne s t x y))
adds_integers Lt s t h k = adds_both h k (λ x y. adds_answered (binary_number Lt s t x y))
adds_integers Le s t h k = adds_both h k (λ x y. adds_answered (binary_number Le s t x y))
adds_integers Gt s t h k = adds_both h k (λ x y. adds_answered (binary_number Gt s t x y))
adds_integers Ge s t h k = adds_both h k (λ x y. adds_answered (binary_number Ge s t x y))

adds_operator : (op : BinOp) (s t : Typing) {a b : Action} → Adds a → Adds b → Adds (operator_value op s t a b)
adds_operator op s t h k =
    adds_cond (moves_left op s) (adds_then h (λ p. adds_number k (λ n. adds_moved_by op p n)))
    (adds_cond (moves_right op s t) (adds_then k (λ p. adds_number h (λ n. adds_moved_by op p n)))
    (adds_integers op (integer_type s) (integer_type t) h k))

pub adds_chosen : {a b c : Action} → Adds a → Adds b → Adds c → Adds (chosen a b c)
adds_chosen h k g = adds_number h (λ z. adds_cond (is_on z) k g)

pub adds_converted : (t : Ty) {a : Action} → Adds a → Adds (converted t a)
adds_converted t h = adds_number h (λ z. adds_given (number (wrap_number t z)))

adds_object : (arrays : List Array) (a : ℕ) (m : Option Meaning) → Adds (object_value arrays a m)
adds_object arrays a None = adds_given nothing
adds_object arrays a (Some (a_variable t fixed)) = adds_given nothing
adds_object arrays a (Some (an_object t is_array fixed)) = adds_cond is_array (adds_given (pointer a (pos 0))) (adds_loaded arrays t (pointer a (pos 0)))
adds_object arrays a (Some (a_function r ps is_simd)) = adds_given nothing

module _ (c : Context) (calls : (id : NameId) (ds : List Datum) → Adds (c.call id ds)) (scope : Scope) (vs : Variables) where
  adds_name : (v : Option Variable) (id : NameId) → Adds (name_value c scope vs v id)
  adds_name (Some v) id = adds_given (vs v.number)
  adds_name None id = adds_object c.arrays (c.array id) (meaning_of scope id)

  adds_subscripted : {a b : Action} → Adds a → Adds b → Adds (subscripted a b)
  adds_subscripted h k = adds_then h (λ p. adds_number k (λ n. adds_moved p n))

  mutual
    pub adds_value : (e : Tree) → Adds (value_of c scope vs e)
    adds_value (int l k t n) = adds_given (number (wrap_number t (pos n)))
    adds_value (name l k id) = adds_name (variable_named scope id) id
    adds_value (index l k base subscript) = adds_then (adds_subscripted (adds_value base) (adds_value subscript)) (λ p. adds_loaded c.arrays (pointed_type (typing_of scope base)) p)
    adds_value (deref l k operand) = adds_then (adds_value operand) (λ p. adds_loaded c.arrays (pointed_type (typing_of scope operand)) p)
    adds_value (addr l k operand) = adds_address operand
    adds_value (unary l k op operand) = adds_number (adds_value operand) (λ z. adds_answered (unary_number op (integer_type (typing_of scope operand)) z))
    adds_value (binary l k op left right) = adds_operator op (typing_of scope left) (typing_of scope right) (adds_value left) (adds_value right)
    adds_value (choice l k condition first second) = adds_converted (common_type (integer_type (typing_of scope first)) (integer_type (typing_of scope second))) (adds_chosen (adds_value condition) (adds_value first) (adds_value second))
    adds_value (cast l k t operand) = adds_converted t (adds_value operand)
    adds_value (call l k id arguments) = adds_arguments (wanted_types (meaning_of scope id)) arguments [] (c.call id) (calls id)

    pub adds_address : (e : Tree) → Adds (address_of c scope vs e)
    adds_address (int l k t n) = adds_given nothing
    adds_address (name l k id) = adds_given (pointer (c.array id) (pos 0))
    adds_address (index l k base subscript) = adds_subscripted (adds_value base) (adds_value subscript)
    adds_address (deref l k operand) = adds_value operand
    adds_address (addr l k operand) = adds_given nothing
    adds_address (unary l k op operand) = adds_given nothing
    adds_address (binary l k op left right) = adds_given nothing
    adds_address (choice l k condition first second) = adds_given nothing
    adds_address (cast l k t operand) = adds_given nothing
    adds_address (call l k id arguments) = adds_given nothing

    pub adds_arguments : (ts : List CType) (es : Trees) (before : List Datum) (next : List Datum → Action) → ((ds : List Datum) → Adds (next ds)) →
        Adds (with_arguments c scope vs ts es before next)
    adds_arguments ts no_trees before next k = k before
    adds_arguments ts (more_trees e es) before next k =
        adds_then (adds_value e) (λ d. adds_arguments (next_types ts) es (before ++ as_type (next_type ts) d ∷ []) next k)
