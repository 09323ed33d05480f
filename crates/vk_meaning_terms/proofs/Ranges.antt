-- The number that an expression gives is one of its type. Where it gives a pointer or nothing, that counts as 0.
use Rattle.std.proofs.Common.{◌≡◌, ℕ, ◌+◌, Bool, true, false, cond, ◌&&◌, not, List, [], ◌∷◌, length, Option, Some, None, ℤ, pos, neg_ℤ, ◌+ℤ◌, unwrap_or, Result, Ok, Err, refl, subst, sym, ap, rules, ◌∙◌}
use Rattle.std.specs.Option.{option_or, option_map}
use Rattle.vk_types.specs.declared.types.Ty.{Ty}
use Rattle.vk_types.specs.declared.types.Ty.TheVariants.{I32}
use Rattle.vk_types.specs.declared.types.Stop.{Stop}
use Rattle.vk_types.specs.declared.types.Op1.TheVariants as ones
use Rattle.vk_types.specs.declared.types.Op2.{Op2}
use Rattle.vk_types.specs.declared.types.Op2.TheVariants as twos
use Rattle.vk_types.specs.Numbers.{wrap_number, number_of, IsInRange}
use Rattle.vk_types.specs.Operators.{op1_number, result_type, exact_unary, truth}
use Rattle.vk_types.specs.Conversions.{common_type, promoted}
use Rattle.vk_kinds.specs.declared.heads.CType.{CType}
use Rattle.vk_kinds.specs.declared.heads.CType.TheVariants.{Void, Int, Ptr}
use Rattle.vk_ast.specs.declared.names.NameId.{NameId}
use Rattle.vk_ast.specs.declared.expressions.UnOp.{UnOp}
use Rattle.vk_ast.specs.declared.expressions.UnOp.TheVariants.{Plus, Neg, Not, LogNot}
use Rattle.vk_ast.specs.declared.expressions.BinOp.{BinOp}
use Rattle.vk_ast.specs.declared.expressions.BinOp.TheVariants.{Add, Sub, Mul, Div, Rem, And, Or, Xor, Shl, Shr, Eq, Ne, Lt, Le, Gt, Ge, LogAnd, LogOr}
use Rattle.vk_ast.specs.Tree.{Tree, Trees, int, name, index, deref, addr, unary, binary, choice, cast, call, no_trees, more_trees}
use Rattle.vk_numbers.specs.Types.{unary_type, binary_type}
use Rattle.vk_numbers.specs.Operators.{is_on, result_in, shift_result, unary_number, binary_number}
use Rattle.vk_numbers.proofs.Numbers.{wrap_in_range, op2_in_range}
use Rattle.vk_rules_book.specs.declared.contexts.Binding.{Binding}
use Rattle.vk_rules_book.specs.declared.typings.Typing.{Typing}
use Rattle.vk_rules_book.specs.declared.typings.Typing.TheVariants.{Number, Variable as AVariable, Cell, Pointer, Nothing, Function, Untyped}
use Rattle.vk_rules_book.specs.Scopes.{Scope, Meaning, a_variable, an_object, a_function, same_name, inner_or, last_binding, meaning_of}
use Rattle.vk_rules_book.specs.Typings.{number_type, then_number as typed_number, with_number, with_address, moves_left, moves_right, binary_typing, choice_typing, element_typing, pointed_typing, name_typing, wanted_types, are_arguments, is_callable, called_typing, typing_of, typings_of}
use Rattle.vk_meaning.specs.Types.{next_types}
use Rattle.vk_meaning.specs.World.{Array, array_at, World}
use Rattle.vk_meaning.specs.Data.{Datum, number, pointer, nothing, number_in, Value, got, halts, with_value, Action, given, and_then, then_number, fits_offset, pointer_at, moved, named_element, array_of, at_element, loaded}
use Rattle.vk_meaning.specs.Points.{Variable, variable_among, variable_named}
use Rattle.vk_meaning.specs.Expressions.{Context, Variables, integer_type, pointed_type, object_value, name_value, answered, integers_value, moved_by, operator_value, converted, subscripted, truth_of, value_of, address_of, with_arguments}
use Rattle.vk_meaning_terms.specs.Ranges.{IsNumberOf, IsNumberOfTyping, AreRanged, result_in as result_of, CallsAreRanged}
use Rattle.vk_meaning_terms.proofs.Zero.{zero_in_range}

-- ---- operators

same_ok : (x y : ℤ) (o : Result ℤ Stop) → o ≡ Ok x → o ≡ Ok y → x ≡ y
same_ok x y o e f = cc

unary_ranged : (op : UnOp) (t : Ty) (z r : ℤ) → unary_number op t z ≡ Ok r → IsInRange (unary_type op t) r
unary_ranged Plus t z r e = subst (IsInRange (promoted t)) (same_ok (wrap_number (promoted t) z) r _ refl e) (wrap_in_range (promoted t) z)
unary_ranged Neg t z r e =
    subst (IsInRange (promoted t)) (same_ok (op1_number ones.Neg (promoted t) (wrap_number (promoted t) z)) r _ refl e) (wrap_in_range (promoted t) (exact_unary ones.Neg (promoted t) (wrap_number (promoted t) z)))
unary_ranged Not t z r e =
    subst (IsInRange (promoted t)) (same_ok (op1_number ones.Not (promoted t) (wrap_number (promoted t) z)) r _ refl e) (wrap_in_range (promoted t) (exact_unary ones.Not (promoted t) (wrap_number (promoted t) z)))
unary_ranged LogNot t z r e = op2_in_range twos.Eq (promoted t) (wrap_number (promoted t) z) (wrap_number (promoted t) (pos 0)) r e

truth_ranged : (b : Bool) → IsInRange I32 (truth b)
truth_ranged true = search rules
truth_ranged false = search rules

truth_result : (b : Bool) (r : ℤ) (o : Result ℤ Stop) → o ≡ Ok (truth b) → o ≡ Ok r → IsInRange I32 r
truth_result b r o f e = subst (IsInRange I32) (same_ok (truth b) r o f e) (truth_ranged b)

in_type_ranged : (op : Op2) (t : Ty) (x y r : ℤ) → result_in op t x y ≡ Ok r → IsInRange (result_type op t) r
in_type_ranged op t x y r e = op2_in_range op t (wrap_number t x) (wrap_number t y) r e

shifted_ranged : (op : Op2) (t : Ty) (x y r : ℤ) → shift_result op t x y ≡ Ok r → IsInRange (result_type op t) r
shifted_ranged op t x y r e = op2_in_range op t (wrap_number t x) y r e

binary_ranged : (op : BinOp) (s t : Ty) (x y r : ℤ) → binary_number op s t x y ≡ Ok r → IsInRange (binary_type op s t) r
binary_ranged Add s t x y r e = in_type_ranged twos.Add (common_type s t) x y r e
binary_ranged Sub s t x y r e = in_type_ranged twos.Sub (common_type s t) x y r e
binary_ranged Mul s t x y r e = in_type_ranged twos.Mul (common_type s t) x y r e
binary_ranged Div s t x y r e = in_type_ranged twos.Div (common_type s t) x y r e
binary_ranged Rem s t x y r e = in_type_ranged twos.Rem (common_type s t) x y r e
binary_ranged And s t x y r e = in_type_ranged twos.And (common_type s t) x y r e
binary_ranged Or s t x y r e = in_type_ranged twos.Or (common_type s t) x y r e
binary_ranged Xor s t x y r e = in_type_ranged twos.Xor (common_type s t) x y r e
binary_ranged Shl s t x y r e = shifted_ranged twos.Shl (promoted s) x y r e
binary_ranged Shr s t x y r e = shifted_ranged twos.Shr (promoted s) x y r e
binary_ranged Eq s t x y r e = in_type_ranged twos.Eq (common_type s t) x y r e
binary_ranged Ne s t x y r e = in_type_ranged twos.Ne (common_type s t) x y r e
binary_ranged Lt s t x y r e = in_type_ranged twos.Lt (common_type s t) x y r e
binary_ranged Le s t x y r e = in_type_ranged twos.Le (common_type s t) x y r e
binary_ranged Gt s t x y r e = in_type_ranged twos.Lt (common_type s t) y x r e
binary_ranged Ge s t x y r e = in_type_ranged twos.Le (common_type s t) y x r e
binary_ranged LogAnd s t x y r e = truth_result (is_on y) r (Ok (truth (is_on y))) refl e
binary_ranged LogOr s t x y r e = truth_result (is_on y) r (Ok (truth (is_on y))) refl e

-- ---- evaluations

-- P holds of what is given
abbrev Each : (Datum → Type 0) → Value → Type 0
Each P (got d w) = P d
Each P (halts x w) = Unit {0}

record Gives (P : Datum → Type 0) (a : Action) : Type 0 where
  from : (w : World) → Each P (a w)

abbrev Any : Datum → Type 0
Any d = Unit {0}

each_then : {P Q : Datum → Type 0} (x : Value) (f : Datum → Action) → Each P x → ((d : Datum) → P d → Gives Q (f d)) → Each Q (with_value x f)
each_then (got d w) f h k = (k d h).from w
each_then (halts x w) f h k = tt

each_any : (x : Value) → Each Any x
each_any (got d w) = tt
each_any (halts x w) = tt

-- whatever stands before
gives_last : {Q : Datum → Type 0} (a : Action) {f : Datum → Action} → ((d : Datum) → Gives Q (f d)) → Gives Q (and_then a f)
gives_last a {f = f} k = record { from = λ w. each_then {P = Any} (a w) f (each_any (a w)) (λ d p. k d) }

gives_cond : {Q : Datum → Type 0} {x y : Action} (b : Bool) → Gives Q x → Gives Q y → Gives Q (cond b x y)
gives_cond true h k = h
gives_cond false h k = k

each_weaken : {P Q : Datum → Type 0} (x : Value) → ((d : Datum) → P d → Q d) → Each P x → Each Q x
each_weaken (got d w) k h = k d h
each_weaken (halts x w) k h = tt

gives_weaken : {P Q : Datum → Type 0} {a : Action} → Gives P a → ((d : Datum) → P d → Q d) → Gives Q a
gives_weaken {a = a} h k = record { from = λ w. each_weaken (a w) k (h.from w) }

gives_given : {P : Datum → Type 0} (d : Datum) → P d → Gives P (given d)
gives_given d p = record { from = λ w. p }

-- in range of every type: a pointer, or nothing
abbrev IsNone : Datum → Type 0
IsNone d = number_in d ≡ pos 0

none_ranged : (typing : Typing) (d : Datum) → IsNone d → IsNumberOfTyping typing d
none_ranged typing d e t f = subst (IsInRange t) (sym e) (zero_in_range t)

abbrev IsOf : Ty → Datum → Type 0
IsOf t d = IsInRange t (number_in d)

same_some : (s t : Ty) (o : Option Ty) → o ≡ Some s → o ≡ Some t → s ≡ t
same_some s t o e f = cc

of_typing : (typing : Typing) (s : Ty) → number_type typing ≡ Some s → (d : Datum) → IsOf s d → IsNumberOfTyping typing d
of_typing typing s e d h t f = subst (λ (u : Ty). IsOf u d) (same_some s t (number_type typing) e f) h

-- an expression without a number's type
untyped : (typing : Typing) → number_type typing ≡ None → (d : Datum) → IsNumberOfTyping typing d
untyped typing e d t f = cc

gives_answered : (t : Ty) (r : Result ℤ Stop) → ((z : ℤ) → r ≡ Ok z → IsInRange t z) → Gives (IsOf t) (answered r)
gives_answered t (Ok z) h = record { from = λ w. h z refl }
gives_answered t (Err x) h = record { from = λ w. tt }

gives_pointer_at : (b : Bool) (a : ℕ) (o : ℤ) → Gives IsNone (pointer_at b a o)
gives_pointer_at true a o = record { from = λ w. refl }
gives_pointer_at false a o = record { from = λ w. tt }

gives_moved : (d : Datum) (n : ℤ) → Gives IsNone (moved d n)
gives_moved (number z) n = record { from = λ w. tt }
gives_moved (pointer a o) n = gives_pointer_at (fits_offset (o +ℤ n)) a (o +ℤ n)
gives_moved nothing n = record { from = λ w. tt }

gives_moved_by : (op : BinOp) (d : Datum) (n : ℤ) → Gives IsNone (moved_by op d n)
gives_moved_by Sub d n = gives_moved d (neg_ℤ n)
gives_moved_by op d n = gives_moved d n

gives_loaded : (arrays : List Array) (t : Ty) (d : Datum) → Gives (IsOf t) (loaded arrays t d)
gives_loaded arrays t d = record { from = λ w. go w (named_element arrays d) }
  where
    go : (w : World) (o : Option ℕ) → Each (IsOf t) (at_element o (λ index u. got (number (wrap_number t (number_of (array_at arrays (array_of d)).ty (u.memory (array_of d) index)))) u) w)
    go w None = tt
    go w (Some i) = wrap_in_range t (number_of (array_at arrays (array_of d)).ty (w.memory (array_of d) i))

gives_subscripted : (a b : Action) → Gives IsNone (subscripted a b)
gives_subscripted a b = gives_last a (λ p. gives_last b (λ n. gives_moved p (number_in n)))

gives_truth : (b : Action) → Gives (IsOf I32) (truth_of b)
gives_truth b = gives_last b (λ d. gives_given (number (truth (is_on (number_in d)))) (truth_ranged (is_on (number_in d))))

gives_integers : (op : BinOp) (s t : Ty) (a b : Action) → Gives (IsOf (binary_type op s t)) (integers_value op s t a b)
gives_integers LogAnd s t a b = gives_last a (λ d. gives_cond (is_on (number_in d)) (gives_truth b) (gives_given (number (pos 0)) (truth_ranged false)))
gives_integers LogOr s t a b = gives_last a (λ d. gives_cond (is_on (number_in d)) (gives_given (number (pos 1)) (truth_ranged true)) (gives_truth b))
gives_integers op s t a b =
    gives_last a (λ d. gives_last b (λ e. gives_answered (binary_type op s t) (binary_number op s t (number_in d) (number_in e)) (λ r. binary_ranged op s t (number_in d) (number_in e) r)))

gives_converted : (t : Ty) (a : Action) → Gives (IsOf t) (converted t a)
gives_converted t a = gives_last a (λ d. gives_given (number (wrap_number t (number_in d))) (wrap_in_range t (number_in d)))

-- ---- by the types of expressions

gives_none : {a : Action} (typing : Typing) → Gives IsNone a → Gives (IsNumberOfTyping typing) a
gives_none typing h = gives_weaken h (λ d e. none_ranged typing d e)

gives_untyped : (typing : Typing) → number_type typing ≡ None → (a : Action) → Gives (IsNumberOfTyping typing) a
gives_untyped typing e a = gives_weaken {P = Any} (record { from = λ w. each_any (a w) }) (λ d p. untyped typing e d)

gives_of : {a : Action} (typing : Typing) (s : Ty) → number_type typing ≡ Some s → Gives (IsOf s) a → Gives (IsNumberOfTyping typing) a
gives_of typing s e h = gives_weaken h (λ d p. of_typing typing s e d p)

one_number : {a : Action} (f : Ty → Ty) (o : Option Ty) → Gives (IsOf (f (unwrap_or o I32))) a → Gives (IsNumberOfTyping (typed_number o (λ t. Number (f t)))) a
one_number {a = a} f None h = gives_untyped Untyped refl a
one_number f (Some s) h = gives_of (Number (f s)) (f s) refl h

two_numbers : {a : Action} (f : Ty → Ty → Ty) (o p : Option Ty) → Gives (IsOf (f (unwrap_or o I32) (unwrap_or p I32))) a → Gives (IsNumberOfTyping (typed_number o (λ s. typed_number p (λ t. Number (f s t))))) a
two_numbers {a = a} f None p h = gives_untyped Untyped refl a
two_numbers {a = a} f (Some s) None h = gives_untyped Untyped refl a
two_numbers f (Some s) (Some t) h = gives_of (Number (f s t)) (f s t) refl h

three_numbers : {a : Action} (f : Ty → Ty → Ty) (c o p : Option Ty) → Gives (IsOf (f (unwrap_or o I32) (unwrap_or p I32))) a →
    Gives (IsNumberOfTyping (typed_number c (λ b. typed_number o (λ s. typed_number p (λ t. Number (f s t)))))) a
three_numbers {a = a} f None o p h = gives_untyped Untyped refl a
three_numbers f (Some b) o p h = two_numbers f o p h

gives_choice : {a : Action} (c s t : Typing) → Gives (IsOf (common_type (integer_type s) (integer_type t))) a → Gives (IsNumberOfTyping (choice_typing c s t)) a
unfolding choice_typing
gives_choice c s t h = three_numbers common_type (number_type c) (number_type s) (number_type t) h

gives_operator : (op : BinOp) (s t : Typing) (a b : Action) → Gives (IsNumberOfTyping (binary_typing op s t)) (operator_value op s t a b)
gives_operator op s t a b = go (moves_left op s) (moves_right op s t)
  where
    go : (l r : Bool) → Gives (IsNumberOfTyping (cond l (with_number t (λ u. s)) (cond r (with_number s (λ u. t)) (with_number s (λ u. with_number t (λ v. Number (binary_type op u v)))))))
        (cond l (and_then a (λ p. then_number b (moved_by op p))) (cond r (and_then b (λ p. then_number a (moved_by op p))) (integers_value op (integer_type s) (integer_type t) a b)))
    go true r = gives_none _ (gives_last a (λ p. gives_last b (λ n. gives_moved_by op p (number_in n))))
    go false true = gives_none _ (gives_last b (λ p. gives_last a (λ n. gives_moved_by op p (number_in n))))
    go false false = two_numbers (binary_type op) (number_type s) (number_type t) (gives_integers op (integer_type s) (integer_type t) a b)

gives_pointed : (arrays : List Array) (a : Action) (t : Typing) → Gives (IsNumberOfTyping (pointed_typing t)) (and_then a (loaded arrays (pointed_type t)))
gives_pointed arrays a (Pointer to written) = gives_of (Cell to written) to refl (gives_last a (λ d. gives_loaded arrays to d))
gives_pointed arrays a t = gives_untyped Untyped refl _

gives_element : (arrays : List Array) (a : Action) (base subscript : Typing) → Gives (IsNumberOfTyping (element_typing base subscript)) (and_then a (loaded arrays (pointed_type base)))
gives_element arrays a (Pointer to written) subscript = go (number_type subscript)
  where
    go : (o : Option Ty) → Gives (IsNumberOfTyping (typed_number o (λ t. Cell to written))) (and_then a (loaded arrays to))
    go None = gives_untyped Untyped refl _
    go (Some s) = gives_of (Cell to written) to refl (gives_last a (λ d. gives_loaded arrays to d))
gives_element arrays a t subscript = gives_untyped Untyped refl _

address_untyped : (t : Typing) → number_type (with_address t) ≡ None
address_untyped (Cell t written) = refl
address_untyped t = refl

-- ---- names

abbrev ctype_of : Variable → CType
ctype_of x = x.ctype

abbrev type_bound : Binding → CType
type_bound b = b.ctype

-- the variable that a name means has the type of the declaration that it means
types_agree : (k : ℕ) (bs : List Binding) (id : NameId) → option_map ctype_of (variable_among k bs id) ≡ option_map type_bound (last_binding bs id)
unfolding last_binding
types_agree k [] id = refl
types_agree k (b ∷ bs) id = go (variable_among (k + 1) bs id) (last_binding bs id) (same_name b.name id) (types_agree (k + 1) bs id)
  where
    go : (x : Option Variable) (y : Option Binding) (same : Bool) → option_map ctype_of x ≡ option_map type_bound y →
        option_map ctype_of (option_or x (cond same (Some (record { number = k; ctype = b.ctype })) None)) ≡ option_map type_bound (option_or y (cond same (Some b) None))
    go None None true e = refl
    go None None false e = refl
    go (Some x) None same e = cc
    go None (Some y) same e = cc
    go (Some x) (Some y) same e = e

gives_object : (arrays : List Array) (a : ℕ) (m : Option Meaning) → Gives (IsNumberOfTyping (name_typing m)) (object_value arrays a m)
gives_object arrays a (Some (an_object t true fixed)) = gives_none (Pointer t (not fixed)) (gives_given (pointer a (pos 0)) refl)
gives_object arrays a (Some (an_object t false fixed)) = gives_of (Cell t (not fixed)) t refl (gives_loaded arrays t (pointer a (pos 0)))
gives_object arrays a None = gives_none Untyped (gives_given nothing refl)
gives_object arrays a (Some (a_function r ps is_simd)) = gives_none Function (gives_given nothing refl)
gives_object arrays a (Some (a_variable t fixed)) = gives_none (name_typing (Some (a_variable t fixed))) (gives_given nothing refl)

variable_ranged : (t : CType) (fixed : Bool) (d : Datum) → IsNumberOf t d → IsNumberOfTyping (name_typing (Some (a_variable t fixed))) d
variable_ranged Void fixed d h = untyped Untyped refl d
variable_ranged (Int t) fixed d h = of_typing (AVariable t fixed) t refl d h
variable_ranged (Ptr to written) fixed d h = untyped (Pointer to written) refl d

-- a name that is a variable means one of its type
variable_meaning : (scope : Scope) (id : NameId) (x : Variable) → variable_named scope id ≡ Some x → (fixed : Bool) × (meaning_of scope id ≡ Some (a_variable x.ctype fixed))
unfolding meaning_of
variable_meaning scope id x e = go (last_binding scope.inner id) (sym (types_agree 0 scope.inner id) ∙ ap (option_map ctype_of) e)
  where
    go : (y : Option Binding) → option_map type_bound y ≡ Some x.ctype → (fixed : Bool) × (inner_or y (scope.file id) ≡ Some (a_variable x.ctype fixed))
    go None f = cc
    go (Some y) f = (y.fixed, ap (λ (t : Option CType). Some (a_variable (unwrap_or t Void) y.fixed)) f)

gives_name : (c : Context) (scope : Scope) (vs : Variables) (id : NameId) → AreRanged scope vs → (x : Option Variable) → variable_named scope id ≡ x →
    Gives (IsNumberOfTyping (name_typing (meaning_of scope id))) (name_value c scope vs x id)
gives_name c scope vs id h None e = gives_object c.arrays (c.array id) (meaning_of scope id)
gives_name c scope vs id h (Some x) e =
    let m : (fixed : Bool) × (meaning_of scope id ≡ Some (a_variable x.ctype fixed)) = variable_meaning scope id x e in
    subst (λ (o : Option Meaning). Gives (IsNumberOfTyping (name_typing o)) (given (vs x.number))) (sym m.1) (gives_given (vs x.number) (variable_ranged x.ctype m.0 (vs x.number) (h id x e)))

-- ---- calls

called_ranged : (b : Bool) (m : Option Meaning) (d : Datum) → IsNumberOf (result_of m) d → IsNumberOfTyping (cond b (called_typing m) Untyped) d
called_ranged false m d h = untyped Untyped refl d
called_ranged true None d h = untyped Untyped refl d
called_ranged true (Some (a_variable t fixed)) d h = untyped Untyped refl d
called_ranged true (Some (an_object t is_array fixed)) d h = untyped Untyped refl d
called_ranged true (Some (a_function Void ps is_simd)) d h = untyped Nothing refl d
called_ranged true (Some (a_function (Int t) ps is_simd)) d h = of_typing (Number t) t refl d h
called_ranged true (Some (a_function (Ptr to written) ps is_simd)) d h = untyped Untyped refl d

gives_arguments : {Q : Datum → Type 0} (c : Context) (scope : Scope) (vs : Variables) (ts : List CType) (es : Trees) (before : List Datum) (next : List Datum → Action) → ((ds : List Datum) → Gives Q (next ds)) →
    Gives Q (with_arguments c scope vs ts es before next)
gives_arguments c scope vs ts no_trees before next k = k before
gives_arguments c scope vs ts (more_trees e es) before next k = gives_last (value_of c scope vs e) (λ d. gives_arguments c scope vs (next_types ts) es _ next k)

gives_call : (c : Context) (scope : Scope) → CallsAreRanged c scope → (id : NameId) (ds : List Datum) → Gives (IsNumberOf (result_of (meaning_of scope id))) (c.call id ds)
gives_call c scope calls id ds = record { from = λ w. go w (c.call id ds w) refl }
  where
    go : (w : World) (x : Value) → c.call id ds w ≡ x → Each (IsNumberOf (result_of (meaning_of scope id))) x
    go w (got d w') e = calls id ds w w' d e
    go w (halts x w') e = tt

-- ---- expressions

module _ (c : Context) (scope : Scope) (vs : Variables) (calls : CallsAreRanged c scope) (h : AreRanged scope vs) where
  gives_value : (e : Tree) → Gives (IsNumberOfTyping (typing_of scope e)) (value_of c scope vs e)
  gives_value (int l k t n) = gives_of (Number t) t refl (gives_given (number (wrap_number t (pos n))) (wrap_in_range t (pos n)))
  gives_value (name l k id) = gives_name c scope vs id h (variable_named scope id) refl
  gives_value (index l k base subscript) = gives_element c.arrays (subscripted (value_of c scope vs base) (value_of c scope vs subscript)) (typing_of scope base) (typing_of scope subscript)
  gives_value (deref l k operand) = gives_pointed c.arrays (value_of c scope vs operand) (typing_of scope operand)
  gives_value (addr l k operand) = gives_untyped (with_address (typing_of scope operand)) (address_untyped (typing_of scope operand)) (address_of c scope vs operand)
  gives_value (unary l k op operand) =
      one_number (unary_type op) (number_type (typing_of scope operand)) (gives_last (value_of c scope vs operand)
      (λ d. gives_answered (unary_type op (integer_type (typing_of scope operand))) (unary_number op (integer_type (typing_of scope operand)) (number_in d)) (λ r. unary_ranged op (integer_type (typing_of scope operand)) (number_in d) r)))
  gives_value (binary l k op left right) = gives_operator op (typing_of scope left) (typing_of scope right) (value_of c scope vs left) (value_of c scope vs right)
  gives_value (choice l k condition first second) = gives_choice (typing_of scope condition) (typing_of scope first) (typing_of scope second) (gives_converted _ _)
  gives_value (cast l k t operand) = one_number (λ s. t) (number_type (typing_of scope operand)) (gives_converted t (value_of c scope vs operand))
  gives_value (call l k id arguments) =
      gives_weaken (gives_arguments c scope vs (wanted_types (meaning_of scope id)) arguments [] (c.call id) (gives_call c scope calls id))
      (λ d p. called_ranged (are_arguments (wanted_types (meaning_of scope id)) (typings_of scope arguments) && is_callable (meaning_of scope id) (length (typings_of scope arguments))) (meaning_of scope id) d p)

-- the number that an expression gives is one of its type
pub in_range : (c : Context) (scope : Scope) (vs : Variables) → CallsAreRanged c scope → AreRanged scope vs → (e : Tree) (t : Ty) → number_type (typing_of scope e) ≡ Some t →
    (w w' : World) (d : Datum) → value_of c scope vs e w ≡ got d w' → IsInRange t (number_in d)
in_range c scope vs calls h e t f w w' d g = go (value_of c scope vs e w) g ((gives_value c scope vs calls h e).from w) t f
  where
    given_datum : Value → Datum
    given_datum (got x u) = x
    given_datum (halts x u) = nothing

    go : (x : Value) → x ≡ got d w' → Each (IsNumberOfTyping (typing_of scope e)) x → IsNumberOfTyping (typing_of scope e) d
    go (got x u) same p = subst (IsNumberOfTyping (typing_of scope e)) (ap given_datum same) p
    go (halts x u) same p = cc
