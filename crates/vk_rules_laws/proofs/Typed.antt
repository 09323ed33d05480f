-- Each expression that is visited in a unit that breaks no rule has a type.
use Rattle.std.proofs.Common.{◌≡◌, Bool, true, false, cond, ◌&&◌, not, length, List, [], ◌∷◌, ◌++◌, Option, Some, None, refl}
use Rattle.std.proofs.lemmas.Bool.{false≢true}
use Rattle.std.specs.List.{AllByRecursion}
use Rattle.vk_types.specs.declared.types.Ty.{Ty}
use Rattle.vk_types.specs.Conversions.{common_type}
use Rattle.vk_numbers.specs.Types.{binary_type, unary_type}
use Rattle.vk_kinds.specs.declared.heads.CType.{CType}
use Rattle.vk_kinds.specs.declared.heads.CType.TheVariants.{Void, Int, Ptr}
use Rattle.vk_ast.specs.declared.expressions.BinOp.{BinOp}
use Rattle.vk_ast.specs.Tree.{Tree, Trees, int, name, index, deref, addr, unary, binary, choice, cast, call, no_trees, more_trees}
use Rattle.vk_rules_book.specs.declared.contexts.Around.{Around}
use Rattle.vk_rules_book.specs.declared.contexts.Role.{Role}
use Rattle.vk_rules_book.specs.declared.contexts.Role.TheVariants as role
use Rattle.vk_rules_book.specs.declared.typings.Typing.{Typing}
use Rattle.vk_rules_book.specs.declared.typings.Typing.TheVariants.{Number, Variable, Cell, Pointer, Nothing, Function, Untyped}
use Rattle.vk_rules_book.specs.Expressions.{expression_faults, has_form_of_place, is_undeclared, is_wrong_call, may_have_address}
use Rattle.vk_rules_book.specs.Rules.{Subject}
use Rattle.vk_rules_book.specs.Scopes.{Scope, Meaning, a_variable, an_object, a_function, meaning_of}
use Rattle.vk_rules_book.specs.Typings.{are_arguments, binary_typing, call_typing, choice_typing, element_typing, is_argument, is_callable, is_number, is_plus, is_pointer, is_sum, number_type, then_number, is_typed, left_role, name_typing, pointed_typing, result_typing, right_role, takes_typed, typing_of, typings_of, wanted_types, with_address, moves_left, moves_right}
use Rattle.vk_rules_book.specs.Visits.{Visit, argument_visits, called, expression, is_zero, parts_of, visits_of, optional_visits, with_role}
use Rattle.vk_rules_laws.specs.Grammatical.{is_pointer_type}
use Rattle.vk_rules_laws.proofs.Each.{IsQuiet, back, both, front}
use Rattle.vk_rules_laws.proofs.Fitting.{AreFitting, IsFitting, meaning_fits}
use Rattle.vk_rules_laws.proofs.Visited.{call_quiet, called_quiet, name_quiet, place_quiet, taken, typed_quiet}

-- an expression that is visited has a type
abbrev pub HasType : Visit → Type 0
HasType (expression around scope r e) = is_typed (typing_of scope e) ≡ true
HasType _ = Unit {0}

-- ---- types of what has parts

name_typed : (m : Option Meaning) → IsFitting m → is_undeclared m ≡ false → is_typed (name_typing m) ≡ true
name_typed None fits declared = cc
name_typed (Some (a_variable Void fixed)) fits declared = cc
name_typed (Some (a_variable (Int t) fixed)) fits declared = refl
name_typed (Some (a_variable (Ptr to written) fixed)) fits declared = refl
name_typed (Some (an_object t true fixed)) fits declared = refl
name_typed (Some (an_object t false fixed)) fits declared = refl
name_typed (Some (a_function result params is_simd)) fits declared = refl

number_typed : (t : Typing) (next : Ty → Typing) → is_number t ≡ true → ((s : Ty) → is_typed (next s) ≡ true) → is_typed (then_number (number_type t) next) ≡ true
number_typed (Number t) next h k = k t
number_typed (Variable t fixed) next h k = k t
number_typed (Cell t written) next h k = k t
number_typed (Pointer to written) next h k = cc
number_typed Nothing next h k = cc
number_typed Function next h k = cc
number_typed Untyped next h k = cc

pointed_typed : (t : Typing) → is_pointer t ≡ true → is_typed (pointed_typing t) ≡ true
pointed_typed (Pointer to written) h = refl
pointed_typed (Number t) h = cc
pointed_typed (Variable t fixed) h = cc
pointed_typed (Cell t written) h = cc
pointed_typed Nothing h = cc
pointed_typed Function h = cc
pointed_typed Untyped h = cc

element_typed : (b s : Typing) → is_pointer b ≡ true → is_number s ≡ true → is_typed (element_typing b s) ≡ true
element_typed (Pointer to written) s h k = number_typed s (λ t. Cell to written) k (λ t. refl)
element_typed (Number t) s h k = cc
element_typed (Variable t fixed) s h k = cc
element_typed (Cell t written) s h k = cc
element_typed Nothing s h k = cc
element_typed Function s h k = cc
element_typed Untyped s h k = cc

address_typed : (t : Typing) (form : Bool) → not (form && may_have_address t) ≡ false → is_typed t ≡ true → is_typed (with_address t) ≡ true
address_typed (Cell t written) form h k = refl
address_typed (Number t) true h k = cc
address_typed (Variable t fixed) true h k = cc
address_typed (Pointer to written) true h k = cc
address_typed Nothing true h k = cc
address_typed Function true h k = cc
address_typed Untyped form h k = cc
address_typed (Number t) false h k = cc
address_typed (Variable t fixed) false h k = cc
address_typed (Pointer to written) false h k = cc
address_typed Nothing false h k = cc
address_typed Function false h k = cc

sum_typed : (op : BinOp) (s t : Typing) (to_left to_right : Bool) → is_typed s ≡ true → is_typed t ≡ true
    → takes_typed (cond to_left role.Added role.Value) s ≡ true → takes_typed (cond to_right role.Added role.Value) t ≡ true
    → (to_left ≡ true → to_right ≡ false)
    → is_typed (cond to_left (then_number (number_type t) (λ n. s)) (cond to_right (then_number (number_type s) (λ n. t)) (then_number (number_type s) (λ m. then_number (number_type t) (λ n. Number (binary_type op m n)))))) ≡ true
sum_typed op s t true true a b left right one = cc (one refl)
sum_typed op s t true false a b left right one = number_typed t (λ n. s) right (λ n. a)
sum_typed op s t false true a b left right one = number_typed s (λ n. t) left (λ n. b)
sum_typed op s t false false a b left right one =
    number_typed s (λ m. then_number (number_type t) (λ n. Number (binary_type op m n))) left (λ m. number_typed t (λ n. Number (binary_type op m n)) right (λ n. refl))

one_moves : (sum plus left right : Bool) → (sum && left) ≡ true → (plus && (not left && right)) ≡ false
one_moves true true true right h = refl
one_moves true false true right h = refl
one_moves true plus false right h = cc
one_moves false plus left right h = cc

binary_typed : (op : BinOp) (s t : Typing) → is_typed s ≡ true → is_typed t ≡ true → takes_typed (left_role op s t) s ≡ true → takes_typed (right_role op s t) t ≡ true
    → is_typed (binary_typing op s t) ≡ true
binary_typed op s t a b left right = sum_typed op s t (moves_left op s) (moves_right op s t) a b left right (one_moves (is_sum op) (is_plus op) (is_pointer s) (is_pointer t))

choice_typed : (c s t : Typing) → is_number c ≡ true → is_number s ≡ true → is_number t ≡ true → is_typed (choice_typing c s t) ≡ true
unfolding choice_typing
choice_typed c s t h k l =
    number_typed c (λ c. then_number (number_type s) (λ s. then_number (number_type t) (λ t. Number (common_type s t)))) h
    (λ c. number_typed s (λ s. then_number (number_type t) (λ t. Number (common_type s t))) k (λ s. number_typed t (λ t. Number (common_type s t)) l (λ t. refl)))

-- ---- calls

no_arguments : (wanted : List CType) → are_arguments wanted [] ≡ true
unfolding are_arguments
no_arguments wanted = refl

three_true : (a b c : Bool) → a ≡ true → b ≡ true → c ≡ true → (a && (b && c)) ≡ true
three_true true true true h k l = refl
three_true false b c h k l = h
three_true true false c h k l = k
three_true true true false h k l = l

one_unwanted : (t : Typing) (ts : List Typing) → is_typed t ≡ true → is_argument None t ≡ true → are_arguments [] ts ≡ true → are_arguments [] (t ∷ ts) ≡ true
unfolding are_arguments
one_unwanted t ts h k l = three_true (is_typed t) (is_argument None t) (are_arguments [] ts) h k l

one_wanted : (w : CType) (ws : List CType) (t : Typing) (ts : List Typing) → is_typed t ≡ true → is_argument (Some w) t ≡ true → are_arguments ws ts ≡ true
    → are_arguments (w ∷ ws) (t ∷ ts) ≡ true
unfolding are_arguments
one_wanted w ws t ts h k l = three_true (is_typed t) (is_argument (Some w) t) (are_arguments ws ts) h k l

result_typed : (result : CType) → is_pointer_type result ≡ false → is_typed (result_typing result) ≡ true
result_typed Void h = refl
result_typed (Int t) h = refl
result_typed (Ptr to written) h = cc

fitting_call : (result : CType) (fits callable : Bool) → fits ≡ true → (fits && not callable) ≡ false → is_pointer_type result ≡ false
    → is_typed (cond (fits && callable) (result_typing result) Untyped) ≡ true
fitting_call result true true h k l = result_typed result l
fitting_call result true false h k l = cc
fitting_call result false callable h k l = cc

no_call : (fits : Bool) → fits ≡ true → (fits && true) ≡ false → false ≡ true
no_call true h k = cc
no_call false h k = h

call_typed : (m : Option Meaning) (ts : List Typing) → IsFitting m → is_undeclared m ≡ false → is_wrong_call m ts ≡ false → are_arguments (wanted_types m) ts ≡ true
    → is_typed (call_typing m ts) ≡ true
call_typed None ts fits declared right all = cc
call_typed (Some (a_variable t fixed)) ts fits declared right all = absurd (false≢true (no_call (are_arguments [] ts) all right))
call_typed (Some (an_object t is_array fixed)) ts fits declared right all = absurd (false≢true (no_call (are_arguments [] ts) all right))
call_typed (Some (a_function result params is_simd)) ts fits declared right all =
    fitting_call result (are_arguments params ts) (is_callable (Some (a_function result params is_simd)) (length ts)) all right fits

-- ---- expressions

module _ (unit : Subject) (around : Around) (scope : Scope) (fits : AreFitting scope) where
  abbrev AreQuiet : List Visit → Type 0
  AreQuiet vs = AllByRecursion (IsQuiet unit) vs

  abbrev HaveTypes : List Visit → Type 0
  HaveTypes vs = AllByRecursion HasType vs

  pub own_of : (r : Role) (e : Tree) (vs : List Visit) → AreQuiet (with_role around scope r e vs) → expression_faults unit.texts around scope r e ≡ []
  own_of r e vs q = (back (IsQuiet unit) vs (expression around scope r e ∷ []) q).0

  pub type_of : (r : Role) (e : Tree) (vs : List Visit) → HaveTypes (with_role around scope r e vs) → is_typed (typing_of scope e) ≡ true
  type_of r e vs t = (back HasType vs (expression around scope r e ∷ []) t).0

  pub taken_by : (r : Role) (e : Tree) → expression_faults unit.texts around scope r e ≡ [] → is_typed (typing_of scope e) ≡ true → takes_typed r (typing_of scope e) ≡ true
  taken_by r e own typed = taken (is_typed (typing_of scope e)) (takes_typed r (typing_of scope e)) (typed_quiet unit.texts around scope r e own) typed

  -- what holds a part in this role takes its type
  pub takes_of : (r : Role) (e : Tree) (vs : List Visit) → AreQuiet (with_role around scope r e vs) → HaveTypes (with_role around scope r e vs)
      → takes_typed r (typing_of scope e) ≡ true
  takes_of r e vs q t = taken_by r e (own_of r e vs q) (type_of r e vs t)

  arguments_fit : (wanted : List CType) (es : Trees) → AreQuiet (argument_visits around scope wanted es) → HaveTypes (argument_visits around scope wanted es)
      → are_arguments wanted (typings_of scope es) ≡ true
  arguments_fit wanted no_trees q t = no_arguments wanted
  arguments_fit [] (more_trees e es) q t =
      let parts = parts_of around scope false e in
      let here = with_role around scope (role.Argument None) e parts in
      let more = argument_visits around scope [] es in
      let qh = front (IsQuiet unit) here more q in
      let th = front HasType here more t in
      one_unwanted (typing_of scope e) (typings_of scope es) (type_of (role.Argument None) e parts th) (takes_of (role.Argument None) e parts qh th)
      (arguments_fit [] es (back (IsQuiet unit) here more q) (back HasType here more t))
  arguments_fit (w ∷ ws) (more_trees e es) q t =
      let parts = parts_of around scope false e in
      let here = with_role around scope (role.Argument (Some w)) e parts in
      let more = argument_visits around scope ws es in
      let qh = front (IsQuiet unit) here more q in
      let th = front HasType here more t in
      one_wanted w ws (typing_of scope e) (typings_of scope es) (type_of (role.Argument (Some w)) e parts th) (takes_of (role.Argument (Some w)) e parts qh th)
      (arguments_fit ws es (back (IsQuiet unit) here more q) (back HasType here more t))

  -- an expression has a type where its parts have one
  pub typed_here : (addressed : Bool) (e : Tree) (r : Role) → AreQuiet (parts_of around scope addressed e) → HaveTypes (parts_of around scope addressed e)
      → expression_faults unit.texts around scope r e ≡ [] → is_typed (typing_of scope e) ≡ true
  typed_here addressed (int l k ty n) r q t own = refl
  typed_here addressed (name l k id) r q t own = name_typed (meaning_of scope id) (meaning_fits scope id fits) (name_quiet unit.texts around scope r l k id own).0
  typed_here addressed (index l k b s) r q t own =
      let in_b = parts_of around scope false b in
      let in_s = parts_of around scope false s in
      let rb = role.Base (not addressed && is_zero s) in
      let vb = with_role around scope rb b in_b in
      let vs = with_role around scope role.Value s in_s in
      element_typed (typing_of scope b) (typing_of scope s)
      (takes_of rb b in_b (front (IsQuiet unit) vb vs q) (front HasType vb vs t))
      (takes_of role.Value s in_s (back (IsQuiet unit) vb vs q) (back HasType vb vs t))
  typed_here addressed (deref l k operand) r q t own =
      pointed_typed (typing_of scope operand) (takes_of (role.Base (not addressed)) operand (parts_of around scope false operand) q t)
  typed_here addressed (addr l k operand) r q t own =
      let parts = parts_of around scope true operand in
      address_typed (typing_of scope operand) (has_form_of_place operand) (place_quiet unit.texts around scope role.Address operand (own_of role.Address operand parts q)) (type_of role.Address operand parts t)
  typed_here addressed (unary l k op operand) r q t own =
      number_typed (typing_of scope operand) (λ s. Number (unary_type op s)) (takes_of role.Value operand (parts_of around scope false operand) q t) (λ s. refl)
  typed_here addressed (binary l k op a b) r q t own =
      let in_a = parts_of around scope false a in
      let in_b = parts_of around scope false b in
      let ra = left_role op (typing_of scope a) (typing_of scope b) in
      let rb = right_role op (typing_of scope a) (typing_of scope b) in
      let two = expression around scope ra a ∷ (expression around scope rb b ∷ []) in
      let qs = back (IsQuiet unit) in_b two (back (IsQuiet unit) in_a (in_b ++ two) q) in
      let ts = back HasType in_b two (back HasType in_a (in_b ++ two) t) in
      binary_typed op (typing_of scope a) (typing_of scope b) ts.0 ts.1.0 (taken_by ra a qs.0 ts.0) (taken_by rb b qs.1.0 ts.1.0)
  typed_here addressed (choice l k c a b) r q t own =
      let in_c = parts_of around scope false c in
      let in_a = parts_of around scope false a in
      let in_b = parts_of around scope false b in
      let vc = with_role around scope role.Value c in_c in
      let va = with_role around scope role.Value a in_a in
      let vb = with_role around scope role.Value b in_b in
      let qs = back (IsQuiet unit) vc (va ++ vb) q in
      let ts = back HasType vc (va ++ vb) t in
      choice_typed (typing_of scope c) (typing_of scope a) (typing_of scope b)
      (takes_of role.Value c in_c (front (IsQuiet unit) vc (va ++ vb) q) (front HasType vc (va ++ vb) t))
      (takes_of role.Value a in_a (front (IsQuiet unit) va vb qs) (front HasType va vb ts))
      (takes_of role.Value b in_b (back (IsQuiet unit) va vb qs) (back HasType va vb ts))
  typed_here addressed (cast l k ty operand) r q t own =
      number_typed (typing_of scope operand) (λ s. Number ty) (takes_of role.Value operand (parts_of around scope false operand) q t) (λ s. refl)
  typed_here addressed (call l k id es) r q t own =
      let wanted = wanted_types (meaning_of scope id) in
      let parts = argument_visits around scope wanted es in
      let last = called around scope l k id es ∷ [] in
      let quiet = (back (IsQuiet unit) parts last q).0 in
      call_typed (meaning_of scope id) (typings_of scope es) (meaning_fits scope id fits)
      (called_quiet unit.texts around scope l k id es quiet) (call_quiet unit.texts around scope l k id es quiet)
      (arguments_fit wanted es (front (IsQuiet unit) parts last q) (front HasType parts last t))

  in_role : (r : Role) (addressed : Bool) (e : Tree) → (AreQuiet (parts_of around scope addressed e) → HaveTypes (parts_of around scope addressed e))
      → AreQuiet (with_role around scope r e (parts_of around scope addressed e)) → HaveTypes (with_role around scope r e (parts_of around scope addressed e))
  in_role r addressed e typed q =
      let parts = parts_of around scope addressed e in
      let last = expression around scope r e ∷ [] in
      let qs = front (IsQuiet unit) parts last q in
      let ts = typed qs in
      both HasType parts last ts (typed_here addressed e r qs ts (own_of r e parts q), tt)

  mutual
    pub parts_typed : (addressed : Bool) (e : Tree) → AreQuiet (parts_of around scope addressed e) → HaveTypes (parts_of around scope addressed e)
    parts_typed addressed (int l k t n) q = tt
    parts_typed addressed (name l k id) q = tt
    parts_typed addressed (index l k b s) q =
        let rb = role.Base (not addressed && is_zero s) in
        let vb = with_role around scope rb b (parts_of around scope false b) in
        let vs = with_role around scope role.Value s (parts_of around scope false s) in
        both HasType vb vs (in_role rb false b (parts_typed false b) (front (IsQuiet unit) vb vs q)) (in_role role.Value false s (parts_typed false s) (back (IsQuiet unit) vb vs q))
    parts_typed addressed (deref l k operand) q = in_role (role.Base (not addressed)) false operand (parts_typed false operand) q
    parts_typed addressed (addr l k operand) q = in_role role.Address true operand (parts_typed true operand) q
    parts_typed addressed (unary l k op operand) q = in_role role.Value false operand (parts_typed false operand) q
    parts_typed addressed (binary l k op a b) q =
        let in_a = parts_of around scope false a in
        let in_b = parts_of around scope false b in
        let ra = left_role op (typing_of scope a) (typing_of scope b) in
        let rb = right_role op (typing_of scope a) (typing_of scope b) in
        let two = expression around scope ra a ∷ (expression around scope rb b ∷ []) in
        let qa = front (IsQuiet unit) in_a (in_b ++ two) q in
        let qb = front (IsQuiet unit) in_b two (back (IsQuiet unit) in_a (in_b ++ two) q) in
        let qs = back (IsQuiet unit) in_b two (back (IsQuiet unit) in_a (in_b ++ two) q) in
        let ta = parts_typed false a qa in
        let tb = parts_typed false b qb in
        both HasType in_a (in_b ++ two) ta (both HasType in_b two tb (typed_here false a ra qa ta qs.0, (typed_here false b rb qb tb qs.1.0, tt)))
    parts_typed addressed (choice l k c a b) q =
        let vc = with_role around scope role.Value c (parts_of around scope false c) in
        let va = with_role around scope role.Value a (parts_of around scope false a) in
        let vb = with_role around scope role.Value b (parts_of around scope false b) in
        let qs = back (IsQuiet unit) vc (va ++ vb) q in
        both HasType vc (va ++ vb) (in_role role.Value false c (parts_typed false c) (front (IsQuiet unit) vc (va ++ vb) q))
        (both HasType va vb (in_role role.Value false a (parts_typed false a) (front (IsQuiet unit) va vb qs)) (in_role role.Value false b (parts_typed false b) (back (IsQuiet unit) va vb qs)))
    parts_typed addressed (cast l k ty operand) q = in_role role.Value false operand (parts_typed false operand) q
    parts_typed addressed (call l k id es) q =
        let parts = argument_visits around scope (wanted_types (meaning_of scope id)) es in
        let last = called around scope l k id es ∷ [] in
        both HasType parts last (arguments_typed (wanted_types (meaning_of scope id)) es (front (IsQuiet unit) parts last q)) (tt, tt)

    pub arguments_typed : (wanted : List CType) (es : Trees) → AreQuiet (argument_visits around scope wanted es) → HaveTypes (argument_visits around scope wanted es)
    arguments_typed wanted no_trees q = tt
    arguments_typed [] (more_trees e es) q =
        let here = with_role around scope (role.Argument None) e (parts_of around scope false e) in
        let more = argument_visits around scope [] es in
        both HasType here more (in_role (role.Argument None) false e (parts_typed false e) (front (IsQuiet unit) here more q)) (arguments_typed [] es (back (IsQuiet unit) here more q))
    arguments_typed (w ∷ ws) (more_trees e es) q =
        let here = with_role around scope (role.Argument (Some w)) e (parts_of around scope false e) in
        let more = argument_visits around scope ws es in
        both HasType here more (in_role (role.Argument (Some w)) false e (parts_typed false e) (front (IsQuiet unit) here more q)) (arguments_typed ws es (back (IsQuiet unit) here more q))

  pub visits_typed : (r : Role) (e : Tree) → AreQuiet (visits_of around scope r e) → HaveTypes (visits_of around scope r e)
  visits_typed r e q = in_role r false e (parts_typed false e) q

  pub optional_typed : (e : Option Tree) → AreQuiet (optional_visits around scope e) → HaveTypes (optional_visits around scope e)
  optional_typed None q = tt
  optional_typed (Some e) q = visits_typed role.Value e q
