-- Expressions in the body of a function with directives are tame.
use Rattle.std.proofs.lemmas.Bool.Decides.{nat_tests}
use Rattle.std.proofs.Common.{arith, length, ◌≡◌, ◌⊎◌, inl, inr, Bool, true, false, cond, ◌&&◌, not, List, Option, Some, None, refl, sym, subst}
use Rattle.vk_types.specs.declared.types.Ty.{Ty}
use Rattle.vk_types.specs.Conversions.{common_type}
use Rattle.vk_numbers.specs.Types.{binary_type}
use Rattle.vk_kinds.specs.declared.heads.CType.{CType}
use Rattle.vk_kinds.specs.declared.heads.CType.TheVariants.{Void, Int, Ptr}
use Rattle.vk_ast.specs.declared.expressions.BinOp.{BinOp}
use Rattle.vk_ast.specs.Tree.{Tree, int, name, index, deref, addr, unary, binary, choice, cast, call}
use Rattle.vk_rules_book.specs.declared.contexts.Role.TheVariants as role
use Rattle.vk_rules_book.specs.declared.typings.Typing.{Typing}
use Rattle.vk_rules_book.specs.declared.typings.Typing.TheVariants.{Number, Variable, Cell, Pointer, Nothing, Function, Untyped}
use Rattle.vk_rules_book.specs.Expressions.{is_changing, is_plain_function, is_simd, is_written_parameter, lets_written, may_be_assigned, may_have_address}
use Rattle.vk_rules_book.specs.Scopes.{Meaning, a_variable, an_object, a_function}
use Rattle.vk_rules_book.specs.Typings.{are_arguments, binary_typing, call_typing, called_typing, choice_typing, element_typing, is_callable, is_pointer_to, is_typed, left_role, moves_left, moves_right, name_typing, number_type, pointed_typing, right_role, same_type, then_number, wanted_types, with_address}
use Rattle.vk_rules_book.specs.Visits.{is_zero}
use Rattle.vk_meaning.specs.Points.{Variable as Numbered}
use Rattle.vk_meaning.specs.Types.{is_written_type}
use Rattle.vk_meaning_laws.specs.Tame.{IsTameName, IsZero, is_const_object, is_function, is_written_variable}
use Rattle.vk_meaning_accepted.proofs.LaneScopes.{IsFileMeaning, IsSeen}

-- ---- tests

pub second_false : (a b : Bool) → a ≡ true → (a && b) ≡ false → b ≡ false
second_false true b h e = e
second_false false b h e = cc

pub held : (a b : Bool) → (a && not b) ≡ false → a ≡ true → b ≡ true
held true true e h = refl
held true false e h = cc
held false b e h = cc

pub dropped : (a b : Bool) → (a && not b) ≡ false → b ≡ false → a ≡ false
dropped true b e h = cc
dropped false b e h = refl

pub right_true : (a b : Bool) → (a && b) ≡ true → b ≡ true
right_true true b e = e
right_true false b e = cc

pub still_true : (b : Bool) → not b ≡ false → b ≡ true
still_true true e = refl
still_true false e = cc

pub both_false : (a b : Bool) → not (a && b) ≡ false → (a ≡ true) × (b ≡ true)
both_false true true e = (refl, refl)
both_false true false e = cc
both_false false b e = cc

pub not_both : (b : Bool) → b ≡ false → b ≡ true → ⊥
not_both b e h = cc

pub decide : (b : Bool) → (b ≡ true) ⊎ (b ≡ false)
decide true = inl refl
decide false = inr refl

pub zero_is : (e : Tree) → is_zero e ≡ true → IsZero e
zero_is (int l k t n) h = grind (arith, nat_tests)
zero_is (name l k id) h = cc
zero_is (index l k b s) h = cc
zero_is (deref l k o) h = cc
zero_is (addr l k o) h = cc
zero_is (unary l k op o) h = cc
zero_is (binary l k op a b) h = cc
zero_is (choice l k c a b) h = cc
zero_is (cast l k t o) h = cc
zero_is (call l k id es) h = cc

-- ---- names

abbrev pub is_written_pointer : Typing → Bool
is_written_pointer (Pointer to written) = written
is_written_pointer _ = false

abbrev pub is_written_cell : Typing → Bool
is_written_cell (Cell t written) = written
is_written_cell _ = false

-- the variable that is a written pointer is a written parameter in the scope
pub written_seen : (lane : Bool) (v : Option Numbered) (m : Option Meaning) → IsSeen lane v m → is_written_variable v ≡ true → is_written_parameter m ≡ true
written_seen lane None m s h = cc
written_seen lane (Some v) None s h = absurd s
written_seen lane (Some v) (Some (an_object t is_array fixed)) s h = absurd s
written_seen lane (Some v) (Some (a_function r ps is_simd)) s h = absurd s
written_seen lane (Some v) (Some (a_variable t fixed)) s h = of_type t (subst (λ (u : CType). is_written_type u ≡ true) s h)
  where
    of_type : (t : CType) → is_written_type t ≡ true → is_written_parameter (Some (a_variable t fixed)) ≡ true
    of_type Void h = h
    of_type (Int t) h = h
    of_type (Ptr to written) h = h

pub tame_name : (lane : Bool) (v : Option Numbered) (m : Option Meaning) → IsSeen lane v m → is_changing m ≡ false → is_written_variable v ≡ false → IsTameName v m
tame_name lane (Some v) m s still plain = plain
tame_name lane None None s still plain = refl
tame_name lane None (Some (a_variable t fixed)) s still plain = refl
tame_name lane None (Some (an_object t is_array fixed)) s still plain = still_true fixed still
tame_name lane None (Some (a_function r ps is_simd)) s still plain = refl

-- what is typed as a written pointer is the name of one
pub written_name : (lane : Bool) (v : Option Numbered) (m : Option Meaning) → IsSeen lane v m → is_changing m ≡ false → is_written_pointer (name_typing m) ≡ true → is_written_variable v ≡ true
written_name lane v None s still h = cc
written_name lane None (Some (a_variable t fixed)) s still h = absurd s
written_name lane (Some v) (Some (a_variable t fixed)) s still h = subst (λ (u : CType). is_written_type u ≡ true) (sym s) (of_type t h)
  where
    of_type : (t : CType) → is_written_pointer (name_typing (Some (a_variable t fixed))) ≡ true → is_written_type t ≡ true
    of_type Void h = h
    of_type (Int t) h = h
    of_type (Ptr to written) h = h
written_name lane v (Some (an_object t true true)) s still h = cc
written_name lane v (Some (an_object t true false)) s still h = cc
written_name lane v (Some (an_object t false fixed)) s still h = cc
written_name lane v (Some (a_function r ps is_simd)) s still h = cc

-- an object that may be assigned is changing
pub name_cell : (m : Option Meaning) → is_changing m ≡ false → is_written_cell (name_typing m) ≡ false
name_cell None still = refl
name_cell (Some (a_variable Void fixed)) still = refl
name_cell (Some (a_variable (Int t) fixed)) still = refl
name_cell (Some (a_variable (Ptr to written) fixed)) still = refl
name_cell (Some (an_object t true fixed)) still = refl
name_cell (Some (an_object t false fixed)) still = still
name_cell (Some (a_function r ps is_simd)) still = refl

pub const_name : (m : Option Meaning) → is_changing m ≡ false → is_typed (name_typing m) ≡ true → may_have_address (name_typing m) ≡ true → is_const_object m ≡ true
const_name None still typed h = cc
const_name (Some (a_variable Void fixed)) still typed h = cc
const_name (Some (a_variable (Int t) fixed)) still typed h = cc
const_name (Some (a_variable (Ptr to written) fixed)) still typed h = cc
const_name (Some (an_object t true fixed)) still typed h = cc
const_name (Some (an_object t false fixed)) still typed h = still_true fixed still
const_name (Some (a_function r ps is_simd)) still typed h = cc

-- a name that is no variable may not be assigned
pub no_target : (lane : Bool) (m : Option Meaning) → IsFileMeaning lane m → is_changing m ≡ false → is_typed (name_typing m) ≡ true → may_be_assigned (name_typing m) ≡ true → ⊥
no_target lane None s still typed h = cc
no_target lane (Some (a_variable t fixed)) s still typed h = s
no_target lane (Some (an_object t true fixed)) s still typed h = cc
no_target lane (Some (an_object t false true)) s still typed h = cc
no_target lane (Some (an_object t false false)) s still typed h = cc
no_target lane (Some (a_function r ps is_simd)) s still typed h = cc

-- ---- types

pub no_number : (o : Option Ty) (f : Ty → Ty) → is_written_pointer (then_number o (λ t. Number (f t))) ≡ false
no_number None f = refl
no_number (Some t) f = refl

pub no_element : (b s : Typing) → is_written_pointer (element_typing b s) ≡ false
no_element (Pointer to written) s = of_number (number_type s)
  where
    of_number : (o : Option Ty) → is_written_pointer (then_number o (λ t. Cell to written)) ≡ false
    of_number None = refl
    of_number (Some t) = refl
no_element (Number t) s = refl
no_element (Variable t fixed) s = refl
no_element (Cell t written) s = refl
no_element Nothing s = refl
no_element Function s = refl
no_element Untyped s = refl

pub no_pointed : (t : Typing) → is_written_pointer (pointed_typing t) ≡ false
no_pointed (Pointer to written) = refl
no_pointed (Number t) = refl
no_pointed (Variable t fixed) = refl
no_pointed (Cell t written) = refl
no_pointed Nothing = refl
no_pointed Function = refl
no_pointed Untyped = refl

pub no_choice : (c s t : Typing) → is_written_pointer (choice_typing c s t) ≡ false
unfolding choice_typing
no_choice c s t = of_three (number_type c) (number_type s) (number_type t)
  where
    of_three : (c s t : Option Ty) → is_written_pointer (then_number c (λ c. then_number s (λ s. then_number t (λ t. Number (common_type s t))))) ≡ false
    of_three None s t = refl
    of_three (Some c) None t = refl
    of_three (Some c) (Some s) None = refl
    of_three (Some c) (Some s) (Some t) = refl

pub no_call : (m : Option Meaning) (ts : List Typing) → is_written_pointer (call_typing m ts) ≡ false
no_call m ts = of_test (are_arguments (wanted_types m) ts && is_callable m (length ts))
  where
    of_result : (m : Option Meaning) → is_written_pointer (called_typing m) ≡ false
    of_result None = refl
    of_result (Some (a_variable t fixed)) = refl
    of_result (Some (an_object t is_array fixed)) = refl
    of_result (Some (a_function Void ps is_simd)) = refl
    of_result (Some (a_function (Int t) ps is_simd)) = refl
    of_result (Some (a_function (Ptr to written) ps is_simd)) = refl

    of_test : (b : Bool) → is_written_pointer (cond b (called_typing m) Untyped) ≡ false
    of_test true = of_result m
    of_test false = refl

-- a sum is a written pointer only where one of its operands is
pub written_sum : (op : BinOp) (s t : Typing) → is_written_pointer (binary_typing op s t) ≡ true → (is_written_pointer s ≡ true) ⊎ (is_written_pointer t ≡ true)
written_sum op s t = of_tests (moves_left op s) (moves_right op s t) (number_type s) (number_type t)
  where
    of_tests : (a b : Bool) (m n : Option Ty)
        → is_written_pointer (cond a (then_number n (λ x. s)) (cond b (then_number m (λ x. t)) (then_number m (λ x. then_number n (λ y. Number (binary_type op x y)))))) ≡ true
        → (is_written_pointer s ≡ true) ⊎ (is_written_pointer t ≡ true)
    of_tests true b m (Some n) h = inl h
    of_tests true b m None h = cc
    of_tests false true (Some m) n h = inr h
    of_tests false true None n h = cc
    of_tests false false (Some m) (Some n) h = cc
    of_tests false false (Some m) None h = cc
    of_tests false false None n h = cc

pub written_address : (t : Typing) → is_written_pointer (with_address t) ≡ true → is_written_cell t ≡ true
written_address (Cell t written) h = h
written_address (Number t) h = cc
written_address (Variable t fixed) h = cc
written_address (Pointer to written) h = cc
written_address Nothing h = cc
written_address Function h = cc
written_address Untyped h = cc

pub written_pointed : (t : Typing) → is_written_cell (pointed_typing t) ≡ true → is_written_pointer t ≡ true
written_pointed (Pointer to written) h = h
written_pointed (Number t) h = cc
written_pointed (Variable t fixed) h = cc
written_pointed (Cell t written) h = cc
written_pointed Nothing h = cc
written_pointed Function h = cc
written_pointed Untyped h = cc

pub written_element : (b s : Typing) → is_written_cell (element_typing b s) ≡ true → is_written_pointer b ≡ true
written_element (Pointer to written) s h = of_number (number_type s) h
  where
    of_number : (o : Option Ty) → is_written_cell (then_number o (λ t. Cell to written)) ≡ true → written ≡ true
    of_number None h = cc
    of_number (Some t) h = h
written_element (Number t) s h = cc
written_element (Variable t fixed) s h = cc
written_element (Cell t written) s h = cc
written_element Nothing s h = cc
written_element Function s h = cc
written_element Untyped s h = cc

pub written_argument : (to : Ty) (t : Typing) → is_pointer_to to true t ≡ true → is_written_pointer t ≡ true
written_argument to (Pointer to' written) h = right_true (same_type to to') written h
written_argument to (Number t) h = cc
written_argument to (Variable t fixed) h = cc
written_argument to (Cell t written) h = cc
written_argument to Nothing h = cc
written_argument to Function h = cc
written_argument to Untyped h = cc

-- ---- roles

pub left_plain : (op : BinOp) (s t : Typing) → lets_written (left_role op s t) ≡ false
left_plain op s t = of_test (moves_left op s)
  where
    of_test : (b : Bool) → lets_written (cond b role.Added role.Value) ≡ false
    of_test true = refl
    of_test false = refl

pub right_plain : (op : BinOp) (s t : Typing) → lets_written (right_role op s t) ≡ false
right_plain op s t = of_test (moves_right op s t)
  where
    of_test : (b : Bool) → lets_written (cond b role.Added role.Value) ≡ false
    of_test true = refl
    of_test false = refl

pub argument_plain : (w : CType) → is_written_type w ≡ false → lets_written (role.Argument (Some w)) ≡ false
argument_plain Void h = refl
argument_plain (Int t) h = refl
argument_plain (Ptr to written) h = h

-- ---- calls

pub tame_callee : (lane : Bool) (v : Option Numbered) (m : Option Meaning) (ts : List Typing) → IsSeen lane v m → is_plain_function m ≡ false → is_typed (call_typing m ts) ≡ true
    → (lane ≡ true) × (is_function m ≡ true)
tame_callee lane v m ts s plain typed = of_meaning v m s plain (called_typed (are_arguments (wanted_types m) ts && is_callable m (length ts)) m typed)
  where
    called_typed : (b : Bool) (m : Option Meaning) → is_typed (cond b (called_typing m) Untyped) ≡ true → is_typed (called_typing m) ≡ true
    called_typed true m h = h
    called_typed false m h = cc

    of_meaning : (v : Option Numbered) (m : Option Meaning) → IsSeen lane v m → is_plain_function m ≡ false → is_typed (called_typing m) ≡ true → (lane ≡ true) × (is_function m ≡ true)
    of_meaning v None s plain h = cc
    of_meaning v (Some (a_variable t fixed)) s plain h = cc
    of_meaning v (Some (an_object t is_array fixed)) s plain h = cc
    of_meaning (Some v) (Some (a_function r ps is_simd)) s plain h = absurd s
    of_meaning None (Some (a_function r ps true)) s plain h = (s, refl)
    of_meaning None (Some (a_function r ps false)) s plain h = cc

-- ---- places that may be assigned

pub cell_pointed : (t : Typing) → is_typed (pointed_typing t) ≡ true → may_be_assigned (pointed_typing t) ≡ true → is_written_cell (pointed_typing t) ≡ true
cell_pointed (Pointer to written) typed h = h
cell_pointed (Number t) typed h = cc
cell_pointed (Variable t fixed) typed h = cc
cell_pointed (Cell t written) typed h = cc
cell_pointed Nothing typed h = cc
cell_pointed Function typed h = cc
cell_pointed Untyped typed h = cc

pub cell_element : (b s : Typing) → is_typed (element_typing b s) ≡ true → may_be_assigned (element_typing b s) ≡ true → is_written_cell (element_typing b s) ≡ true
cell_element (Pointer to written) s typed h = of_number (number_type s) typed h
  where
    of_number : (o : Option Ty) → is_typed (then_number o (λ t. Cell to written)) ≡ true → may_be_assigned (then_number o (λ t. Cell to written)) ≡ true
        → is_written_cell (then_number o (λ t. Cell to written)) ≡ true
    of_number None typed h = cc
    of_number (Some t) typed h = h
cell_element (Number t) s typed h = cc
cell_element (Variable t fixed) s typed h = cc
cell_element (Cell t written) s typed h = cc
cell_element Nothing s typed h = cc
cell_element Function s typed h = cc
cell_element Untyped s typed h = cc
