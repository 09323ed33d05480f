-- Code of each node of an expression, from the code of its parts.
use Rattle.std.proofs.Common.{arith, sym, ◌≡◌, ℕ, ◌+◌, ◌*◌, ◌<◌, Bool, true, false, cond, not, ◌&&◌, length, Some, refl, subst, ap, ap₂, ◌∙◌, pos, Ok, true≢false}
use Rattle.vk_types.specs.declared.types.Ty.{Ty}
use Rattle.vk_types.specs.Numbers.{wrap_number}
use Rattle.vk_types.specs.Conversions.{common_type}
use Rattle.vk_kinds.specs.declared.heads.CType.TheVariants.{Int}
use Rattle.vk_ast.specs.declared.names.NameId.{NameId}
use Rattle.vk_ast.specs.declared.expressions.UnOp.{UnOp}
use Rattle.vk_ast.specs.declared.expressions.BinOp.{BinOp}
use Rattle.vk_ast.specs.declared.expressions.BinOp.TheVariants.{Add, Sub, Mul, Div, Rem, And, Or, Xor, Shl, Shr, Eq, Ne, Lt, Le, Gt, Ge, LogAnd, LogOr}
use Rattle.vk_ast.specs.Tree.{Tree, int, name, unary, binary, choice, cast, nodes_of}
use Rattle.vk_numbers.specs.Laws.{is_logical}
use Rattle.vk_numbers.specs.Operators.{binary_number, unary_number}
use Rattle.vk_numbers.specs.Types.{binary_type, unary_type}
use Rattle.vk_rules_book.specs.declared.typings.Typing.{Typing}
use Rattle.vk_rules_book.specs.declared.typings.Typing.TheVariants.{Number, Variable as AVariable, Cell, Pointer, Nothing, Function, Untyped}
use Rattle.vk_rules_book.specs.Scopes.{Scope}
use Rattle.vk_rules_book.specs.Typings.{choice_typing, is_pointer, is_sum, is_plus, moves_left, moves_right, number_type, then_number as typed_number, typing_of, with_number}
use Rattle.vk_meaning.specs.World.{World}
use Rattle.vk_meaning.specs.Data.{Action, and_then, then_number}
use Rattle.vk_meaning.specs.Points.{Variable, variable_named}
use Rattle.vk_meaning.specs.Expressions.{Context, Variables, answered, both, integer_type, integers_value, moved_by, name_value, value_of}
use Rattle.vk_construct.specs.Computes.{Table}
use Rattle.vk_construct.specs.Adds.{AddsNumber, AddsValue, IsTableOf, Written}
use Rattle.vk_construct.specs.Applies.{one, two}
use Rattle.vk_construct.specs.Trees.{AddsTree, AreVariables, HasNumber}
use Rattle.vk_construct.proofs.Adding.{no_fewer}
use Rattle.vk_construct.proofs.Evaluating.{emits_less, emits_number, emits_one, emits_same, emits_two, emits_variable}

-- ---- types

not_pointer : (t : Typing) (s : Ty) → number_type t ≡ Some s → is_pointer t ≡ false
not_pointer (Number t) s e = refl
not_pointer (AVariable t fixed) s e = refl
not_pointer (Cell t written) s e = refl
not_pointer (Pointer to written) s e = cc
not_pointer Nothing s e = cc
not_pointer Function s e = cc
not_pointer Untyped s e = cc

pub integer_is : (t : Typing) (s : Ty) → number_type t ≡ Some s → integer_type t ≡ s
integer_is (Number t) s e = cc
integer_is (AVariable t fixed) s e = cc
integer_is (Cell t written) s e = cc
integer_is (Pointer to written) s e = cc
integer_is Nothing s e = cc
integer_is Function s e = cc
integer_is Untyped s e = cc

pub number_int : (scope : Scope) (l k n : ℕ) (t : Ty) → HasNumber scope (int l k t n) t
number_int scope l k n t = refl

pub number_cast : (scope : Scope) (l k : ℕ) (t s : Ty) (e : Tree) → HasNumber scope e s → HasNumber scope (cast l k t e) t
number_cast scope l k t s e h = ap (λ o. number_type (typed_number o (λ u. Number t))) h

pub number_unary : (scope : Scope) (l k : ℕ) (op : UnOp) (s : Ty) (e : Tree) → HasNumber scope e s → HasNumber scope (unary l k op e) (unary_type op s)
number_unary scope l k op s e h = ap (λ o. number_type (typed_number o (λ u. Number (unary_type op u)))) h

-- two numbers are no sum with a pointer
no_left : (op : BinOp) (t : Typing) → is_pointer t ≡ false → moves_left op t ≡ false
no_left op t e = ap (λ b. is_sum op && b) e ∙ none (is_sum op)
  where
    none : (b : Bool) → (b && false) ≡ false
    none true = refl
    none false = refl

no_right : (op : BinOp) (s t : Typing) → is_pointer t ≡ false → moves_right op s t ≡ false
no_right op s t e = ap (λ b. is_plus op && (not (is_pointer s) && b)) e ∙ none (is_plus op) (not (is_pointer s))
  where
    none : (a b : Bool) → (a && (b && false)) ≡ false
    none true true = refl
    none true false = refl
    none false b = refl

pub number_binary : (scope : Scope) (l k : ℕ) (op : BinOp) (s t : Ty) (left right : Tree) → HasNumber scope left s → HasNumber scope right t → HasNumber scope (binary l k op left right) (binary_type op s t)
number_binary scope l k op s t left right hl hr =
    ap (λ b. number_type (cond b (with_number y (λ u. x)) (cond (moves_right op x y) (with_number x (λ u. y)) (with_number x (λ u. with_number y (λ v. Number (binary_type op u v))))))) (no_left op x (not_pointer x s hl))
    ∙ (ap (λ b. number_type (cond b (with_number x (λ u. y)) (with_number x (λ u. with_number y (λ v. Number (binary_type op u v)))))) (no_right op x y (not_pointer y t hr))
    ∙ (ap (λ o. number_type (typed_number o (λ u. with_number y (λ v. Number (binary_type op u v))))) hl
    ∙ ap (λ o. number_type (typed_number o (λ v. Number (binary_type op s v)))) hr))
  where
    x : Typing
    x = typing_of scope left

    y : Typing
    y = typing_of scope right

pub number_choice : (scope : Scope) (l k : ℕ) (c s t : Ty) (test first second : Tree) → HasNumber scope test c → HasNumber scope first s → HasNumber scope second t → HasNumber scope (choice l k test first second) (common_type s t)
unfolding choice_typing
number_choice scope l k c s t test first second hc hf hs =
    ap (λ o. number_type (typed_number o (λ u. with_number x (λ v. with_number y (λ w. Number (common_type v w)))))) hc
    ∙ (ap (λ o. number_type (typed_number o (λ v. with_number y (λ w. Number (common_type v w))))) hf
    ∙ ap (λ o. number_type (typed_number o (λ w. Number (common_type s w)))) hs)
  where
    x : Typing
    x = typing_of scope first

    y : Typing
    y = typing_of scope second

-- ---- leaves

pub tree_int : (a b : Written) (scope : Scope) (tb : Table) (l p n : ℕ) (t : Ty) (d m f : ℕ) → AddsNumber a b (λ h. Ok (wrap_number t (pos n))) t d m (length a.regs) f 1 → AddsTree a b scope tb (int l p t n) t d m f
tree_int a b scope tb l p n t d m f q = emits_less a b tb _ (Int t) d m (length a.regs) f (length a.regs) f 1 8 (omega arith) (omega arith) (omega arith) (emits_number a b tb (wrap_number t (pos n)) t d m (length a.regs) f 1 q)

pub tree_name : (a : Written) (scope : Scope) (tb : Table) (l p : ℕ) (id : NameId) (v : Variable) (t : Ty) (m f : ℕ) → IsTableOf a tb (length a.regs) → AreVariables scope tb → variable_named scope id ≡ Some v → v.ctype ≡ Int t →
    AddsTree a a scope tb (name l p id) t (tb.reg v.number) m f
tree_name a scope tb l p id v t m f it vars is ty =
    emits_less a a tb _ (Int t) (tb.reg v.number) m (length a.regs) f (length a.regs) f 0 8 (omega arith) (omega arith) (omega arith)
    (emits_same a a tb _ _ (Int t) (tb.reg v.number) m (length a.regs) f 0 (λ c vs w. ap (λ o. name_value c scope vs o id w) (sym is))
    (emits_variable a tb v.number t m (length a.regs) f it (vars.there id v is) (vars.typed id v is ∙ ty)))

-- ---- casts and operators

pub tree_cast : (a b c : Written) (scope : Scope) (tb : Table) (l p : ℕ) (s t : Ty) (e : Tree) (r d m f : ℕ) → IsTableOf a tb (length a.regs) → m < f → AddsTree a b scope tb e s r m f →
    AddsNumber b c (one (λ z. Ok (wrap_number t z)) s r) t d m (length b.regs) f 1 → AddsTree a c scope tb (cast l p t e) t d m f
tree_cast a b c scope tb l p s t e r d m f it lm x y = emits_less a c tb _ (Int t) d m (length a.regs) f (length a.regs) f (8 * nodes_of e + 1) (8 * (1 + nodes_of e)) (omega arith) (omega arith) (omega arith)
    (emits_one a b c tb _ (λ z. Ok (wrap_number t z)) s t r d m (length a.regs) (length b.regs) f (8 * nodes_of e) 1 it lm (no_fewer a b _ _ 0 x) x y)

pub tree_unary : (a b c : Written) (scope : Scope) (tb : Table) (l p : ℕ) (op : UnOp) (s : Ty) (e : Tree) (r d m f : ℕ) → IsTableOf a tb (length a.regs) → m < f → HasNumber scope e s → AddsTree a b scope tb e s r m f →
    AddsNumber b c (one (unary_number op s) s r) (unary_type op s) d m (length b.regs) f 3 → AddsTree a c scope tb (unary l p op e) (unary_type op s) d m f
tree_unary a b c scope tb l p op s e r d m f it lm h x y = emits_less a c tb _ (Int (unary_type op s)) d m (length a.regs) f (length a.regs) f (8 * nodes_of e + 3) (8 * (1 + nodes_of e)) (omega arith) (omega arith) (omega arith)
    (subst (λ u. AddsValue a c tb (λ k vs. then_number (value_of k scope vs e) (λ z. answered (unary_number op u z))) (Int (unary_type op s)) d m (length a.regs) f (8 * nodes_of e + 3)) (sym (integer_is (typing_of scope e) s h))
    (emits_one a b c tb _ (unary_number op s) s (unary_type op s) r d m (length a.regs) (length b.regs) f (8 * nodes_of e) 3 it lm (no_fewer a b _ _ 0 x) x y))

-- two numbers
pub numbers_value : (c : Context) (scope : Scope) (vs : Variables) (l p : ℕ) (op : BinOp) (s t : Ty) (left right : Tree) (w : World) → HasNumber scope left s → HasNumber scope right t →
    integers_value op s t (value_of c scope vs left) (value_of c scope vs right) w ≡ value_of c scope vs (binary l p op left right) w
numbers_value c scope vs l p op s t left right w hl hr = sym
    (ap (λ b. cond b (and_then x (λ d. then_number y (moved_by op d))) (cond (moves_right op u v) (and_then y (λ d. then_number x (moved_by op d))) (integers_value op (integer_type u) (integer_type v) x y)) w) (no_left op u (not_pointer u s hl))
    ∙ (ap (λ b. cond b (and_then y (λ d. then_number x (moved_by op d))) (integers_value op (integer_type u) (integer_type v) x y) w) (no_right op u v (not_pointer v t hr))
    ∙ ap₂ (λ i j. integers_value op i j x y w) (integer_is u s hl) (integer_is v t hr)))
  where
    x : Action
    x = value_of c scope vs left

    y : Action
    y = value_of c scope vs right

    u : Typing
    u = typing_of scope left

    v : Typing
    v = typing_of scope right

-- the operators that evaluate both operands
evaluates_both : (op : BinOp) (s t : Ty) (left right : Action) (w : World) → is_logical op ≡ false → both left right (λ y z. answered (binary_number op s t y z)) w ≡ integers_value op s t left right w
evaluates_both Add s t left right w h = refl
evaluates_both Sub s t left right w h = refl
evaluates_both Mul s t left right w h = refl
evaluates_both Div s t left right w h = refl
evaluates_both Rem s t left right w h = refl
evaluates_both And s t left right w h = refl
evaluates_both Or s t left right w h = refl
evaluates_both Xor s t left right w h = refl
evaluates_both Shl s t left right w h = refl
evaluates_both Shr s t left right w h = refl
evaluates_both Eq s t left right w h = refl
evaluates_both Ne s t left right w h = refl
evaluates_both Lt s t left right w h = refl
evaluates_both Le s t left right w h = refl
evaluates_both Gt s t left right w h = refl
evaluates_both Ge s t left right w h = refl
evaluates_both LogAnd s t left right w h = absurd (true≢false h)
evaluates_both LogOr s t left right w h = absurd (true≢false h)

pub tree_binary : (a b c e : Written) (scope : Scope) (tb : Table) (l p : ℕ) (op : BinOp) (s t : Ty) (left right : Tree) (r r' d m f : ℕ) → IsTableOf a tb (length a.regs) → m < f → is_logical op ≡ false → HasNumber scope left s → HasNumber scope right t →
    r < length b.regs → AddsTree a b scope tb left s r m f → AddsTree b c scope tb right t r' m f → AddsNumber c e (two (binary_number op s t) s r t r') (binary_type op s t) d m (length c.regs) f 3 →
    AddsTree a e scope tb (binary l p op left right) (binary_type op s t) d m f
tree_binary a b c e scope tb l p op s t left right r r' d m f it lm plain hl hr lr x y z =
    emits_less a e tb _ (Int (binary_type op s t)) d m (length a.regs) f (length a.regs) f (8 * nodes_of left + 8 * nodes_of right + 3) (8 * (1 + nodes_of left + nodes_of right)) (omega arith) (omega arith) (omega arith)
    (emits_same a e tb _ _ (Int (binary_type op s t)) d m (length a.regs) f (8 * nodes_of left + 8 * nodes_of right + 3)
    (λ k vs w. evaluates_both op s t (value_of k scope vs left) (value_of k scope vs right) w plain ∙ numbers_value k scope vs l p op s t left right w hl hr)
    (emits_two a b c e tb _ _ (binary_number op s t) s t (binary_type op s t) r r' d m (length a.regs) (length b.regs) (length c.regs) f (8 * nodes_of left) (8 * nodes_of right) 3 it lm (no_fewer a b _ _ 0 x) (no_fewer b c _ _ 0 y) lr x y z))
