-- The code of a node, from that of its parts.
use Rattle.std.proofs.Common.{arith, sym, ◌≡◌, ℕ, ◌+◌, ◌<◌, ◌≤◌, false, List, length, cond, subst, ap, ◌∙◌, Option, Some, ℤ, pos, Result, Ok}
use Rattle.vk_types.specs.declared.types.Ty.{Ty}
use Rattle.vk_types.specs.declared.types.Ty.TheVariants.{I32}
use Rattle.vk_types.specs.declared.types.Stop.{Stop}
use Rattle.vk_types.specs.Numbers.{IsInRange, wrap_number}
use Rattle.vk_types.specs.Conversions.{common_type}
use Rattle.vk_kinds.specs.declared.heads.CType.TheVariants.{Int}
use Rattle.vk_ast.specs.declared.names.NameId.{NameId}
use Rattle.vk_ast.specs.declared.expressions.UnOp.{UnOp}
use Rattle.vk_ast.specs.declared.expressions.BinOp.{BinOp}
use Rattle.vk_ast.specs.declared.expressions.BinOp.TheVariants.{LogAnd, LogOr}
use Rattle.vk_ast.specs.Tree.{Tree, binary, cast, choice, int, name, unary}
use Rattle.vk_numbers.specs.Laws.{is_logical}
use Rattle.vk_numbers.specs.Operators.{binary_number, is_on, unary_number}
use Rattle.vk_numbers.specs.Types.{binary_type, unary_type}
use Rattle.vk_numbers.proofs.Numbers.{wrap_keeps}
use Rattle.vk_rules_book.specs.Scopes.{Scope}
use Rattle.vk_rules_book.specs.Typings.{number_type, typing_of}
use Rattle.vk_lane.specs.Entries.{LaneCall}
use Rattle.vk_lane.specs.Pieces.{Change}
use Rattle.vk_lane.specs.Places.{Share}
use Rattle.vk_construct.specs.Adds.{Adds, AddsNumber, IsTableOf, Written}
use Rattle.vk_construct.specs.Applies.{one, two}
use Rattle.vk_construct.specs.Computes.{Table}
use Rattle.vk_construct.specs.Trees.{AddsTree, HasNumber}
use Rattle.vk_construct.proofs.Adding.{has_written_less, is_inside, no_fewer, table_kept, table_more, type_kept}
use Rattle.vk_construct.proofs.Trees.{number_binary, number_cast, number_choice, number_int, number_unary, tree_binary, tree_cast, tree_int, tree_name, tree_unary}
use Rattle.vk_construct.proofs.Logical.{tree_and, tree_choice, tree_or}
use Rattle.vk_construct.proofs.Names.{number_name}
use Rattle.vk_flat.specs.declared.emitter.Place.{Place}
use Rattle.vk_flat.specs.declared.emitter.Under.{Under}
use Rattle.vk_flat.specs.Emitters.{Brings, BringsInto, HasCases, IsPlace, first_case, second_case}
use Rattle.vk_flat.proofs.Joined.{fits_one, fits_zero}
use Rattle.vk_flat_pointers.specs.declared.homes.Home.TheVariants.{Number}
use Rattle.vk_flat_pointers.specs.declared.homes.Named.{Named}
use Rattle.vk_flat_pointers.specs.Homes.{home_named}
use Rattle.vk_flat_trees.specs.Emits.{EmitsNumber, Grows}
use Rattle.vk_flat_trees.specs.Names.{AreHomes, AreNames}

-- ---- what stays

pub grows_adds : (a b : Written) (F : LaneCall → Change) (size depth : ℕ) → Adds a b F size depth → Grows a b
grows_adds a b F size depth h = record { kept = λ r t e. type_kept a b F size depth r t h e; less = λ q w. has_written_less a b F size depth q h w }

pub grows_same : (a : Written) → Grows a a
grows_same a = record { kept = λ r t e. e; less = λ q w. w }

pub grows_then : (a b c : Written) → Grows a b → Grows b c → Grows a c
grows_then a b c x y = record { kept = λ r t e. y.kept r t (x.kept r t e); less = λ q w. x.less q (y.less q w) }

pub grows_into : (a b : Written) (result : Share → Result ℤ Stop) (d : Place) (u : Under) (size : ℕ) → BringsInto a b result d u size → Grows a b
grows_into a b result d u size h = grows_adds a b _ size 0 (h 0 (omega arith))

pub place_kept : (a b : Written) → Grows a b → (x : Place) → IsPlace a x → IsPlace b x
place_kept a b g x p = g.kept x.register (Int x.ty) p

pub table_then : (a b : Written) (F : LaneCall → Change) (size depth : ℕ) (tb : Table) → Adds a b F size depth → IsTableOf a tb (length a.regs) → IsTableOf b tb (length b.regs)
table_then a b F size depth tb h t = table_more b tb (length a.regs) (length b.regs) (no_fewer a b F size depth h) (table_kept a b F size depth tb (length a.regs) h t)

-- ---- leaves

pub int_emits : (a b : Written) (names : List Named) (l k n : ℕ) (t : Ty) (d : Place) (u : Under) → d.ty ≡ t → Brings a b (λ h. Ok (wrap_number t (pos n))) d u 1 → EmitsNumber a b names (int l k t n) d u
int_emits a b names l k n t d u same h = record {
  code = λ scope tb vars it. subst (λ v. AddsTree a b scope tb (int l k t n) v d.register u.mask u.free) (sym same) (tree_int a b scope tb l k n t d.register u.mask u.free (subst (λ v. AddsNumber a b (λ h. Ok (wrap_number t (pos n))) v d.register u.mask (length a.regs) u.free 1) same h.code));
  typed = λ scope tb vars. subst (HasNumber scope (int l k t n)) (sym same) (number_int scope l k n t);
  place = h.place;
  grows = grows_adds a b _ 1 0 h.code;
}

pub name_emits : (a : Written) (names : List Named) (l k : ℕ) (id : NameId) (x : Place) (u : Under) → home_named names id ≡ Some (Number x) → AreHomes a names → EmitsNumber a a names (name l k id) x u
name_emits a names l k id x u is places = record {
  code = λ scope tb vars it. let v = vars.each id (Number x) is in
      subst (λ r. AddsTree a a scope tb (name l k id) x.ty r u.mask u.free) v.register
      (tree_name a scope tb l k id v.variable x.ty u.mask u.free it vars.variables v.named v.ctype);
  typed = λ scope tb vars. let v = vars.each id (Number x) is in number_name scope l k id v.variable x.ty v.named v.ctype;
  place = places id (Number x) is;
  grows = grows_same a;
}

-- ---- operators

pub cast_emits : (a b c : Written) (names : List Named) (l k : ℕ) (t : Ty) (e : Tree) (x d : Place) (u : Under) → u.mask < u.free → d.ty ≡ t → EmitsNumber a b names e x u →
    Brings b c (one (λ z. Ok (wrap_number t z)) x.ty x.register) d u 1 → EmitsNumber a c names (cast l k t e) d u
cast_emits a b c names l k t e x d u lm same first second = record {
  code = λ scope tb vars it. subst (λ v. AddsTree a c scope tb (cast l k t e) v d.register u.mask u.free) (sym same)
      (tree_cast a b c scope tb l k x.ty t e x.register d.register u.mask u.free it lm (first.code scope tb vars it)
      (subst (λ v. AddsNumber b c (one (λ z. Ok (wrap_number t z)) x.ty x.register) v d.register u.mask (length b.regs) u.free 1) same second.code));
  typed = λ scope tb vars. subst (HasNumber scope (cast l k t e)) (sym same) (number_cast scope l k t x.ty e (first.typed scope tb vars));
  place = second.place;
  grows = grows_then a b c first.grows (grows_adds b c _ 1 0 second.code);
}

pub unary_emits : (a b c : Written) (names : List Named) (l k : ℕ) (op : UnOp) (e : Tree) (x d : Place) (u : Under) → u.mask < u.free → d.ty ≡ unary_type op x.ty → EmitsNumber a b names e x u →
    Brings b c (one (unary_number op x.ty) x.ty x.register) d u 3 → EmitsNumber a c names (unary l k op e) d u
unary_emits a b c names l k op e x d u lm same first second = record {
  code = λ scope tb vars it. subst (λ v. AddsTree a c scope tb (unary l k op e) v d.register u.mask u.free) (sym same)
      (tree_unary a b c scope tb l k op x.ty e x.register d.register u.mask u.free it lm (first.typed scope tb vars) (first.code scope tb vars it)
      (subst (λ v. AddsNumber b c (one (unary_number op x.ty) x.ty x.register) v d.register u.mask (length b.regs) u.free 3) same second.code));
  typed = λ scope tb vars. subst (HasNumber scope (unary l k op e)) (sym same) (number_unary scope l k op x.ty e (first.typed scope tb vars));
  place = second.place;
  grows = grows_then a b c first.grows (grows_adds b c _ 3 0 second.code);
}

pub binary_emits : (a b c e : Written) (names : List Named) (l k : ℕ) (op : BinOp) (left right : Tree) (x y d : Place) (u : Under) → u.mask < u.free → is_logical op ≡ false → d.ty ≡ binary_type op x.ty y.ty →
    EmitsNumber a b names left x u → EmitsNumber b c names right y u → Brings c e (two (binary_number op x.ty y.ty) x.ty x.register y.ty y.register) d u 3 → EmitsNumber a e names (binary l k op left right) d u
binary_emits a b c e names l k op left right x y d u lm plain same first second third = record {
  code = λ scope tb vars it. let p = first.code scope tb vars it in
      subst (λ v. AddsTree a e scope tb (binary l k op left right) v d.register u.mask u.free) (sym same)
      (tree_binary a b c e scope tb l k op x.ty y.ty left right x.register y.register d.register u.mask u.free it lm plain (first.typed scope tb vars) (second.typed scope tb vars)
      (is_inside b.regs x.register (Int x.ty) first.place) p (second.code scope tb vars (table_then a b _ _ 0 tb p it))
      (subst (λ v. AddsNumber c e (two (binary_number op x.ty y.ty) x.ty x.register y.ty y.register) v d.register u.mask (length c.regs) u.free 3) same third.code));
  typed = λ scope tb vars. subst (HasNumber scope (binary l k op left right)) (sym same) (number_binary scope l k op x.ty y.ty left right (first.typed scope tb vars) (second.typed scope tb vars));
  place = third.place;
  grows = grows_then a c e (grows_then a b c first.grows second.grows) (grows_adds c e _ 3 0 third.code);
}

-- ---- two cases

-- a constant of the type int, 0 or 1
int_constant : (a b : Written) (d : Place) (u : Under) (n : ℕ) (k : ℕ) → IsInRange I32 (pos n) → d.ty ≡ I32 → k ≤ d.register → BringsInto a b (λ h. Ok (wrap_number d.ty (pos n))) d u 1 →
    AddsNumber a b (λ h. Ok (pos n)) I32 d.register u.mask k u.free 1
int_constant a b d u n k fits ei le h = subst (λ t. AddsNumber a b (λ x. Ok (pos n)) t d.register u.mask k u.free 1) ei
    (subst (λ z. AddsNumber a b (λ x. Ok z) d.ty d.register u.mask k u.free 1) (ap (λ t. wrap_number t (pos n)) ei ∙ wrap_keeps I32 (pos n) fits) (h k le))

int_truth : (a b : Written) (x d : Place) (u : Under) (k : ℕ) → d.ty ≡ I32 → k ≤ d.register → BringsInto a b (one (λ z. Ok (cond (is_on z) (pos 1) (pos 0))) x.ty x.register) d u 3 →
    AddsNumber a b (one (λ z. Ok (cond (is_on z) (pos 1) (pos 0))) x.ty x.register) I32 d.register u.mask k u.free 3
int_truth a b x d u k ei le h = subst (λ t. AddsNumber a b (one (λ z. Ok (cond (is_on z) (pos 1) (pos 0))) x.ty x.register) t d.register u.mask k u.free 3) ei (h k le)

above : (c0 c1 c3 : Written) (names : List Named) (e : Tree) (a d : Place) (u : Under) → length c0.regs ≤ length c1.regs → HasCases c1 c3 a d u → length c0.regs ≤ d.register
above c0 c1 c3 names e a d u le h = let p = h.above in omega (arith, le, p)

module _ (c0 c1 c3 c4 c5 e : Written) (names : List Named) (l k : ℕ) (left right : Tree) (a b d : Place) (u : Under) (lm : u.mask < u.free) (ei : d.ty ≡ I32)
    (le : length c0.regs ≤ length c1.regs) (first : EmitsNumber c0 c1 names left a u) (cases : HasCases c1 c3 a d u) where
  here : length c0.regs ≤ d.register
  here = above c0 c1 c3 names left a d u le cases

  begins : Grows c0 c3
  begins = grows_then c0 c1 c3 first.grows (grows_adds c1 c3 _ 2 0 cases.code)

  pub and_emits : EmitsNumber c3 e names right b (first_case u) → BringsInto e c4 (one (λ z. Ok (cond (is_on z) (pos 1) (pos 0))) b.ty b.register) d (first_case u) 3 → BringsInto c4 c5 (λ h. Ok (wrap_number d.ty (pos 0))) d (second_case u) 1 →
      EmitsNumber c0 c5 names (binary l k LogAnd left right) d u
  and_emits second third fourth = record {
    code = λ scope tb vars it. let p = first.code scope tb vars it in let q = table_then c1 c3 _ 2 0 tb cases.code (table_then c0 c1 _ _ 0 tb p it) in
        subst (λ t. AddsTree c0 c5 scope tb (binary l k LogAnd left right) t d.register u.mask u.free) (sym ei)
        (tree_and c0 c1 c3 c4 c5 scope tb l k a.ty b.ty left right a.register b.register d.register u.mask u.free it lm (first.typed scope tb vars) (second.typed scope tb vars) first.place p cases.code e (second.code scope tb vars q)
        (int_truth e c4 b d (first_case u) (length c0.regs) ei here third) (int_constant c4 c5 d (second_case u) 0 (length c0.regs) fits_zero ei here fourth));
    typed = λ scope tb vars. subst (HasNumber scope (binary l k LogAnd left right)) (sym ei) (number_binary scope l k LogAnd a.ty b.ty left right (first.typed scope tb vars) (second.typed scope tb vars));
    place = place_kept c3 c5 (grows_then c3 e c5 second.grows (grows_then e c4 c5 (grows_into e c4 _ d _ 3 third) (grows_into c4 c5 _ d _ 1 fourth))) d cases.place;
    grows = grows_then c0 c3 c5 begins (grows_then c3 e c5 second.grows (grows_then e c4 c5 (grows_into e c4 _ d _ 3 third) (grows_into c4 c5 _ d _ 1 fourth)));
  }

  pub or_emits : BringsInto c3 c4 (λ h. Ok (wrap_number d.ty (pos 1))) d (first_case u) 1 → EmitsNumber c4 e names right b (second_case u) → BringsInto e c5 (one (λ z. Ok (cond (is_on z) (pos 1) (pos 0))) b.ty b.register) d (second_case u) 3 →
      EmitsNumber c0 c5 names (binary l k LogOr left right) d u
  or_emits second third fourth = record {
    code = λ scope tb vars it. let p = first.code scope tb vars it in let q = table_then c3 c4 _ 1 0 tb (second 0 (omega arith)) (table_then c1 c3 _ 2 0 tb cases.code (table_then c0 c1 _ _ 0 tb p it)) in
        subst (λ t. AddsTree c0 c5 scope tb (binary l k LogOr left right) t d.register u.mask u.free) (sym ei)
        (tree_or c0 c1 c3 c4 c5 scope tb l k a.ty b.ty left right a.register b.register d.register u.mask u.free it lm (first.typed scope tb vars) (third.typed scope tb vars) first.place p cases.code e
        (int_constant c3 c4 d (first_case u) 1 (length c0.regs) fits_one ei here second) (third.code scope tb vars q) (int_truth e c5 b d (second_case u) (length c0.regs) ei here fourth));
    typed = λ scope tb vars. subst (HasNumber scope (binary l k LogOr left right)) (sym ei) (number_binary scope l k LogOr a.ty b.ty left right (first.typed scope tb vars) (third.typed scope tb vars));
    place = place_kept c3 c5 (grows_then c3 c4 c5 (grows_into c3 c4 _ d _ 1 second) (grows_then c4 e c5 third.grows (grows_into e c5 _ d _ 3 fourth))) d cases.place;
    grows = grows_then c0 c3 c5 begins (grows_then c3 c4 c5 (grows_into c3 c4 _ d _ 1 second) (grows_then c4 e c5 third.grows (grows_into e c5 _ d _ 3 fourth)));
  }

-- an expression has one type
same_number : (scope : Scope) (e : Tree) (s t : Ty) → HasNumber scope e s → HasNumber scope e t → s ≡ t
same_number scope e s t a b = some_same (number_type (typing_of scope e)) s t a b
  where
    some_same : (o : Option Ty) (x y : Ty) → o ≡ Some x → o ≡ Some y → x ≡ y
    some_same o x y p q = cc

module _ (c0 c1 c3 x4 c4 x5 c5 : Written) (names : List Named) (l k : ℕ) (test first second : Tree) (a b c d : Place) (u : Under) (s t : Ty) (lm : u.mask < u.free) (same : d.ty ≡ common_type s t)
    (le : length c0.regs ≤ length c1.regs) (ts : (scope : Scope) (tb : Table) → AreNames names scope tb → HasNumber scope first s) (tt : (scope : Scope) (tb : Table) → AreNames names scope tb → HasNumber scope second t)
    (one_ : EmitsNumber c0 c1 names test a u) (cases : HasCases c1 c3 a d u) (two_ : EmitsNumber c3 x4 names first b (first_case u)) (three : BringsInto x4 c4 (one (λ z. Ok (wrap_number d.ty z)) b.ty b.register) d (first_case u) 1)
    (four : EmitsNumber c4 x5 names second c (second_case u)) (five : BringsInto x5 c5 (one (λ z. Ok (wrap_number d.ty z)) c.ty c.register) d (second_case u) 1) where
  inside : length c0.regs ≤ d.register
  inside = above c0 c1 c3 names test a d u le cases

  converted : (p q : Written) (x : Place) (v : Under) → BringsInto p q (one (λ z. Ok (wrap_number d.ty z)) x.ty x.register) d v 1 → AddsNumber p q (one (λ z. Ok (wrap_number (common_type s t) z)) x.ty x.register) (common_type s t) d.register v.mask (length c0.regs) v.free 1
  converted p q x v h = subst (λ w. AddsNumber p q (one (λ z. Ok (wrap_number w z)) x.ty x.register) w d.register v.mask (length c0.regs) v.free 1) same (h (length c0.regs) inside)

  ends : Grows c3 c5
  ends = grows_then c3 x4 c5 two_.grows (grows_then x4 c4 c5 (grows_into x4 c4 _ d _ 1 three) (grows_then c4 x5 c5 four.grows (grows_into x5 c5 _ d _ 1 five)))

  pub choice_emits : EmitsNumber c0 c5 names (choice l k test first second) d u
  choice_emits = record {
    code = λ scope tb vars it. let eb = same_number scope first b.ty s (two_.typed scope tb vars) (ts scope tb vars) in let ec = same_number scope second c.ty t (four.typed scope tb vars) (tt scope tb vars) in let p = one_.code scope tb vars it in let q = table_then c1 c3 _ 2 0 tb cases.code (table_then c0 c1 _ _ 0 tb p it) in let r = two_.code scope tb vars q in
        let w = table_then x4 c4 _ 1 0 tb (three 0 (omega arith)) (table_then c3 x4 _ _ 0 tb r q) in
        subst (λ v. AddsTree c0 c5 scope tb (choice l k test first second) v d.register u.mask u.free) (sym same)
        (tree_choice c0 c1 c3 x4 c4 x5 c5 scope tb l k a.ty s t test first second a.register b.register c.register d.register u.mask u.free it lm (ts scope tb vars) (tt scope tb vars) one_.place p cases.code
        (subst (λ v. AddsTree c3 x4 scope tb first v b.register u.free (u.free + 2)) eb r) (subst (λ v. AddsNumber x4 c4 (one (λ z. Ok (wrap_number (common_type s t) z)) v b.register) (common_type s t) d.register u.free (length c0.regs) (u.free + 2) 1) eb (converted x4 c4 b (first_case u) three))
        (subst (λ v. AddsTree c4 x5 scope tb second v c.register (u.free + 1) (u.free + 2)) ec (four.code scope tb vars w)) (subst (λ v. AddsNumber x5 c5 (one (λ z. Ok (wrap_number (common_type s t) z)) v c.register) (common_type s t) d.register (u.free + 1) (length c0.regs) (u.free + 2) 1) ec (converted x5 c5 c (second_case u) five)));
    typed = λ scope tb vars. subst (HasNumber scope (choice l k test first second)) (sym same) (number_choice scope l k a.ty s t test first second (one_.typed scope tb vars) (ts scope tb vars) (tt scope tb vars));
    place = place_kept c3 c5 ends d cases.place;
    grows = grows_then c0 c3 c5 (grows_then c0 c1 c3 one_.grows (grows_adds c1 c3 _ 2 0 cases.code)) ends;
  }
