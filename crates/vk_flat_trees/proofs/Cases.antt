-- Two cases under the masks that are given.
use Rattle.std.proofs.Common.{sym, ◌≡◌, ℕ, ◌<◌, ◌≤◌, Bool, true, List, length, cond, subst, pos, Ok, Option, Some, is_some}
use Rattle.std.specs.Prelude.{IsTrue}
use Rattle.vk_types.specs.declared.types.Ty.{Ty}
use Rattle.vk_types.specs.declared.types.Ty.TheVariants.{I32}
use Rattle.vk_types.specs.Numbers.{wrap_number}
use Rattle.vk_types.specs.Conversions.{common_type}
use Rattle.vk_ast.specs.declared.expressions.BinOp.TheVariants.{LogAnd, LogOr}
use Rattle.vk_ast.specs.declared.expressions.BinOp.{BinOp}
use Rattle.vk_rules_book.specs.Typings.{is_plus}
use Rattle.vk_ast.specs.Tree.{Tree, binary, choice}
use Rattle.vk_numbers.specs.Operators.{is_on}
use Rattle.vk_rules_book.specs.Scopes.{Scope}
use Rattle.vk_construct.specs.Adds.{Written}
use Rattle.vk_construct.specs.Applies.{one}
use Rattle.vk_construct.specs.Computes.{Table}
use Rattle.vk_construct.specs.Trees.{HasNumber}
use Rattle.vk_flat.specs.declared.emitter.Place.{Place}
use Rattle.vk_flat.specs.declared.emitter.Under.{Under}
use Rattle.vk_flat.specs.Emitters.{BringsInto, HasCases, first_case, second_case}
use Rattle.vk_flat_pointers.specs.declared.homes.Named.{Named}
use Rattle.vk_flat_pointers.specs.declared.homes.Pointer.{Pointer}
use Rattle.vk_flat_pointers.specs.Pieces.{HasMoved, in_register}
use Rattle.vk_flat_trees.specs.Emits.{EmitsNumber, EmitsPointer, Grows}
use Rattle.vk_flat_trees.specs.Names.{AreNames, summed}
use Rattle.vk_flat_trees.proofs.Pointing.{plus_is, sum_emits}
use Rattle.vk_flat_trees.proofs.Ready.{summed_plus}
use Rattle.vk_flat_trees.proofs.Emitting.{and_emits, choice_emits, grows_adds, grows_then, or_emits}

-- ---- code

module _ (c0 c1 c3 c4 c5 e : Written) (names : List Named) (l k : ℕ) (left right : Tree) (a b d : Place) (u v w x : Under) (lm : u.mask < u.free) (ei : d.ty ≡ I32)
    (le : length c0.regs ≤ length c1.regs) (first : EmitsNumber c0 c1 names left a u) (cases : HasCases c1 c3 a d u) where
  pub and_under : v ≡ first_case u → w ≡ first_case u → x ≡ second_case u → EmitsNumber c3 e names right b v → BringsInto e c4 (one (λ z. Ok (cond (is_on z) (pos 1) (pos 0))) b.ty b.register) d w 3 →
      BringsInto c4 c5 (λ h. Ok (wrap_number d.ty (pos 0))) d x 1 → EmitsNumber c0 c5 names (binary l k LogAnd left right) d u
  and_under ev ew ex second third fourth = and_emits c0 c1 c3 c4 c5 e names l k left right a b d u lm ei le first cases
      (subst (λ m. EmitsNumber c3 e names right b m) ev second) (subst (λ m. BringsInto e c4 (one (λ z. Ok (cond (is_on z) (pos 1) (pos 0))) b.ty b.register) d m 3) ew third)
      (subst (λ m. BringsInto c4 c5 (λ h. Ok (wrap_number d.ty (pos 0))) d m 1) ex fourth)

  pub or_under : v ≡ first_case u → w ≡ second_case u → x ≡ second_case u → BringsInto c3 c4 (λ h. Ok (wrap_number d.ty (pos 1))) d v 1 → EmitsNumber c4 e names right b w →
      BringsInto e c5 (one (λ z. Ok (cond (is_on z) (pos 1) (pos 0))) b.ty b.register) d x 3 → EmitsNumber c0 c5 names (binary l k LogOr left right) d u
  or_under ev ew ex second third fourth = or_emits c0 c1 c3 c4 c5 e names l k left right a b d u lm ei le first cases
      (subst (λ m. BringsInto c3 c4 (λ h. Ok (wrap_number d.ty (pos 1))) d m 1) ev second) (subst (λ m. EmitsNumber c4 e names right b m) ew third)
      (subst (λ m. BringsInto e c5 (one (λ z. Ok (cond (is_on z) (pos 1) (pos 0))) b.ty b.register) d m 3) ex fourth)

module _ (c0 c1 c3 x4 c4 x5 c5 : Written) (names : List Named) (l k : ℕ) (test first second : Tree) (a b c d : Place) (u v v2 w w2 : Under) (s t : Ty) (lm : u.mask < u.free) (same : d.ty ≡ common_type s t)
    (le : length c0.regs ≤ length c1.regs) (ts : (scope : Scope) (tb : Table) → AreNames names scope tb → HasNumber scope first s) (tt : (scope : Scope) (tb : Table) → AreNames names scope tb → HasNumber scope second t)
    (one_ : EmitsNumber c0 c1 names test a u) (cases : HasCases c1 c3 a d u) where
  pub choice_under : v ≡ first_case u → v2 ≡ first_case u → w ≡ second_case u → w2 ≡ second_case u → EmitsNumber c3 x4 names first b v → BringsInto x4 c4 (one (λ z. Ok (wrap_number d.ty z)) b.ty b.register) d v2 1 →
      EmitsNumber c4 x5 names second c w → BringsInto x5 c5 (one (λ z. Ok (wrap_number d.ty z)) c.ty c.register) d w2 1 → EmitsNumber c0 c5 names (choice l k test first second) d u
  choice_under ev ev2 ew ew2 two_ three four five = choice_emits c0 c1 c3 x4 c4 x5 c5 names l k test first second a b c d u s t lm same le ts tt one_ cases
      (subst (λ m. EmitsNumber c3 x4 names first b m) ev two_) (subst (λ m. BringsInto x4 c4 (one (λ z. Ok (wrap_number d.ty z)) b.ty b.register) d m 1) ev2 three)
      (subst (λ m. EmitsNumber c4 x5 names second c m) ew four) (subst (λ m. BringsInto x5 c5 (one (λ z. Ok (wrap_number d.ty z)) c.ty c.register) d m 1) ew2 five)

-- ---- what stays

pub grows_cases : (a b c : Written) (names : List Named) (e : Tree) (x d : Place) (u : Under) → EmitsNumber a b names e x u → HasCases b c x d u → Grows a c
grows_cases a b c names e x d u first cases = grows_then a b c first.grows (grows_adds b c _ 2 0 cases.code)

some_true : (m : Option Bool) (b : Bool) → m ≡ Some b → m ≡ Some true → b ≡ true
some_true m b e f = cc

-- a sum by its operator
pub plus_emits : (a b c d : Written) (names : List Named) (l k : ℕ) (op : BinOp) (base e : Tree) (p : Pointer) (n : Place) (r : Pointer) (u : Under) (m : Option Bool) (q : Bool) → u.mask < u.free → r ≡ in_register p (length c.regs) → IsTrue (is_some (summed (is_plus op) m q)) → m ≡ Some p.moves →
    EmitsPointer a b names base p u → EmitsNumber b c names e n u → HasMoved c d p n r u → EmitsPointer a d names (binary l k op base e) r u
plus_emits a b c d names l k op base e p n r u m q lm is h eq first second move =
    let s = summed_plus (is_plus op) m q h in
    subst (λ o. EmitsPointer a d names (binary l k o base e) r u) (sym (plus_is op s.0)) (sum_emits a b c d names l k base e p n r u lm is (some_true m p.moves eq s.1) first second move)
