-- Two cases under the masks that are given, and the room that code of parts takes.
use Rattle.std.proofs.Common.{arith, sym, ◌≡◌, ℕ, ◌+◌, ◌*◌, ◌<◌, ◌≤◌, true, false, Bool, ◌&&◌, List, length, cond, refl, subst, pos, Ok}
use Rattle.std.specs.Prelude.{IsTrue}
use Rattle.vk_types.specs.declared.types.Ty.{Ty}
use Rattle.vk_types.specs.declared.types.Ty.TheVariants.{I32}
use Rattle.vk_types.specs.Numbers.{wrap_number}
use Rattle.vk_types.specs.Conversions.{common_type}
use Rattle.vk_ast.specs.declared.expressions.BinOp.TheVariants.{LogAnd, LogOr}
use Rattle.vk_ast.specs.Tree.{Tree, binary, choice}
use Rattle.vk_numbers.specs.Operators.{is_on}
use Rattle.vk_rules_book.specs.Scopes.{Scope}
use Rattle.vk_construct.specs.Adds.{Written}
use Rattle.vk_construct.specs.Applies.{one}
use Rattle.vk_construct.specs.Computes.{Table}
use Rattle.vk_construct.specs.Trees.{HasNumber}
use Rattle.vk_flat.specs.declared.emitter.Place.{Place}
use Rattle.vk_flat.specs.declared.emitter.Under.{Under}
use Rattle.vk_flat.specs.declared.locals.Local.{Local}
use Rattle.vk_flat.specs.Emitters.{BringsInto, HasCases, IsPlace, first_case, second_case}
use Rattle.vk_flat.specs.Locals.{AreLocals, ArePlaces, Emits}
use Rattle.vk_flat.proofs.Emitting.{adds_kept, and_emits, choice_emits, into_kept, or_emits, places_kept}

-- ---- tests

pub second_of : (a b : Bool) → IsTrue (a && b) → IsTrue b
second_of true b h = h
second_of false true h = refl
second_of false false h = h

pub first_of : (a b : Bool) → IsTrue (a && b) → IsTrue a
first_of true b h = refl
first_of false true h = h
first_of false false h = h

pub middle_of : (a b c : Bool) → IsTrue (a && b && c) → IsTrue b
middle_of a b c h = second_of a b (first_of (a && b) c h)

-- ---- masks

pub first_runs : (u v : Under) → v ≡ first_case u → v.mask < v.free
first_runs u v e = subst (λ (x : Under). x.mask < x.free) (sym e) (omega arith)

pub second_runs : (u v : Under) → v ≡ second_case u → v.mask < v.free
second_runs u v e = subst (λ (x : Under). x.mask < x.free) (sym e) (omega arith)

pub first_fits : (u v : Under) (m : ℕ) → v ≡ first_case u → u.free + 3 ≤ m → v.free ≤ m
first_fits u v m e h = subst (λ (x : Under). x.free ≤ m) (sym e) (omega (arith, h))

pub second_fits : (u v : Under) (m n : ℕ) → v ≡ second_case u → u.free + 3 ≤ m → m ≤ n → v.free ≤ n
second_fits u v m n e h k = subst (λ (x : Under). x.free ≤ n) (sym e) (omega (arith, h, k))

-- ---- room

pub same_most : (m n : ℕ) → n ≡ m → m ≤ n
same_most m n e = omega (arith, e)

pub still_most : (m n k : ℕ) → m ≤ n → k ≡ n → m ≤ k
still_most m n k h e = omega (arith, h, e)

pub params_first : (p r p1 r1 p2 r2 : ℕ) → p ≤ r → p1 ≡ p → r ≤ r1 → p2 ≡ p1 → r2 ≡ r1 + 1 → p2 ≤ r2
params_first p r p1 r1 p2 r2 h a b c d = omega (arith, h, a, b, c, d)

pub params_next : (p r q s : ℕ) → p ≤ r → q ≡ p → r ≤ s → q ≤ s
params_next p r q s h a b = omega (arith, h, a, b)

pub room_two : (r m r1 m1 r2 m2 n k : ℕ) → r + m + 4 * (1 + n + k) < 65536 → r1 + m1 ≤ r + m + 4 * n → r2 ≡ r1 + 1 → m2 ≤ m1 + 3 → r2 + m2 + 4 * k < 65536
room_two r m r1 m1 r2 m2 n k h a b c = omega (arith, h, a, b, c)

pub room_three : (r m r1 m1 r2 m2 n k j : ℕ) → r + m + 4 * (1 + n + k + j) < 65536 → r1 + m1 ≤ r + m + 4 * n → r2 ≡ r1 + 1 → m2 ≤ m1 + 3 → r2 + m2 + 4 * (k + j) < 65536
room_three r m r1 m1 r2 m2 n k j h a b c = omega (arith, h, a, b, c)

pub room_first : (s k j : ℕ) → s + 4 * (k + j) < 65536 → s + 4 * k < 65536
room_first s k j h = omega (arith, h)

pub room_last : (r m r1 m1 k j : ℕ) → r + m + 4 * (k + j) < 65536 → r1 + m1 ≤ r + m + 4 * k → r1 + m1 + 4 * j < 65536
room_last r m r1 m1 k j h a = omega (arith, h, a)

pub room_kept : (r m r1 m1 k : ℕ) → r + m + 4 * k < 65536 → r1 ≤ r + 0 → m1 ≡ m → r1 + m1 + 4 * k < 65536
room_kept r m r1 m1 k h a b = omega (arith, h, a, b)

-- ---- a binary operator

pub masks_after : (m m1 m2 m3 : ℕ) → m ≤ m1 → m1 ≤ m2 → m3 ≡ m2 → m ≤ m3
masks_after m m1 m2 m3 a b c = omega (arith, a, b, c)

pub registers_after : (r r1 r2 r3 : ℕ) → r ≤ r1 → r1 ≤ r2 → r2 ≤ r3 → r ≤ r3
registers_after r r1 r2 r3 a b c = omega (arith, a, b, c)

pub count_after : (r m r1 m1 r2 m2 r3 m3 n k : ℕ) → r1 + m1 ≤ r + m + 4 * n → r2 + m2 ≤ r1 + m1 + 4 * k → r3 ≤ r2 + 3 → m3 ≡ m2 → r3 + m3 ≤ r + m + 4 * (1 + n + k)
count_after r m r1 m1 r2 m2 r3 m3 n k a b c d = omega (arith, a, b, c, d)

-- ---- places

pub places_cases : (c0 c1 c2 : Written) (locals : List Local) (e : Tree) (a d : Place) (u : Under) → Emits c0 c1 locals e a u → HasCases c1 c2 a d u → ArePlaces c0 locals → ArePlaces c2 locals
places_cases c0 c1 c2 locals e a d u first cases = places_kept c0 c2 locals (λ x p. adds_kept c1 c2 _ 2 0 cases.code x (first.kept x p))

pub places_emitted : (a b : Written) (locals : List Local) (e : Tree) (d : Place) (u : Under) → Emits a b locals e d u → ArePlaces a locals → ArePlaces b locals
places_emitted a b locals e d u h = places_kept a b locals h.kept

pub places_zero : (a b : Written) (locals : List Local) (n : ℕ) (d : Place) (u : Under) → BringsInto a b (λ h. Ok (wrap_number d.ty (pos n))) d u 1 → ArePlaces a locals → ArePlaces b locals
places_zero a b locals n d u h = places_kept a b locals (into_kept a b _ d u 1 h)

pub places_converted : (a b : Written) (locals : List Local) (x d : Place) (u : Under) → BringsInto a b (one (λ z. Ok (wrap_number d.ty z)) x.ty x.register) d u 1 → ArePlaces a locals → ArePlaces b locals
places_converted a b locals x d u h = places_kept a b locals (into_kept a b _ d u 1 h)

-- the place of the result is still there
pub kept_and : (c1 c3 c4 c5 : Written) (locals : List Local) (e : Tree) (a b d : Place) (u v w : Under) → HasCases c1 c3 a d u → Emits c3 c4 locals e b v →
    BringsInto c4 c5 (one (λ z. Ok (cond (is_on z) (pos 1) (pos 0))) b.ty b.register) d w 3 → IsPlace c5 d
kept_and c1 c3 c4 c5 locals e a b d u v w cases x y = into_kept c4 c5 _ d w 3 y d (x.kept d cases.place)

pub kept_or : (c1 c3 c4 c5 : Written) (locals : List Local) (e : Tree) (a b d : Place) (u v w : Under) → HasCases c1 c3 a d u → BringsInto c3 c4 (λ h. Ok (wrap_number d.ty (pos 1))) d v 1 →
    Emits c4 c5 locals e b w → IsPlace c5 d
kept_or c1 c3 c4 c5 locals e a b d u v w cases x y = y.kept d (into_kept c3 c4 _ d v 1 x d cases.place)

pub kept_choice : (c1 c3 x4 c4 x5 : Written) (locals : List Local) (e f : Tree) (a b c d : Place) (u v v2 w : Under) → HasCases c1 c3 a d u → Emits c3 x4 locals e b v →
    BringsInto x4 c4 (one (λ z. Ok (wrap_number d.ty z)) b.ty b.register) d v2 1 → Emits c4 x5 locals f c w → IsPlace x5 d
kept_choice c1 c3 x4 c4 x5 locals e f a b c d u v v2 w cases x y z = z.kept d (into_kept x4 c4 _ d v2 1 y d (x.kept d cases.place))

-- ---- code

module _ (c0 c1 c3 c4 c5 e : Written) (locals : List Local) (l k : ℕ) (left right : Tree) (a b d : Place) (u v w x : Under) (lm : u.mask < u.free) (ei : d.ty ≡ I32)
    (le : length c0.regs ≤ length c1.regs) (first : Emits c0 c1 locals left a u) (cases : HasCases c1 c3 a d u) where
  pub and_under : v ≡ first_case u → w ≡ first_case u → x ≡ second_case u → Emits c3 e locals right b v → BringsInto e c4 (one (λ z. Ok (cond (is_on z) (pos 1) (pos 0))) b.ty b.register) d w 3 →
      BringsInto c4 c5 (λ h. Ok (wrap_number d.ty (pos 0))) d x 1 → Emits c0 c5 locals (binary l k LogAnd left right) d u
  and_under ev ew ex second third fourth = and_emits c0 c1 c3 c4 c5 e locals l k left right a b d u lm ei le first cases
      (subst (λ m. Emits c3 e locals right b m) ev second) (subst (λ m. BringsInto e c4 (one (λ z. Ok (cond (is_on z) (pos 1) (pos 0))) b.ty b.register) d m 3) ew third)
      (subst (λ m. BringsInto c4 c5 (λ h. Ok (wrap_number d.ty (pos 0))) d m 1) ex fourth)

  pub or_under : v ≡ first_case u → w ≡ second_case u → x ≡ second_case u → BringsInto c3 c4 (λ h. Ok (wrap_number d.ty (pos 1))) d v 1 → Emits c4 e locals right b w →
      BringsInto e c5 (one (λ z. Ok (cond (is_on z) (pos 1) (pos 0))) b.ty b.register) d x 3 → Emits c0 c5 locals (binary l k LogOr left right) d u
  or_under ev ew ex second third fourth = or_emits c0 c1 c3 c4 c5 e locals l k left right a b d u lm ei le first cases
      (subst (λ m. BringsInto c3 c4 (λ h. Ok (wrap_number d.ty (pos 1))) d m 1) ev second) (subst (λ m. Emits c4 e locals right b m) ew third)
      (subst (λ m. BringsInto e c5 (one (λ z. Ok (cond (is_on z) (pos 1) (pos 0))) b.ty b.register) d m 3) ex fourth)

module _ (c0 c1 c3 x4 c4 x5 c5 : Written) (locals : List Local) (l k : ℕ) (test first second : Tree) (a b c d : Place) (u v v2 w w2 : Under) (s t : Ty) (lm : u.mask < u.free) (same : d.ty ≡ common_type s t)
    (le : length c0.regs ≤ length c1.regs) (ts : (scope : Scope) (tb : Table) → AreLocals locals scope tb → HasNumber scope first s) (tt : (scope : Scope) (tb : Table) → AreLocals locals scope tb → HasNumber scope second t)
    (one_ : Emits c0 c1 locals test a u) (cases : HasCases c1 c3 a d u) where
  pub choice_under : v ≡ first_case u → v2 ≡ first_case u → w ≡ second_case u → w2 ≡ second_case u → Emits c3 x4 locals first b v → BringsInto x4 c4 (one (λ z. Ok (wrap_number d.ty z)) b.ty b.register) d v2 1 →
      Emits c4 x5 locals second c w → BringsInto x5 c5 (one (λ z. Ok (wrap_number d.ty z)) c.ty c.register) d w2 1 → Emits c0 c5 locals (choice l k test first second) d u
  choice_under ev ev2 ew ew2 two_ three four five = choice_emits c0 c1 c3 x4 c4 x5 c5 locals l k test first second a b c d u s t lm same le ts tt one_ cases
      (subst (λ m. Emits c3 x4 locals first b m) ev two_) (subst (λ m. BringsInto x4 c4 (one (λ z. Ok (wrap_number d.ty z)) b.ty b.register) d m 1) ev2 three)
      (subst (λ m. Emits c4 x5 locals second c m) ew four) (subst (λ m. BringsInto x5 c5 (one (λ z. Ok (wrap_number d.ty z)) c.ty c.register) d m 1) ew2 five)
