-- What a good loop says of its registers.
use Rattle.std.proofs.Common.{get_or, drop, ◌≡◌, ℕ, zero, suc, ◌+◌, ◌<◌, ◌==◌, nat_le, nat_lt, Bool, true, false, not, ◌&&◌, ◌||◌, List, [], ◌∷◌, length, Some, refl, ap, sym, subst, ◌∙◌, arith}
use Rattle.std.specs.Prelude.{slice_get}
use Rattle.std.specs.List.{list_all}
use Rattle.std.proofs.lemmas.Bool.{eqb-true, false≢true, lt-ltb, ltb-true}
use Rattle.vk_kinds.specs.declared.heads.CType.{CType}
use Rattle.vk_code.specs.declared.code.Guard.{Guard}
use Rattle.vk_code.specs.Listing.{Routine, SimdSite, reg_type}
use Rattle.vk_code.specs.Valid.{Environment, body_regs, has_good_bounds, has_good_captures, is_body, is_good_guard, is_good_loop, is_good_simdlen, is_integer, is_pointer, is_promoted}
use Rattle.vk_code.proofs.Faults.{and_left, and_right}
use Rattle.vk_object.specs.Lane.{LaneState, ty_at}
use Rattle.vk_object.specs.Memory.{array_of}
use Rattle.vk_object.specs.Machine.{guard_holds}
use Rattle.vk_runs.proofs.Reached.{all_at}
use Rattle.vk_runs.proofs.Words.{ty_of_number}
use Rattle.vk_steps.proofs.Typed.{IsInteger, integer_at, there}

pub record LoopRegisters (c : Routine) (l : SimdSite) : Type 0 where
  pub low : IsInteger c.regs l.low
  pub high : IsInteger c.regs l.high
  pub same : ty_at c.regs l.high ≡ ty_at c.regs l.low
  pub captures : (p r : ℕ) → slice_get l.captures p ≡ Some r → r < length c.regs
  pub guards : (n : ℕ) (g : Guard) → slice_get l.guards n ≡ Some g → (g.first < length c.regs) × (g.second < length c.regs)

promoted_small : (n : ℕ) → is_promoted n ≡ true → is_integer n ≡ true
promoted_small n h = by (n == 2) (n == 3) (n == 6) (n == 7) (eqb-true n 2) (eqb-true n 3) (eqb-true n 6) (eqb-true n 7) h
  where
    by : (a b c d : Bool) → (a ≡ true → n ≡ 2) → (b ≡ true → n ≡ 3) → (c ≡ true → n ≡ 6) → (d ≡ true → n ≡ 7) → (a || b || c || d) ≡ true → is_integer n ≡ true
    by true b c d e f g i h = let k = e refl in lt-ltb n 8 (omega (arith, k))
    by false true c d e f g i h = let k = f refl in lt-ltb n 8 (omega (arith, k))
    by false false true d e f g i h = let k = g refl in lt-ltb n 8 (omega (arith, k))
    by false false false true e f g i h = let k = i refl in lt-ltb n 8 (omega (arith, k))
    by false false false false e f g i h = absurd (false≢true h)

pointer_there : (regs : List CType) (r : ℕ) → is_pointer (reg_type regs r) ≡ true → r < length regs
pointer_there regs r h = let l = ltb-true (reg_type regs r) 24 (and_right (nat_le 8 (reg_type regs r)) (nat_lt (reg_type regs r) 24) h) in there regs r (omega (arith, l))

pub loop_registers : (e : Environment) (c : Routine) (l : SimdSite) → is_good_loop e c l ≡ true → LoopRegisters c l
loop_registers e c l h =
    let both = and_left (has_good_bounds c l && has_good_captures c l) (is_body e c (body_regs l) l.body) h in
    let bounds = and_left (has_good_bounds c l) (has_good_captures c l) both in
    let rest = and_right (has_good_bounds c l) (has_good_captures c l) both in
    let low = promoted_small (reg_type c.regs l.low) (and_right (not c.lane_code && is_good_simdlen l.simdlen) (is_promoted (reg_type c.regs l.low)) (and_left (not c.lane_code && is_good_simdlen l.simdlen && is_promoted (reg_type c.regs l.low)) (reg_type c.regs l.high == reg_type c.regs l.low) bounds)) in
    let same = eqb-true (reg_type c.regs l.high) (reg_type c.regs l.low) (and_right (not c.lane_code && is_good_simdlen l.simdlen && is_promoted (reg_type c.regs l.low)) (reg_type c.regs l.high == reg_type c.regs l.low) bounds) in
    let first = integer_at c.regs l.low low in
    let counts : Bool = nat_le (length l.captures) 65535 && nat_le (length l.guards) 65535 in
    let captures = and_right counts (list_all (λ r. nat_lt r (length c.regs)) l.captures) (and_left (counts && list_all (λ r. nat_lt r (length c.regs)) l.captures) (list_all (is_good_guard c) l.guards) rest) in
    let guards = and_right (counts && list_all (λ r. nat_lt r (length c.regs)) l.captures) (list_all (is_good_guard c) l.guards) rest in
    record {
      low = first;
      high = integer_at c.regs l.high (subst (λ n. is_integer n ≡ true) (sym same) low);
      same = ty_of_number (slice_get c.regs l.high) (ty_at c.regs l.low) (same ∙ first.type);
      captures = λ p r e. ltb-true r (length c.regs) (all_at (λ r. nat_lt r (length c.regs)) l.captures captures p r e);
      guards = λ n g e.
          let good = all_at (is_good_guard c) l.guards guards n g e in (
            pointer_there c.regs g.first (and_left (is_pointer (reg_type c.regs g.first)) (is_pointer (reg_type c.regs g.second)) good),
            pointer_there c.regs g.second (and_right (is_pointer (reg_type c.regs g.first)) (is_pointer (reg_type c.regs g.second)) good),
          );
    }

-- ---- guards

pub guard_there : (gs : List Guard) (n : ℕ) (d : Guard) → n < length gs → slice_get gs n ≡ Some (get_or gs n d)
guard_there [] n d h = absurd (omega (arith, h))
guard_there (g ∷ gs) zero d h = refl
guard_there (g ∷ gs) (suc n) d h = guard_there gs n d (omega (arith, h))

-- a pair that is apart
pub guard_next : (lane : LaneState) (gs : List Guard) (n : ℕ) (d : Guard) → n < length gs → not (array_of (lane.reg (get_or gs n d).first) == array_of (lane.reg (get_or gs n d).second)) ≡ true → guard_holds lane (drop (n + 1) gs) ≡ guard_holds lane (drop n gs)
guard_next lane [] n d h e = absurd (omega (arith, h))
guard_next lane (g ∷ gs) zero d h e = sym (ap (λ b. b && guard_holds lane gs) e)
guard_next lane (g ∷ gs) (suc n) d h e = ap (λ k. guard_holds lane (drop k (g ∷ gs))) (next n) ∙ guard_next lane gs n d (omega (arith, h)) e
  where
    next : (n : ℕ) → suc n + 1 ≡ suc (n + 1)
    next n = omega arith
