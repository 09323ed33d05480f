-- The numbers of a simd loop's iterations, and the words of its body.
use Rattle.std.proofs.Common.{◌≡◌, ℕ, zero, suc, ◌+◌, ◌*◌, ◌<◌, ◌≤◌, ◌==◌, nat_lt, Bool, true, false, ◌&&◌, cond, ℤ, pos, ◌+ℤ◌, ◌-ℤ◌, ◌≤ℤ◌, List, [], ◌∷◌, map, take, Some, None, refl, ap, sym, subst, arith}
use Rattle.std.specs.Prelude.{int_le, slice_get, unsigned_abs}
use Rattle.std.proofs.lemmas.Bool.{eqb-true, false≢true, ltb-true}
use Rattle.std.proofs.lemmas.Int.{ints}
use Rattle.std.proofs.lemmas.Option.{same_Some}
use Rattle.vk_kinds.specs.declared.heads.CType.{CType}
use Rattle.vk_kinds.specs.Types.{ctype_number}
use Rattle.vk_code.specs.Listing.{Routine, SimdSite, reg_type}
use Rattle.vk_code.specs.Tests.{pairs}
use Rattle.vk_code.proofs.Faults.{and_left, and_right}
use Rattle.vk_object.specs.Images.{is_equal}
use Rattle.vk_object.specs.Lane.{LaneState, number_at, ty_at}
use Rattle.vk_object.specs.Machine.{Site, body_args, first_lane, iterations}
use Rattle.vk_frames.proofs.Writes.{same_lane, same_lanes}
use Rattle.vk_runs.specs.Words.{HasWords, IsWordOf}
use Rattle.vk_runs.proofs.Words.{no_integer, wrapped_at}
use Rattle.vk_types.specs.declared.types.Ty.{Ty}
use Rattle.vk_types.specs.Conversions.{least_of, greatest_of}
use Rattle.vk_types.specs.Numbers.{IsInRange, number_of, word_of, wrap_number}
use Rattle.vk_code.specs.Valid.{is_canonical}
use Rattle.vk_args.proofs.Loops.{LoopRegisters}
use Rattle.vk_args.specs.Bodies.{body_words, captured}

le_of_test : (a b : ℤ) → int_le a b ≡ true → a ≤ℤ b
le_of_test a b e = grind (arith, ints, e)

-- an iteration's number is from low on, and below high
pub counted : (low high : ℤ) (n : ℕ) → n < iterations low high → (low ≤ℤ (low +ℤ pos n)) × ((low +ℤ pos n) ≤ℤ high)
counted low high n h = by (int_le low high) refl h
  where
    by : (b : Bool) → int_le low high ≡ b → n < cond b (unsigned_abs (high -ℤ low)) 0 → (low ≤ℤ (low +ℤ pos n)) × ((low +ℤ pos n) ≤ℤ high)
    by true e k = let l : low ≤ℤ high = le_of_test low high e in (omega (arith, ints), omega (arith, ints, k, l))
    by false e k = absurd (omega (arith, k))

pub same_first : (lanes params : ℕ) (a b : ℕ → ℕ → ℕ) (on : ℕ → Bool) → ((r j : ℕ) → r < params → j < lanes → a r j ≡ b r j) → first_lane lanes params a on ≡ first_lane lanes params b on
same_first lanes params a b on h = same_lanes (first_lane lanes params a on) (first_lane lanes params b on) (λ j. same_lane (first_lane lanes params a on j) (first_lane lanes params b on j) (λ r. by j r (nat_lt j lanes) (nat_lt r params) (ltb-true j lanes) (ltb-true r params)) (λ m. refl) refl)
  where
    by : (j r : ℕ) (s t : Bool) → (s ≡ true → j < lanes) → (t ≡ true → r < params) → cond (s && t) (a r j) 0 ≡ cond (s && t) (b r j) 0
    by j r true true f g = h r j (g refl) (f refl)
    by j r true false f g = refl
    by j r false t f g = refl

-- what is a word of a register's type is one of the parameter's
pub carried_register : (from types : List CType) (rs : List ℕ) (n : ℕ) → pairs is_equal (map (reg_type from) rs) (map ctype_number (take n types)) ≡ true →
    (p : ℕ) → p < n → (w : ℕ) → ((r : ℕ) → slice_get rs p ≡ Some r → IsWordOf (reg_type from r) w) → IsWordOf (reg_type types p) w
carried_register from [] rs n h p l w f = no_integer 255 w (omega arith)
carried_register from (t ∷ types) rs zero h p l w f = absurd (omega (arith, l))
carried_register from (t ∷ types) [] (suc n) h p l w f = absurd (false≢true h)
carried_register from (t ∷ types) (r ∷ rs) (suc n) h zero l w f = subst (λ x. IsWordOf x w) (eqb-true (reg_type from r) (ctype_number t) (and_left (reg_type from r == ctype_number t) (pairs is_equal (map (reg_type from) rs) (map ctype_number (take n types))) h)) (f r refl)
carried_register from (t ∷ types) (r ∷ rs) (suc n) h (suc p) l w f = carried_register from types rs n (and_right (reg_type from r == ctype_number t) (pairs is_equal (map (reg_type from) rs) (map ctype_number (take n types))) h) p (omega (arith, l)) w f

captured_word : (regs : List CType) (captures : List ℕ) (lane : LaneState) (p r : ℕ) → HasWords regs lane → slice_get captures p ≡ Some r → IsWordOf (reg_type regs r) (captured captures lane p)
captured_word regs captures lane p r h e = subst (IsWordOf (reg_type regs r)) (sym (ap (λ o. elim o as (λ _. ℕ) [ None ↦ 0 | Some k ↦ lane.reg k ]) e)) (h r)

-- the words of a body are of the types of the registers that it gets
pub body_word : (regs types : List CType) (l : SimdSite) (lane : LaneState) (lanes base c n : ℕ) → pairs is_equal (map (reg_type regs) (l.low ∷ l.captures)) (map ctype_number (take n types)) ≡ true → HasWords regs lane →
    (p i : ℕ) → p < n → IsWordOf (reg_type types p) (body_words regs l lane lanes base c p i)
body_word regs types l lane lanes base c n h k zero i b = carried_register regs types (l.low ∷ l.captures) n h zero b _ (λ r e. subst (λ q. IsWordOf (reg_type regs q) (body_words regs l lane lanes base c zero i)) (same_Some l.low r e) (wrapped_at regs l.low _))
body_word regs types l lane lanes base c n h k (suc p) i b = carried_register regs types (l.low ∷ l.captures) n h (suc p) b _ (λ r e. captured_word regs l.captures lane p r k e)

-- the bounds of a word of a type
pub word_bounds : (t : Ty) (w : ℕ) → is_canonical t w ≡ true → (least_of t ≤ℤ number_of t w) × (number_of t w ≤ℤ greatest_of t)
word_bounds t w h = (le_of_test (least_of t) (number_of t w) (and_left (int_le (least_of t) (number_of t w)) (int_le (number_of t w) (greatest_of t)) h), le_of_test (number_of t w) (greatest_of t) (and_right (int_le (least_of t) (number_of t w)) (int_le (number_of t w) (greatest_of t)) h))

-- an iteration's number is of the type of low, so that nothing wraps
pub not_wrapped : (c : Routine) (l : SimdSite) (lane : LaneState) (n : ℕ) → LoopRegisters c l → HasWords c.regs lane → n < iterations (number_at c.regs lane l.low) (number_at c.regs lane l.high) →
    ((t : Ty) (z : ℤ) → least_of t ≤ℤ z → z ≤ℤ greatest_of t → IsInRange t z) → ((t : Ty) (z : ℤ) → IsInRange t z → wrap_number t z ≡ z) →
    wrap_number (ty_at c.regs l.low) (number_at c.regs lane l.low +ℤ pos n) ≡ number_at c.regs lane l.low +ℤ pos n
not_wrapped c l lane n r h b between keeps =
    let t : Ty = ty_at c.regs l.low in
    let low : ℤ = number_at c.regs lane l.low in
    let high : ℤ = number_at c.regs lane l.high in
    let k = counted low high n b in
    let at_low = word_bounds t (lane.reg l.low) (h l.low t r.low.type) in
    let at_high = word_bounds (ty_at c.regs l.high) (lane.reg l.high) (h l.high (ty_at c.regs l.high) r.high.type) in
    let top : high ≤ℤ greatest_of t = subst (λ u. number_of (ty_at c.regs l.high) (lane.reg l.high) ≤ℤ greatest_of u) r.same at_high.1 in
    keeps t (low +ℤ pos n) (between t (low +ℤ pos n) (chain (least_of t) low (low +ℤ pos n) at_low.0 k.0) (chain (low +ℤ pos n) high (greatest_of t) k.1 top))
  where
    chain : (a b c : ℤ) → a ≤ℤ b → b ≤ℤ c → a ≤ℤ c
    chain a b c p q = omega (arith, ints, p, q)

-- the words of a body are those that the machine's meaning gives it
pub words_agree : (s : Site) (l : SimdSite) (lane : LaneState) (lanes base turn : ℕ) → LoopRegisters s.code.routine l → HasWords s.code.routine.regs lane → base + turn * lanes + lanes ≤ iterations (number_at s.code.routine.regs lane l.low) (number_at s.code.routine.regs lane l.high) →
    ((t : Ty) (z : ℤ) → least_of t ≤ℤ z → z ≤ℤ greatest_of t → IsInRange t z) → ((t : Ty) (z : ℤ) → IsInRange t z → wrap_number t z ≡ z) →
    (p i : ℕ) → i < lanes → body_words s.code.routine.regs l lane lanes base turn p i ≡ body_args s l lane lanes base turn p i
words_agree s l lane lanes base turn r h b between keeps zero i k = ap word_of (not_wrapped s.code.routine l lane (base + turn * lanes + i) r h (omega (arith, b, k)) between keeps)
words_agree s l lane lanes base turn r h b between keeps (suc p) i k = refl
