-- What the types of an operation say of its registers and masks.
use Rattle.std.proofs.Common.{◌≡◌, ℕ, zero, suc, ◌+◌, ◌<◌, ◌≤◌, ◌==◌, ◌&&◌, ◌||◌, nat_le, nat_lt, Bool, true, false, cond, List, [], ◌∷◌, length, Option, Some, None, ◌⊎◌, inl, inr, refl, ap, sym, subst, ◌∙◌, arith}
use Rattle.std.specs.Prelude.{slice_get}
use Rattle.std.proofs.lemmas.Bool.{eqb-true, false≢true, lt-ltb, ltb-true}
use Rattle.vk_types.specs.declared.types.Ty.{Ty}
use Rattle.vk_types.specs.declared.types.Op2.{Op2}
use Rattle.vk_types.specs.declared.types.Op2.TheVariants.{Add, Sub, Mul, Div, Rem, And, Or, Xor, Shl, Shr, Eq, Ne, Lt, Le}
use Rattle.vk_types.specs.Formats.{type_number}
use Rattle.vk_kinds.specs.declared.heads.CType.{CType}
use Rattle.vk_kinds.specs.declared.heads.CType.TheVariants.{Void, Int, Ptr}
use Rattle.vk_code.specs.declared.env.ObjectHead.{ObjectHead}
use Rattle.vk_code.specs.declared.instruction.Operation.TheVariants.{Const, Copy, Convert, Binary, Compare, Unary, Lane, Load, Store, PtrAdd, Addr, MaskOf, Print}
use Rattle.vk_code.specs.Listing.{Routine, number_of_some, reg_type}
use Rattle.vk_code.specs.Tests.{holds}
use Rattle.vk_code.specs.Valid.{Environment, address_type, are_masks, is_canonical, is_integer, is_pointer, is_promoted, is_right, is_shift, is_typed, is_written, is_written_mask}
use Rattle.vk_code.proofs.Faults.{and_left, and_right}
use Rattle.vk_object.specs.Lane.{element_of, ty_at}
use Rattle.vk_lanes.specs.Kernels.{AreOperands}
use Rattle.vk_runs.proofs.Words.{number_small, ty_of_number}

-- ---- registers that have a type

pub there : (regs : List CType) (r : ℕ) → reg_type regs r < 255 → r < length regs
there [] r h = absurd (omega (arith, h))
there (x ∷ regs) zero h = omega arith
there (x ∷ regs) (suc r) h = let l : r < length regs = there regs r h in omega (arith, l)

pub integer_type : (o : Option CType) → is_integer (number_of_some o) ≡ true → number_of_some o ≡ type_number (element_of o)
integer_type None h = absurd (false≢true h)
integer_type (Some Void) h = absurd (false≢true h)
integer_type (Some (Int t)) h = refl
integer_type (Some (Ptr t true)) h = absurd (omega (arith, ltb-true (8 + type_number t) 8 h))
integer_type (Some (Ptr t false)) h = absurd (omega (arith, ltb-true (16 + type_number t) 8 h))

-- a register of an integer type
pub record IsInteger (regs : List CType) (r : ℕ) : Type 0 where
  pub inside : r < length regs
  pub type : reg_type regs r ≡ type_number (ty_at regs r)

pub integer_at : (regs : List CType) (r : ℕ) → is_integer (reg_type regs r) ≡ true → IsInteger regs r
integer_at regs r h = record { inside = there regs r (let l = ltb-true (reg_type regs r) 8 h in omega (arith, l)); type = integer_type (slice_get regs r) h }

small : (regs : List CType) (r : ℕ) (t : Ty) → reg_type regs r ≡ type_number t → r < length regs
small regs r t e = there regs r (let l = number_small t in omega (arith, e, l))

small_is_integer : (n : ℕ) (t : Ty) → n ≡ type_number t → is_integer n ≡ true
small_is_integer n t e = lt-ltb n 8 (let l = number_small t in omega (arith, e, l))

below_24 : (regs : List CType) (r n : ℕ) → reg_type regs r ≡ n → n < 24 → r < length regs
below_24 regs r n e h = there regs r (omega (arith, e, h))

-- ---- operations

pub record BinaryTyped (c : Routine) (t : Ty) (d a b : ℕ) : Type 0 where
  pub d_in : d < length c.regs
  pub a_in : a < length c.regs
  pub left : reg_type c.regs a ≡ type_number t
  pub right : IsInteger c.regs b

right_type : (op : Op2) (t : Ty) (n : ℕ) → is_right op (type_number t) n ≡ true → is_integer n ≡ true
right_type op t n h = by (is_shift op) h
  where
    by : (s : Bool) → cond s (is_integer n) (n == type_number t) ≡ true → is_integer n ≡ true
    by true h = h
    by false h = small_is_integer n t (eqb-true n (type_number t) h)

same_at : (regs : List CType) (b : ℕ) (t : Ty) → (reg_type regs b == type_number t) ≡ true → ty_at regs b ≡ t
same_at regs b t h = ty_of_number (slice_get regs b) t (eqb-true (reg_type regs b) (type_number t) h)

pub binary_typed : (e : Environment) (c : Routine) (op : Op2) (t : Ty) (d a b : ℕ) → is_typed e c (Binary op t d a b) ≡ true → BinaryTyped c t d a b
binary_typed e c op t d a b h =
    let n : ℕ = type_number t in
    let operands = and_left (is_promoted n && (reg_type c.regs d == n) && (reg_type c.regs a == n)) (is_right op n (reg_type c.regs b)) h in
    let at_d : reg_type c.regs d ≡ n = eqb-true (reg_type c.regs d) n (and_right (is_promoted n) (reg_type c.regs d == n) (and_left (is_promoted n && (reg_type c.regs d == n)) (reg_type c.regs a == n) operands)) in
    let at_a : reg_type c.regs a ≡ n = eqb-true (reg_type c.regs a) n (and_right (is_promoted n && (reg_type c.regs d == n)) (reg_type c.regs a == n) operands) in
    record {
      d_in = small c.regs d t at_d;
      a_in = small c.regs a t at_a;
      left = at_a;
      right = integer_at c.regs b (right_type op t (reg_type c.regs b) (and_right (is_promoted n && (reg_type c.regs d == n) && (reg_type c.regs a == n)) (is_right op n (reg_type c.regs b)) h));
    }

right_operand : (op : Op2) (t : Ty) (regs : List CType) (b : ℕ) → is_right op (type_number t) (reg_type regs b) ≡ true → AreOperands op t (ty_at regs b)
right_operand Add t regs b h = same_at regs b t h
right_operand Sub t regs b h = same_at regs b t h
right_operand Mul t regs b h = same_at regs b t h
right_operand Div t regs b h = same_at regs b t h
right_operand Rem t regs b h = same_at regs b t h
right_operand And t regs b h = same_at regs b t h
right_operand Or t regs b h = same_at regs b t h
right_operand Xor t regs b h = same_at regs b t h
right_operand Shl t regs b h = tt
right_operand Shr t regs b h = tt
right_operand Eq t regs b h = same_at regs b t h
right_operand Ne t regs b h = same_at regs b t h
right_operand Lt t regs b h = same_at regs b t h
right_operand Le t regs b h = same_at regs b t h

pub binary_operands : (e : Environment) (c : Routine) (op : Op2) (t : Ty) (d a b : ℕ) → is_typed e c (Binary op t d a b) ≡ true → AreOperands op t (ty_at c.regs b)
binary_operands e c op t d a b h =
    let n : ℕ = type_number t in
    right_operand op t c.regs b (and_right (is_promoted n && (reg_type c.regs d == n) && (reg_type c.regs a == n)) (is_right op n (reg_type c.regs b)) h)

pub same_operands : (op : Op2) (t : Ty) → AreOperands op t t
same_operands Add t = refl
same_operands Sub t = refl
same_operands Mul t = refl
same_operands Div t = refl
same_operands Rem t = refl
same_operands And t = refl
same_operands Or t = refl
same_operands Xor t = refl
same_operands Shl t = tt
same_operands Shr t = tt
same_operands Eq t = refl
same_operands Ne t = refl
same_operands Lt t = refl
same_operands Le t = refl

pub record CompareTyped (c : Routine) (t : Ty) (d a b : ℕ) : Type 0 where
  pub d_in : d < length c.regs
  pub a_in : a < length c.regs
  pub b_in : b < length c.regs
  pub left : reg_type c.regs a ≡ type_number t
  pub right : reg_type c.regs b ≡ type_number t

pub compare_typed : (e : Environment) (c : Routine) (op : Op2) (t : Ty) (d a b : ℕ) → is_typed e c (Compare op t d a b) ≡ true → CompareTyped c t d a b
compare_typed e c op t d a b h =
    let n : ℕ = type_number t in
    let three = and_left (is_promoted n && (reg_type c.regs d == 2) && (reg_type c.regs a == n)) (reg_type c.regs b == n) h in
    let at_d : reg_type c.regs d ≡ 2 = eqb-true (reg_type c.regs d) 2 (and_right (is_promoted n) (reg_type c.regs d == 2) (and_left (is_promoted n && (reg_type c.regs d == 2)) (reg_type c.regs a == n) three)) in
    let at_a : reg_type c.regs a ≡ n = eqb-true (reg_type c.regs a) n (and_right (is_promoted n && (reg_type c.regs d == 2)) (reg_type c.regs a == n) three) in
    let at_b : reg_type c.regs b ≡ n = eqb-true (reg_type c.regs b) n (and_right (is_promoted n && (reg_type c.regs d == 2) && (reg_type c.regs a == n)) (reg_type c.regs b == n) h) in
    record { d_in = below_24 c.regs d 2 at_d (omega arith); a_in = small c.regs a t at_a; b_in = small c.regs b t at_b; left = at_a; right = at_b }

pub record UnaryTyped (c : Routine) (t : Ty) (d a : ℕ) : Type 0 where
  pub d_in : d < length c.regs
  pub a_in : a < length c.regs
  pub typed : reg_type c.regs a ≡ type_number t

pub unary_typed : (e : Environment) (c : Routine) (op : Rattle.vk_types.specs.declared.types.Op1.Op1) (t : Ty) (d a : ℕ) → is_typed e c (Unary op t d a) ≡ true → UnaryTyped c t d a
unary_typed e c op t d a h =
    let n : ℕ = type_number t in
    let at_d : reg_type c.regs d ≡ n = eqb-true (reg_type c.regs d) n (and_right (is_promoted n) (reg_type c.regs d == n) (and_left (is_promoted n && (reg_type c.regs d == n)) (reg_type c.regs a == n) h)) in
    let at_a : reg_type c.regs a ≡ n = eqb-true (reg_type c.regs a) n (and_right (is_promoted n && (reg_type c.regs d == n)) (reg_type c.regs a == n) h) in
    record { d_in = small c.regs d t at_d; a_in = small c.regs a t at_a; typed = at_a }

pub const_typed : (e : Environment) (c : Routine) (t : Ty) (d : ℕ) (w : Rattle.vk_types.specs.declared.types.Word.Word) → is_typed e c (Const t d w) ≡ true → d < length c.regs
const_typed e c t d w h = small c.regs d t (eqb-true (reg_type c.regs d) (type_number t) (and_left (reg_type c.regs d == type_number t) (is_canonical t w.0) h))

pub record CopyTyped (c : Routine) (d a : ℕ) : Type 0 where
  pub d_in : d < length c.regs
  pub a_in : a < length c.regs

copied_type : (d a : ℕ) → nat_lt a 24 ≡ true → ((d == a) || (is_written a && (d == a + 8))) ≡ true → d < 255
copied_type d a l h = by (d == a) (is_written a && (d == a + 8)) (eqb-true d a) (λ t. eqb-true d (a + 8) (and_right (is_written a) (d == a + 8) t)) h
  where
    by : (s w : Bool) → (s ≡ true → d ≡ a) → (w ≡ true → d ≡ a + 8) → (s || w) ≡ true → d < 255
    by true w f g h = let x = f refl in let y = ltb-true a 24 l in omega (arith, x, y)
    by false w f g h = let x = g h in let y = ltb-true a 24 l in omega (arith, x, y)

pub copy_typed : (e : Environment) (c : Routine) (d a : ℕ) → is_typed e c (Copy d a) ≡ true → CopyTyped c d a
copy_typed e c d a h =
    let x : ℕ = reg_type c.regs d in
    let y : ℕ = reg_type c.regs a in
    let low = and_left (nat_lt y 24) ((x == y) || (is_written y && (x == y + 8))) h in
    record {
      d_in = there c.regs d (copied_type x y low (and_right (nat_lt y 24) ((x == y) || (is_written y && (x == y + 8))) h));
      a_in = there c.regs a (let l = ltb-true y 24 low in omega (arith, l));
    }

pub record ConvertTyped (c : Routine) (d a : ℕ) : Type 0 where
  pub to : IsInteger c.regs d
  pub from : IsInteger c.regs a

pub convert_typed : (e : Environment) (c : Routine) (d a : ℕ) → is_typed e c (Convert d a) ≡ true → ConvertTyped c d a
convert_typed e c d a h = record {
  to = integer_at c.regs d (and_left (is_integer (reg_type c.regs d)) (is_integer (reg_type c.regs a)) h);
  from = integer_at c.regs a (and_right (is_integer (reg_type c.regs d)) (is_integer (reg_type c.regs a)) h);
}

pub lane_typed : (e : Environment) (c : Routine) (d : ℕ) → is_typed e c (Lane d) ≡ true → d < length c.regs
lane_typed e c d h = below_24 c.regs d 3 (eqb-true (reg_type c.regs d) 3 h) (omega arith)

pub record MovedTyped (c : Routine) (d a b : ℕ) : Type 0 where
  pub d_in : d < length c.regs
  pub a_in : a < length c.regs
  pub right : IsInteger c.regs b

pub moved_typed : (e : Environment) (c : Routine) (d a b : ℕ) → is_typed e c (PtrAdd d a b) ≡ true → MovedTyped c d a b
moved_typed e c d a b h =
    let x : ℕ = reg_type c.regs d in
    let y : ℕ = reg_type c.regs a in
    let two = and_left (is_pointer y && (x == y)) (is_integer (reg_type c.regs b)) h in
    let same : x ≡ y = eqb-true x y (and_right (is_pointer y) (x == y) two) in
    let low : y < 24 = ltb-true y 24 (and_right (nat_le 8 y) (nat_lt y 24) (and_left (is_pointer y) (x == y) two)) in
    record { d_in = below_24 c.regs d y same low; a_in = below_24 c.regs a y refl low; right = integer_at c.regs b (and_right (is_pointer y && (x == y)) (is_integer (reg_type c.regs b)) h) }

address_small : (x : ℕ) (o : Option ObjectHead) → holds (λ y. x == address_type y) o ≡ true → x < 255
address_small x None h = absurd (false≢true h)
address_small x (Some y) h = by y.fixed (eqb-true x (address_type y) h)
  where
    by : (f : Bool) → x ≡ cond f 16 8 + type_number y.ty → x < 255
    by true e = let l = number_small y.ty in omega (arith, e, l)
    by false e = let l = number_small y.ty in omega (arith, e, l)

pub address_typed : (e : Environment) (c : Routine) (d object : ℕ) → is_typed e c (Addr d object) ≡ true → d < length c.regs
address_typed e c d object h = there c.regs d (address_small (reg_type c.regs d) (slice_get e.objects object) h)

pub record MaskTyped (c : Routine) (d a : ℕ) : Type 0 where
  pub d_in : d < c.masks
  pub a_in : a < length c.regs

pub mask_of_typed : (e : Environment) (c : Routine) (d a : ℕ) → is_typed e c (MaskOf d a) ≡ true → MaskTyped c d a
mask_of_typed e c d a h = record {
  d_in = ltb-true d c.masks (and_right (nat_lt 0 d) (nat_lt d c.masks) (and_left (is_written_mask c.masks d) (is_integer (reg_type c.regs a)) h));
  a_in = (integer_at c.regs a (and_right (is_written_mask c.masks d) (is_integer (reg_type c.regs a)) h)).inside;
}

pub record MasksTyped (c : Routine) (d a b : ℕ) : Type 0 where
  pub d_in : d < c.masks
  pub a_in : a < c.masks
  pub b_in : b < c.masks

pub masks_typed : (c : Routine) (d a b : ℕ) → are_masks c.masks d a b ≡ true → MasksTyped c d a b
masks_typed c d a b h =
    let two = and_left (is_written_mask c.masks d && nat_lt a c.masks) (nat_lt b c.masks) h in
    record {
      d_in = ltb-true d c.masks (and_right (nat_lt 0 d) (nat_lt d c.masks) (and_left (is_written_mask c.masks d) (nat_lt a c.masks) two));
      a_in = ltb-true a c.masks (and_right (is_written_mask c.masks d) (nat_lt a c.masks) two);
      b_in = ltb-true b c.masks (and_right (is_written_mask c.masks d && nat_lt a c.masks) (nat_lt b c.masks) h);
    }

pub record LoadTyped (c : Routine) (d a : ℕ) : Type 0 where
  pub to : IsInteger c.regs d
  pub a_in : a < length c.regs

loaded_type : (d a : ℕ) → d < 8 → ((a == d + 8) || (a == d + 16)) ≡ true → a < 255
loaded_type d a l h = by (a == d + 8) (a == d + 16) (eqb-true a (d + 8)) (eqb-true a (d + 16)) h
  where
    by : (s w : Bool) → (s ≡ true → a ≡ d + 8) → (w ≡ true → a ≡ d + 16) → (s || w) ≡ true → a < 255
    by true w f g h = let x = f refl in omega (arith, x, l)
    by false w f g h = let x = g h in omega (arith, x, l)

pub load_typed : (e : Environment) (c : Routine) (d a : ℕ) → is_typed e c (Load d a) ≡ true → LoadTyped c d a
load_typed e c d a h =
    let x : ℕ = reg_type c.regs d in
    let y : ℕ = reg_type c.regs a in
    let low = and_left (is_integer x) ((y == x + 8) || (y == x + 16)) h in
    record { to = integer_at c.regs d low; a_in = there c.regs a (loaded_type x y (ltb-true x 8 low) (and_right (is_integer x) ((y == x + 8) || (y == x + 16)) h)) }

pub record StoreTyped (c : Routine) (a b : ℕ) : Type 0 where
  pub a_in : a < length c.regs
  pub from : IsInteger c.regs b

pub store_typed : (e : Environment) (c : Routine) (a b : ℕ) → is_typed e c (Store a b) ≡ true → StoreTyped c a b
store_typed e c a b h =
    let x : ℕ = reg_type c.regs b in
    let y : ℕ = reg_type c.regs a in
    let low = and_left (is_integer x) (y == x + 8) h in
    let same : y ≡ x + 8 = eqb-true y (x + 8) (and_right (is_integer x) (y == x + 8) h) in
    record { a_in = there c.regs a (let l = ltb-true x 8 low in omega (arith, same, l)); from = integer_at c.regs b low }

pub print_typed : (e : Environment) (c : Routine) (a : ℕ) → is_typed e c (Print a) ≡ true → (a < length c.regs) × (reg_type c.regs a ≡ 3)
print_typed e c a h =
    let same : reg_type c.regs a ≡ 3 = eqb-true (reg_type c.regs a) 3 (and_right (Rattle.std.proofs.Common.not c.lane_code) (reg_type c.regs a == 3) h) in
    (below_24 c.regs a 3 same (omega arith), same)
