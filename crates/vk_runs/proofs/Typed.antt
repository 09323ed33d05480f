-- Registers keep words of their types: one lane, all lanes, calls, code and entries.
use Rattle.std.proofs.Common.{◌≡◌, ℕ, zero, suc, ◌+◌, ◌-◌, ◌*◌, ◌^◌, ◌<◌, ◌≤◌, ◌==◌, nat_le, nat_lt, Bool, true, false, ◌&&◌, ◌||◌, cond, ℤ, pos, ◌+ℤ◌, ◌-ℤ◌, ◌*ℤ◌, List, [], ◌∷◌, ◌++◌, length, map, take, Option, Some, None, Result, Ok, Err, refl, ap, sym, subst, ◌∙◌, arith}
use Rattle.std.proofs.lemmas.Bool.{eqb-true, false≢true, leb-true, ltb-true}
use Rattle.std.specs.Prelude.{slice_get}
use Rattle.vk_types.specs.declared.types.Ty.{Ty}
use Rattle.vk_types.specs.declared.types.Ty.TheVariants.{I32, I64}
use Rattle.vk_types.specs.declared.types.Stop.{Stop}
use Rattle.vk_types.specs.Formats.{type_number}
use Rattle.vk_types.specs.Numbers.{number_of}
use Rattle.vk_types.specs.Operators.{exact, exact_unary, wrapped}
use Rattle.vk_kinds.specs.declared.heads.CType.{CType}
use Rattle.vk_code.specs.declared.env.ObjectHead.{ObjectHead}
use Rattle.vk_code.specs.declared.instruction.Operation.{Operation}
use Rattle.vk_code.specs.declared.instruction.Operation.TheVariants.{Const, Copy, Convert, Binary, Compare, Unary, Lane, Load, Store, PtrAdd, Addr, MaskOf, MaskAnd, MaskOr, MaskBut, Loop, Call, Print, SimdLoop}
use Rattle.vk_code.specs.Listing.{Routine, reg_type}
use Rattle.vk_code.specs.Tests.{holds}
use Rattle.vk_code.specs.Valid.{Environment, address_type, is_canonical, is_copy, is_integer, is_pointer, is_promoted, is_right, is_typed}
use Rattle.vk_code.proofs.Faults.{and_left, and_right}
use Rattle.vk_object.specs.Memory.{Cell, Extent, cell_of, moved}
use Rattle.vk_object.specs.Lane.{LaneState, View, acts, gives_pointer, gives_result, is_live, loads, number_at, stores, ty_at, works}
use Rattle.vk_runs.specs.Words.{HasWords, IsWordOf}
use Rattle.vk_runs.proofs.Operators.{HasOperator, arithmetic_type, comparison_type}
use Rattle.vk_runs.proofs.Words.{at_number, canonical_lane, canonical_wrap, copied, no_integer, put_word, wrapped_at}

result_words : (regs : List CType) (v : View) (d : ℕ) (t : Ty) (r : Result ℤ Stop) → HasWords regs v.lane → reg_type regs d ≡ type_number t → HasWords regs (gives_result v d (wrapped t r)).lane
result_words regs v d t (Ok z) h e = put_word regs v.lane d _ h (at_number (reg_type regs d) t _ e (canonical_wrap t z))
result_words regs v d t (Err x) h e = h

pointer_words : (regs : List CType) (v : View) (d : ℕ) (o : Option ℕ) → HasWords regs v.lane → 8 ≤ reg_type regs d → HasWords regs (gives_pointer v d o).lane
pointer_words regs v d None h k = h
pointer_words regs v d (Some p) h k = put_word regs v.lane d p h (no_integer (reg_type regs d) p k)

load_words : (regs : List CType) (v : View) (d : ℕ) (o : Option Cell) → HasWords regs v.lane → HasWords regs (loads v d (ty_at regs d) o).lane
load_words regs v d None h = h
load_words regs v d (Some c) h = put_word regs v.lane d _ h (wrapped_at regs d (number_of c.ty (v.mem.cells c.array c.index)))

store_words : (regs : List CType) (v : View) (n : ℤ) (o : Option Cell) → HasWords regs v.lane → HasWords regs (stores v n o).lane
store_words regs v n None h = h
store_words regs v n (Some c) h = h

-- the second of three conditions
second : (a b c : Bool) → (a && b && c) ≡ true → b ≡ true
second a b c h = and_right a b (and_left (a && b) c h)

address_number : (d : ℕ) (o : Option ObjectHead) → holds (λ x. d == address_type x) o ≡ true → 8 ≤ d
address_number d None h = absurd (false≢true h)
address_number d (Some x) h = large x.fixed (eqb-true d (address_type x) h)
  where
    large : (b : Bool) → d ≡ cond b 16 8 + type_number x.ty → 8 ≤ d
    large true e = omega (arith, e)
    large false e = omega (arith, e)

works_words : (e : Environment) (c : Routine) (arrays : List Extent) (j : ℕ) (o : Operation) (v : View) → j < 2 ^ 63 → HasOperator o → is_typed e c o ≡ true → HasWords c.regs v.lane → HasWords c.regs (works arrays c.regs j o v).lane
works_words e c arrays j (Const t d value) v s p h w =
    put_word c.regs v.lane d value.0 w (at_number (reg_type c.regs d) t value.0 (eqb-true (reg_type c.regs d) (type_number t) (and_left (reg_type c.regs d == type_number t) (is_canonical t value.0) h)) (and_right (reg_type c.regs d == type_number t) (is_canonical t value.0) h))
works_words e c arrays j (Copy d a) v s p h w = put_word c.regs v.lane d (v.lane.reg a) w (copied (reg_type c.regs d) (reg_type c.regs a) (v.lane.reg a) h (w a))
works_words e c arrays j (Convert d a) v s p h w = put_word c.regs v.lane d _ w (wrapped_at c.regs d (number_at c.regs v.lane a))
works_words e c arrays j (Binary op t d a b) v s p h w =
    let n : ℕ = type_number t in
    let typed = and_left (is_promoted n && (reg_type c.regs d == n) && (reg_type c.regs a == n)) (is_right op n (reg_type c.regs b)) h in
    let r : Result ℤ Stop = exact op t (number_of t (v.lane.reg a)) (number_at c.regs v.lane b) in
    subst (λ u. HasWords c.regs (gives_result v d (wrapped u r)).lane) (sym (arithmetic_type op p t))
    (result_words c.regs v d t r w (eqb-true (reg_type c.regs d) n (second (is_promoted n) (reg_type c.regs d == n) (reg_type c.regs a == n) typed)))
works_words e c arrays j (Compare op t d a b) v s p h w =
    let n : ℕ = type_number t in
    let typed = and_left (is_promoted n && (reg_type c.regs d == 2)) (reg_type c.regs a == n) (and_left (is_promoted n && (reg_type c.regs d == 2) && (reg_type c.regs a == n)) (reg_type c.regs b == n) h) in
    let r : Result ℤ Stop = exact op t (number_of t (v.lane.reg a)) (number_of t (v.lane.reg b)) in
    subst (λ u. HasWords c.regs (gives_result v d (wrapped u r)).lane) (sym (comparison_type op p t))
    (result_words c.regs v d I32 r w (eqb-true (reg_type c.regs d) 2 (and_right (is_promoted n) (reg_type c.regs d == 2) typed)))
works_words e c arrays j (Unary op t d a) v s p h w =
    let n : ℕ = type_number t in
    put_word c.regs v.lane d _ w (at_number (reg_type c.regs d) t _ (eqb-true (reg_type c.regs d) n (second (is_promoted n) (reg_type c.regs d == n) (reg_type c.regs a == n) h)) (canonical_wrap t (exact_unary op t (number_of t (v.lane.reg a)))))
works_words e c arrays j (Lane d) v s p h w = put_word c.regs v.lane d j w (at_number (reg_type c.regs d) I64 j (eqb-true (reg_type c.regs d) 3 h) (canonical_lane j s))
works_words e c arrays j (Load d a) v s p h w = load_words c.regs v d (cell_of arrays (v.lane.reg a)) w
works_words e c arrays j (Store a b) v s p h w = store_words c.regs v (number_at c.regs v.lane b) (cell_of arrays (v.lane.reg a)) w
works_words e c arrays j (PtrAdd d a b) v s p h w =
    let n : ℕ = reg_type c.regs a in
    let same = eqb-true (reg_type c.regs d) n (second (is_pointer n) (reg_type c.regs d == n) (is_integer (reg_type c.regs b)) h) in
    let large = leb-true 8 n (and_left (nat_le 8 n) (nat_lt n 24) (and_left (is_pointer n) (reg_type c.regs d == n) (and_left (is_pointer n && (reg_type c.regs d == n)) (is_integer (reg_type c.regs b)) h))) in
    pointer_words c.regs v d (moved (v.lane.reg a) (number_at c.regs v.lane b)) w (omega (arith, same, large))
works_words e c arrays j (Addr d object) v s p h w = put_word c.regs v.lane d (object * 2 ^ 32) w (no_integer (reg_type c.regs d) (object * 2 ^ 32) (address_number (reg_type c.regs d) (slice_get e.objects object) h))
works_words e c arrays j (MaskOf d a) v s p h w = w
works_words e c arrays j (MaskAnd d a b) v s p h w = w
works_words e c arrays j (MaskOr d a b) v s p h w = w
works_words e c arrays j (MaskBut d a b) v s p h w = w
works_words e c arrays j (Loop count) v s p h w = w
works_words e c arrays j (Call slot) v s p h w = w
works_words e c arrays j (Print a) v s p h w = w
works_words e c arrays j (SimdLoop number) v s p h w = w

pub view_words : (regs : List CType) (a b : View) (t : Bool) → HasWords regs a.lane → HasWords regs b.lane → HasWords regs (cond t a b).lane
view_words regs a b true h k = h
view_words regs a b false h k = k

-- an operation under a mask, in one lane
pub acts_words : (e : Environment) (c : Routine) (arrays : List Extent) (m j : ℕ) (o : Operation) (v : View) → j < 2 ^ 63 → HasOperator o → is_typed e c o ≡ true → HasWords c.regs v.lane → HasWords c.regs (acts arrays c.regs m j o v).lane
acts_words e c arrays m j (MaskOf d a) v s p h w = w
acts_words e c arrays m j (MaskAnd d a b) v s p h w = w
acts_words e c arrays m j (MaskOr d a b) v s p h w = w
acts_words e c arrays m j (MaskBut d a b) v s p h w = w
acts_words e c arrays m j o v s p h w = view_words c.regs (works arrays c.regs j o v) v (is_live m v.lane) (works_words e c arrays j o v s p h w) w
