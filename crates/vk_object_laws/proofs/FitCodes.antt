-- The rows of codes fit, and stand for what they were made of.
use Rattle.std.proofs.Common.{◌≡◌, ℕ, zero, suc, ◌+◌, ◌/◌, ◌%◌, ◌^◌, ◌<◌, ◌≤◌, ◌==◌, Bool, true, false, not, ◌&&◌, List, [], ◌∷◌, ◌++◌, length, map, take, refl, sym, ap, ap₂, ◌∙◌, arith}
use Rattle.std.specs.Prelude.{min, nat_lt, nat_le, slice_get}
use Rattle.std.specs.List.{list_all}
use Rattle.std.specs.Int.{byte_at}
use Rattle.std.proofs.lemmas.Bool.{false≢true, eqb-true, lt-ltb}
use Rattle.std.proofs.lemmas.List.{length-map, length-take}
use Rattle.vk_kinds.specs.declared.heads.CType.{CType}
use Rattle.vk_kinds.specs.Types.{ctype_number}
use Rattle.vk_code.proofs.Faults.{and_left, and_right}
use Rattle.vk_code.specs.declared.code.Guard.{Guard}
use Rattle.vk_code.specs.declared.code.Shape.{Shape}
use Rattle.vk_code.specs.declared.code.Shape.TheVariants as shape
use Rattle.vk_code.specs.declared.code.SlotArg.{SlotArg}
use Rattle.vk_code.specs.declared.instruction.Instr.{Instr}
use Rattle.vk_code.specs.Listing.{CallSite, Listing, LoopBody, own, numbered, Routine, SimdSite, reg_type}
use Rattle.vk_code.specs.Tests.{all_good, holds}
use Rattle.vk_code.specs.Valid.{Environment, body_regs, body_verdicts, has_callee, has_good_args, has_good_bounds, has_good_captures, has_good_counts, has_good_registers, has_params, is_body, is_good_arg, is_good_body, is_good_guard, is_good_head, is_good_loop, is_good_routine, is_good_shape, is_good_simdlen, is_good_slot, is_pointer, is_promoted, is_result, is_type_of, verdicts}
use Rattle.vk_object.specs.Objects.{ObjectLists, callee_of, names_of}
use Rattle.vk_format.specs.Codec.{number}
use Rattle.vk_format.proofs.Bytes.{number_again}
use Rattle.vk_code_format.specs.declared.rows.BodyRow.TheVariants.{Inline}
use Rattle.vk_code_format.specs.Codes.{argument, body, code, front, guard, in_object, instr_bytes, instr_of, instruction, instructions, loop_site, object_slot}
use Rattle.vk_code_format.specs.Fields.{value_type}
use Rattle.vk_code_format.specs.Values.{arg_of, arg_row, body_of, body_row, call_of, code_row, listing_of, loop_row, routine_of, routine_row, site_of, slot_row}
use Rattle.vk_object_format.specs.declared.rows.RawObject.{RawObject}
use Rattle.vk_object_laws.specs.Ranges.{arg_in_range, body_in_range, call_in_range, code_in_range, instr_in_range, loop_in_range, routine_in_range, shape_in_range}
use Rattle.vk_object_laws.proofs.Lists.{and_true}
use Rattle.vk_object_laws.proofs.Fitting.{below_fits, fit_each, fit_here, flag_fits, le_of, list_fits, lt_of, register_fits, repeated_fits, simdlen_fits, value_type_fits}
use Rattle.vk_object_laws.proofs.FitParameters.{bits_fit, pairs_long, signed_again}

-- ---- lists

pub all_both : {A : Type 0} (p q : A → Bool) (xs : List A) → list_all p xs ≡ true → list_all q xs ≡ true → list_all (λ x. p x && q x) xs ≡ true
all_both p q [] h k = refl
all_both p q (x ∷ xs) h k =
    and_true _ _ (and_true (p x) (q x) (and_left (p x) (list_all p xs) h) (and_left (q x) (list_all q xs) k)) (all_both p q xs (and_right (p x) (list_all p xs) h) (and_right (q x) (list_all q xs) k))

all_map : {A : Type 0} (p : A → Bool) (xs : List A) → all_good (map p xs) ≡ true → list_all p xs ≡ true
all_map p [] h = refl
all_map p (x ∷ xs) h = and_true _ _ (and_left (p x) (all_good (map p xs)) h) (all_map p xs (and_right (p x) (all_good (map p xs)) h))

all_front : (xs ys : List Bool) → all_good (xs ++ ys) ≡ true → all_good xs ≡ true
all_front [] ys h = refl
all_front (x ∷ xs) ys h = and_true _ _ (and_left x (all_good (xs ++ ys)) h) (all_front xs ys (and_right x (all_good (xs ++ ys)) h))

all_back : (xs ys : List Bool) → all_good (xs ++ ys) ≡ true → all_good ys ≡ true
all_back [] ys h = h
all_back (x ∷ xs) ys h = all_back xs ys (and_right x (all_good (xs ++ ys)) h)

-- members that are had again
pub again_each : {A B : Type 0} (f : B → A) (g : A → B) (p : A → Bool) → ((x : A) → p x ≡ true → f (g x) ≡ x) → (xs : List A) → list_all p xs ≡ true → map f (map g xs) ≡ xs
again_each f g p each [] h = refl
again_each f g p each (x ∷ xs) h = ap₂ (λ y ys. y ∷ ys) (each x (and_left (p x) (list_all p xs) h)) (again_each f g p each xs (and_right (p x) (list_all p xs) h))

-- a member that passes is there
holds_within : {A : Type 0} (p : A → Bool) (xs : List A) (n : ℕ) → holds p (slice_get xs n) ≡ true → n < length xs
holds_within p [] zero h = absurd (false≢true h)
holds_within p [] (suc n) h = absurd (false≢true h)
holds_within p (x ∷ xs) zero h = omega arith
holds_within p (x ∷ xs) (suc n) h = let lt = holds_within p xs n h in omega (arith, lt)

reg_within : (p : ℕ → Bool) → p 255 ≡ false → (regs : List CType) (r : ℕ) → p (reg_type regs r) ≡ true → r < length regs
reg_within p none [] zero h = absurd (false≢true (sym none ∙ h))
reg_within p none [] (suc r) h = absurd (false≢true (sym none ∙ h))
reg_within p none (t ∷ regs) zero h = omega arith
reg_within p none (t ∷ regs) (suc r) h = let lt = reg_within p none regs r h in omega (arith, lt)

-- ---- instructions

byte_small : (j x : ℕ) → byte_at j x < 256
byte_small zero x = omega arith
byte_small (suc j) x = let m = x / 256 ^ suc j in rest m
  where
    rest : (m : ℕ) → m % 256 < 256
    rest m = omega arith

instr_again : (i : Instr) → i.op < 256 → i.ty < 256 → i.m < 65536 → i.d < 65536 → i.a < 65536 → i.imm < 2 ^ 64 → instr_of (instr_bytes i) ≡ i
instr_again i op ty m d a imm = λ k. record {
  op = number_again 1 i.op op k;
  ty = number_again 1 i.ty ty k;
  m = number_again 2 i.m m k;
  d = number_again 2 i.d d k;
  a = number_again 2 i.a a k;
  imm = number_again 8 i.imm imm k;
}

instr_fit : (i : Instr) → instr_in_range i ≡ true → (instruction {R = RawObject}).fits i
instr_fit i h =
    let h5 = and_left _ (nat_lt i.imm (2 ^ 64)) h in
    let h4 = and_left _ (nat_lt i.a 65536) h5 in
    let h3 = and_left _ (nat_lt i.d 65536) h4 in
    let h2 = and_left _ (nat_lt i.m 65536) h3 in (
      (
        refl,
        (
          byte_small 0 i.op,
          (
            byte_small 0 i.ty,
            (
              byte_small 0 i.m,
              (
                byte_small 1 i.m,
                (
                  byte_small 0 i.d,
                  (
                    byte_small 1 i.d,
                    (
                      byte_small 0 i.a,
                      (
                        byte_small 1 i.a,
                        (byte_small 0 i.imm, (byte_small 1 i.imm, (byte_small 2 i.imm, (byte_small 3 i.imm, (byte_small 4 i.imm, (byte_small 5 i.imm, (byte_small 6 i.imm, (byte_small 7 i.imm, tt)))))))),
                      ),
                    ),
                  ),
                ),
              ),
            ),
          ),
        ),
      ),
      instr_again i (lt_of i.op 256 (and_left (nat_lt i.op 256) (nat_lt i.ty 256) h2)) (lt_of i.ty 256 (and_right (nat_lt i.op 256) (nat_lt i.ty 256) h2))
          (lt_of i.m 65536 (and_right _ (nat_lt i.m 65536) h3)) (lt_of i.d 65536 (and_right _ (nat_lt i.d 65536) h4)) (lt_of i.a 65536 (and_right _ (nat_lt i.a 65536) h5)) (lt_of i.imm (2 ^ 64) (and_right _ (nat_lt i.imm (2 ^ 64)) h)),
    )

instrs_fit : (is : List Instr) → length is ≤ 4294967295 → list_all instr_in_range is ≡ true → (instructions {R = RawObject}).fits is
instrs_fit is few h = list_fits (number 4) instruction is (omega (arith, few)) (fit_here (λ (b : List Instr). instruction {R = RawObject}) instr_in_range (λ b i. instr_fit i) [] is h)

-- ---- arguments

shape_fit : (reg : ℕ) (s : Shape) → reg < 65536 → shape_in_range s ≡ true → (argument {R = RawObject}).fits (arg_row (record { reg = reg; shape = s }))
shape_fit reg shape.Vector h r = (h, ((omega arith, refl), ((omega arith, refl), refl)))
shape_fit reg shape.Uniform h r = (h, ((omega arith, refl), ((omega arith, refl), refl)))
shape_fit reg (shape.By z) h r = (h, ((omega arith, refl), ((bits_fit z r, refl), refl)))
shape_fit reg (shape.Along p) h r = let lt : p < 256 = lt_of p 256 r in (h, ((omega arith, refl), ((omega (arith, lt), refl), refl)))
shape_fit reg (shape.Literal z) h r = (h, ((omega arith, refl), ((bits_fit z r, refl), refl)))
shape_fit reg (shape.Same p) h r = let lt : p < 256 = lt_of p 256 r in (h, ((omega arith, refl), ((omega (arith, lt), refl), refl)))

shape_same : (reg : ℕ) (s : Shape) → shape_in_range s ≡ true → arg_of (arg_row (record { reg = reg; shape = s })) ≡ record { reg = reg; shape = s }
shape_same reg shape.Vector r = refl
shape_same reg shape.Uniform r = refl
shape_same reg (shape.By z) r = ap (λ n. record { reg = reg; shape = shape.By n }) (signed_again z r)
shape_same reg (shape.Along p) r = refl
shape_same reg (shape.Literal z) r = ap (λ n. record { reg = reg; shape = shape.Literal n }) (signed_again z r)
shape_same reg (shape.Same p) r = refl

arg_same : (a : SlotArg) → arg_in_range a ≡ true → arg_of (arg_row a) ≡ a
arg_same a r = shape_same a.reg a.shape r

call_same : (s : CallSite) → call_in_range s ≡ true → call_of (slot_row s) ≡ s
call_same s r = ap (λ args. record { function = s.function; always = s.always; result = s.result; args = args }) (again_each arg_of arg_row arg_in_range arg_same s.args r)

module _ (o : ObjectLists) (few : length o.functions < 2 ^ 32) where
  abbrev env : Environment
  env = names_of o

  arg_fit : (c : Routine) (a : SlotArg) → length c.regs ≤ 8192 → (arg_in_range a && is_good_arg c a) ≡ true → (argument {R = RawObject}).fits (arg_row a)
  arg_fit c a regs h =
      let good = and_right (arg_in_range a) (is_good_arg c a) h in
      let lt : a.reg < length c.regs = lt_of a.reg (length c.regs) (and_left (nat_lt a.reg (length c.regs)) (is_good_shape c.params a.shape) good) in
      shape_fit a.reg a.shape (omega (arith, lt, regs)) (and_left (arg_in_range a) (is_good_arg c a) h)

  slot_fit : (c : Routine) (s : CallSite) → length c.regs ≤ 8192 → (call_in_range s && is_good_slot env c s) ≡ true → (object_slot {R = RawObject} (length o.functions)).fits (slot_row s)
  slot_fit c s regs h =
      let range = and_left (call_in_range s) (is_good_slot env c s) h in
      let good = and_right (call_in_range s) (is_good_slot env c s) h in
      let front = and_left (has_good_args c s && is_result (length c.regs) s.result) (has_callee env c s) good in
      let args = and_left (has_good_args c s) (is_result (length c.regs) s.result) front in
      let result = and_right (has_good_args c s) (is_result (length c.regs) s.result) front in
      let callee : s.function < length (map callee_of o.functions) = holds_within _ (map callee_of o.functions) s.function (and_right (has_good_args c s && is_result (length c.regs) s.result) (has_callee env c s) good) in
      let within : s.function < length o.functions = omega (arith, callee, length-map o.functions callee_of) in
      let count : length s.args ≤ 255 = le_of (length s.args) 255 (and_left (nat_le (length s.args) 255) (list_all (is_good_arg c) s.args) args) in
      let each = all_both arg_in_range (is_good_arg c) s.args range (and_right (nat_le (length s.args) 255) (list_all (is_good_arg c) s.args) args) in (
        below_fits (length o.functions) s.function (omega (arith, within, few)) (lt-ltb _ _ within),
        (
          omega (arith, count, length-map s.args arg_row),
          (
            flag_fits s.always,
            (
              register_fits s.result (length c.regs) result regs,
              (
                repeated_fits (length (map arg_row s.args)) argument (map arg_row s.args) refl (fit_each (λ b. argument {R = RawObject}) arg_row (λ a. arg_in_range a && is_good_arg c a) (λ b a. arg_fit c a regs) [] s.args each),
                refl,
              ),
            ),
          ),
        ),
      )

  -- ---- the front of code

  module _ (c : Routine) (head : is_good_head c ≡ true) where
    registers : has_good_registers c ≡ true
    registers = and_left (has_good_registers c) (has_good_counts c) (and_left (has_good_registers c && has_good_counts c) (list_all (λ t. nat_lt (ctype_number t) 24) c.regs) head)

    counts : has_good_counts c ≡ true
    counts = and_right (has_good_registers c) (has_good_counts c) (and_left (has_good_registers c && has_good_counts c) (list_all (λ t. nat_lt (ctype_number t) 24) c.regs) head)

    typed : list_all (λ t. nat_lt (ctype_number t) 24) c.regs ≡ true
    typed = and_right (has_good_registers c && has_good_counts c) (list_all (λ t. nat_lt (ctype_number t) 24) c.regs) head

    sizes : length c.regs + c.masks ≤ 8192
    sizes = le_of (length c.regs + c.masks) 8192 (and_right (nat_le 1 c.masks) (nat_le (length c.regs + c.masks) 8192) (and_left _ (nat_le c.params (length c.regs)) (and_left _ (is_result (length c.regs) c.result) registers)))

    pub parameters : c.params ≤ length c.regs
    parameters = le_of c.params (length c.regs) (and_right _ (nat_le c.params (length c.regs)) (and_left _ (is_result (length c.regs) c.result) registers))

    pub regs_few : length c.regs ≤ 8192
    regs_few = omega (arith, sizes)

    slots_few : length c.slots ≤ 65535
    slots_few = le_of (length c.slots) 65535 (and_left (nat_le (length c.slots) 65535) (nat_le c.loops 65535) (and_left _ (nat_le (length c.instrs) 4294967295) counts))

    pub loops_few : c.loops ≤ 65535
    loops_few = le_of c.loops 65535 (and_right (nat_le (length c.slots) 65535) (nat_le c.loops 65535) (and_left _ (nat_le (length c.instrs) 4294967295) counts))

    pub instrs_few : length c.instrs ≤ 4294967295
    instrs_few = le_of (length c.instrs) 4294967295 (and_right _ (nat_le (length c.instrs) 4294967295) counts)

    pub front_fit : (params : ℕ) → c.params ≡ params → routine_in_range c ≡ true → all_good (map (is_good_slot env c) c.slots) ≡ true
        → (front {R = RawObject} (in_object (length o.functions) params)).fits (routine_row c).front
    front_fit params same range slots =
        let both = all_both call_in_range (is_good_slot env c) c.slots (and_left (list_all call_in_range c.slots) (list_all instr_in_range c.instrs) range) (all_map (is_good_slot env c) c.slots slots) in (
          flag_fits c.lane_code,
          (
            register_fits c.result (length c.regs) (and_right _ (is_result (length c.regs) c.result) registers) regs_few,
            (
              same,
              (
                list_fits (number 2) value_type c.regs (omega (arith, sizes)) (fit_here (λ (b : List CType). value_type {R = RawObject}) (λ t. nat_lt (ctype_number t) 24) (λ b t. value_type_fits t) [] c.regs typed),
                (
                  omega (arith, sizes),
                  (
                    list_fits (number 2) (object_slot (length o.functions)) (map slot_row c.slots) (omega (arith, slots_few, length-map c.slots slot_row))
                        (fit_each (λ b. object_slot {R = RawObject} (length o.functions)) slot_row (λ s. call_in_range s && is_good_slot env c s) (λ b s. slot_fit c s regs_few) [] c.slots both),
                    refl,
                  ),
                ),
              ),
            ),
          ),
        )

  routine_same : (c : Routine) (loops : ℕ) → c.loops ≡ loops → routine_in_range c ≡ true → routine_of (routine_row c) loops ≡ c
  routine_same c loops e range =
      ap₂ (λ (ss : List CallSite) (n : ℕ). record { lane_code = c.lane_code; params = c.params; result = c.result; regs = c.regs; masks = c.masks; slots = ss; loops = n; instrs = c.instrs })
      (again_each call_of slot_row call_in_range call_same c.slots (and_left (list_all call_in_range c.slots) (list_all instr_in_range c.instrs) range)) (sym e)

  -- ---- loops

  module _ (c : Routine) (gets : List ℕ) (b : Routine) (good : is_good_body env c gets b ≡ true) where
    routine_good : is_good_routine env b ≡ true
    routine_good = and_right _ (is_good_routine env b) good

    head_good : is_good_head b ≡ true
    head_good = and_left (is_good_head b) _ (and_left _ (all_good (body_verdicts env b)) routine_good)

    slots_good : all_good (map (is_good_slot env b) b.slots) ≡ true
    slots_good = and_right (is_good_head b) (all_good (map (is_good_slot env b) b.slots)) (and_left _ (all_good (body_verdicts env b)) routine_good)

    no_loops : b.loops ≡ 0
    no_loops = eqb-true b.loops 0 (and_right _ (b.loops == 0) (and_left _ (has_params c gets b) (and_left _ (is_good_routine env b) good)))

    params_same : b.params ≡ length gets
    params_same =
        let pairs_good = and_right _ (has_params c gets b) (and_left _ (is_good_routine env b) good) in
        let long : length (take b.params b.regs) ≡ length gets = pairs_long (is_type_of c) (take b.params b.regs) gets pairs_good in
        let few : b.params ≤ length b.regs = parameters b head_good in
        let taken : length (take b.params b.regs) ≡ min b.params (length b.regs) = length-take b.params b.regs in
        omega (arith, long, taken, few)

    own_fit : (captures : ℕ) → length gets ≡ 1 + captures → routine_in_range b ≡ true → (body {R = RawObject} (in_object (length o.functions) captures) captures).fits (Inline (routine_row b))
    own_fit captures count range =
        let fitting = front_fit b head_good (1 + captures) (params_same ∙ count) range slots_good in
        (((fitting, (((omega arith, refl), (instrs_fit b.instrs (instrs_few b head_good) (and_right (list_all call_in_range b.slots) (list_all instr_in_range b.instrs) range), refl)), refl)), refl), refl)

  body_fit : (c : Routine) (gets : List ℕ) (captures : ℕ) (b : LoopBody) → is_body env c gets b ≡ true → length gets ≡ 1 + captures → body_in_range b ≡ true
      → (body {R = RawObject} (in_object (length o.functions) captures) captures).fits (body_row b)
  body_fit c gets captures (own b) h count range = own_fit c gets b h captures count range
  body_fit c gets captures (numbered n) h count range = absurd (false≢true h)

  body_same : (c : Routine) (gets : List ℕ) (b : LoopBody) → is_body env c gets b ≡ true → body_in_range b ≡ true → body_of (body_row b) ≡ b
  body_same c gets (own b) h range = ap own (routine_same b 0 (no_loops c gets b h) range)
  body_same c gets (numbered n) h range = refl

  guard_fit : (c : Routine) (g : Guard) → length c.regs ≤ 8192 → is_good_guard c g ≡ true → (guard {R = RawObject}).fits g
  guard_fit c g regs h =
      let first = reg_within is_pointer refl c.regs g.first (and_left (is_pointer (reg_type c.regs g.first)) (is_pointer (reg_type c.regs g.second)) h) in
      let second = reg_within is_pointer refl c.regs g.second (and_right (is_pointer (reg_type c.regs g.first)) (is_pointer (reg_type c.regs g.second)) h) in
      (omega (arith, first, regs), (omega (arith, second, regs), refl))

  module _ (c : Routine) (regs : length c.regs ≤ 8192) (l : SimdSite) (good : is_good_loop env c l ≡ true) where
    body_good : is_body env c (body_regs l) l.body ≡ true
    body_good = and_right (has_good_bounds c l && has_good_captures c l) (is_body env c (body_regs l) l.body) good

    bounds : has_good_bounds c l ≡ true
    bounds = and_left (has_good_bounds c l) (has_good_captures c l) (and_left (has_good_bounds c l && has_good_captures c l) (is_body env c (body_regs l) l.body) good)

    captured : has_good_captures c l ≡ true
    captured = and_right (has_good_bounds c l) (has_good_captures c l) (and_left (has_good_bounds c l && has_good_captures c l) (is_body env c (body_regs l) l.body) good)

    low_promoted : is_promoted (reg_type c.regs l.low) ≡ true
    low_promoted = and_right (not c.lane_code && is_good_simdlen l.simdlen) (is_promoted (reg_type c.regs l.low)) (and_left _ (reg_type c.regs l.high == reg_type c.regs l.low) bounds)

    high_same : reg_type c.regs l.high ≡ reg_type c.regs l.low
    high_same = eqb-true (reg_type c.regs l.high) (reg_type c.regs l.low) (and_right _ (reg_type c.regs l.high == reg_type c.regs l.low) bounds)

    lanes_good : is_good_simdlen l.simdlen ≡ true
    lanes_good = and_right (not c.lane_code) (is_good_simdlen l.simdlen) (and_left _ (is_promoted (reg_type c.regs l.low)) (and_left _ (reg_type c.regs l.high == reg_type c.regs l.low) bounds))

    pub loop_fit : (params : ℕ) → loop_in_range l ≡ true → (loop_site {R = RawObject} (in_object (length o.functions) params)).fits (loop_row l)
    loop_fit params range =
        let low = reg_within is_promoted refl c.regs l.low low_promoted in
        let high = reg_within is_promoted refl c.regs l.high (ap is_promoted high_same ∙ low_promoted) in
        let c3 = and_left _ (list_all (is_good_guard c) l.guards) captured in
        let c2 = and_left _ (list_all (λ r. nat_lt r (length c.regs)) l.captures) c3 in
        let captures : length l.captures ≤ 65535 = le_of (length l.captures) 65535 (and_left (nat_le (length l.captures) 65535) (nat_le (length l.guards) 65535) c2) in
        let guards : length l.guards ≤ 65535 = le_of (length l.guards) 65535 (and_right (nat_le (length l.captures) 65535) (nat_le (length l.guards) 65535) c2) in (
          simdlen_fits l.simdlen lanes_good,
          (
            omega (arith, low, regs),
            (
              omega (arith, high, regs),
              (
                list_fits (number 2) (number 2) l.captures (omega (arith, captures))
                    (fit_here (λ (b : List ℕ). number {R = RawObject} 2) (λ r. nat_lt r (length c.regs)) (λ b r h. capture r h) [] l.captures (and_right _ (list_all (λ r. nat_lt r (length c.regs)) l.captures) c3)),
                (
                  list_fits (number 2) guard l.guards (omega (arith, guards))
                      (fit_here (λ (b : List Guard). guard {R = RawObject}) (is_good_guard c) (λ b g. guard_fit c g regs) [] l.guards (and_right _ (list_all (is_good_guard c) l.guards) captured)),
                  (
                    body_fit c (body_regs l) (length l.captures) l.body body_good (omega arith) range,
                    refl,
                  ),
                ),
              ),
            ),
          ),
        )
      where
        capture : (r : ℕ) → nat_lt r (length c.regs) ≡ true → r < 256 ^ 2
        capture r h = let lt : r < length c.regs = lt_of r (length c.regs) h in omega (arith, lt, regs)

    pub loop_same : loop_in_range l ≡ true → site_of (loop_row l) ≡ l
    loop_same range =
        ap (λ b. record { simdlen = l.simdlen; low = l.low; high = l.high; captures = l.captures; guards = l.guards; body = b }) (body_same c (body_regs l) l.body body_good range)

  -- ---- whole codes

  module _ (c : Listing) (good : all_good (verdicts env c) ≡ true) (range : code_in_range c ≡ true) where
    behind_head : all_good (map (is_good_slot env c.routine) c.routine.slots ++ (map (is_good_loop env c.routine) c.loops ++ body_verdicts env c.routine)) ≡ true
    behind_head = and_right (is_good_head c.routine) _ good

    main_head : is_good_head c.routine ≡ true
    main_head = and_left (is_good_head c.routine) (all_good (map (is_good_slot env c.routine) c.routine.slots ++ (map (is_good_loop env c.routine) c.loops ++ body_verdicts env c.routine))) good

    main_slots : all_good (map (is_good_slot env c.routine) c.routine.slots) ≡ true
    main_slots = all_front (map (is_good_slot env c.routine) c.routine.slots) _ behind_head

    main_loops : list_all (is_good_loop env c.routine) c.loops ≡ true
    main_loops = all_map (is_good_loop env c.routine) c.loops (all_front (map (is_good_loop env c.routine) c.loops) (body_verdicts env c.routine) (all_back (map (is_good_slot env c.routine) c.routine.slots) _ behind_head))

    routine_range : routine_in_range c.routine ≡ true
    routine_range = and_left (routine_in_range c.routine) (list_all loop_in_range c.loops) (and_left _ (c.routine.loops == length c.loops) range)

    loops_range : list_all loop_in_range c.loops ≡ true
    loops_range = and_right (routine_in_range c.routine) (list_all loop_in_range c.loops) (and_left _ (c.routine.loops == length c.loops) range)

    loops_count : c.routine.loops ≡ length c.loops
    loops_count = eqb-true c.routine.loops (length c.loops) (and_right _ (c.routine.loops == length c.loops) range)

    pub code_fit : (params : ℕ) → c.routine.params ≡ params → (code {R = RawObject} (in_object (length o.functions) params)).fits (code_row c)
    code_fit params same =
        let regs = regs_few c.routine main_head in
        let few = loops_few c.routine main_head in (
          front_fit c.routine main_head params same routine_range main_slots,
          (
            list_fits (number 2) (loop_site (in_object (length o.functions) params)) (map loop_row c.loops) (omega (arith, few, loops_count, length-map c.loops loop_row))
                (fit_each (λ b. loop_site {R = RawObject} (in_object (length o.functions) params)) loop_row (λ l. loop_in_range l && is_good_loop env c.routine l)
                (λ b l h. loop_fit c.routine regs l (and_right (loop_in_range l) (is_good_loop env c.routine l) h) params (and_left (loop_in_range l) (is_good_loop env c.routine l) h))
                [] c.loops (all_both loop_in_range (is_good_loop env c.routine) c.loops loops_range main_loops)),
            (
              instrs_fit c.routine.instrs (instrs_few c.routine main_head) (and_right (list_all call_in_range c.routine.slots) (list_all instr_in_range c.routine.instrs) routine_range),
              refl,
            ),
          ),
        )

    pub code_same : listing_of (code_row c) ≡ c
    code_same =
        let regs = regs_few c.routine main_head in
        ap₂ (λ (r : Routine) (ls : List SimdSite). record { routine = r; loops = ls })
        (routine_same c.routine (length (map loop_row c.loops)) (loops_count ∙ sym (length-map c.loops loop_row)) routine_range)
        (again_each site_of loop_row (λ l. loop_in_range l && is_good_loop env c.routine l)
        (λ l h. loop_same c.routine regs l (and_right (loop_in_range l) (is_good_loop env c.routine l) h) (and_left (loop_in_range l) (is_good_loop env c.routine l) h))
        c.loops (all_both loop_in_range (is_good_loop env c.routine) c.loops loops_range main_loops))
