-- The first bad part of rows is the earlier one of the first that code can't hold and the first bad one of the code.
use Rattle.std.proofs.Common.{◌≡◌, ℕ, zero, suc, ◌+◌, ◌-◌, ◌%◌, ◌<◌, ◌≤◌, min, Bool, true, false, not, ◌&&◌, cond, List, [], ◌∷◌, ◌++◌, length, map, take, get_or, ◌==◌, Option, Some, None, is_none, append-nil, add-one, refl, sym, ap, ap₂, ◌∙◌, arith, inl, inr}
use Rattle.std.specs.Prelude.{nat_le, nat_lt}
use Rattle.std.specs.List.{list_all}
use Rattle.std.specs.Option.{option_map}
use Rattle.std.proofs.lemmas.Bool.{cases_Bool, false≢true, leb-true, leb-false, ltb-true}
use Rattle.std.proofs.lemmas.List.{length-map}
use Rattle.vk_kinds.specs.Types.{ctype_number}
use Rattle.vk_code.specs.declared.code.Shape.TheVariants as shape
use Rattle.vk_code.specs.declared.instruction.Instr.{Instr}
use Rattle.vk_code.specs.declared.instruction.Operation.{Operation}
use Rattle.vk_code.specs.declared.instruction.Operation.TheVariants as op
use Rattle.vk_code.specs.Instruction.{block_of, operation_of}
use Rattle.vk_code.specs.Listing.{CallSite, LoopBody, Routine, SimdSite, own, numbered}
use Rattle.vk_code.specs.Tests.{all_good, first_bad, holds}
use Rattle.vk_code.specs.Valid.{Environment, body_regs, body_verdicts, fault_of, has_good_bounds, has_good_captures, has_good_counts, has_good_registers, has_params, instr_verdicts, is_body, is_good_body, is_good_head, is_good_instr, is_good_loop, is_good_routine, is_good_slot, is_result, is_typed, verdicts}
use Rattle.vk_code.proofs.Faults.{and_left, and_right, everywhere}
use Rattle.vk_code_format.specs.declared.rows.ShapeKind.{ShapeKind}
use Rattle.vk_code_format.specs.declared.rows.ShapeKind.TheVariants.{Vector, Uniform, By, Along, Literal, Same}
use Rattle.vk_code_format.specs.declared.rows.ArgRow.{ArgRow}
use Rattle.vk_code_format.specs.declared.rows.BodyRow.{BodyRow}
use Rattle.vk_code_format.specs.declared.rows.BodyRow.TheVariants.{Inline, Number}
use Rattle.vk_code_format.specs.declared.rows.CodeRow.{CodeRow}
use Rattle.vk_code_format.specs.declared.rows.LoopRow.{LoopRow}
use Rattle.vk_code_format.specs.declared.rows.RoutineRow.{RoutineRow}
use Rattle.vk_code_format.specs.declared.rows.SlotRow.{SlotRow}
use Rattle.vk_code_format.specs.Values.{arg_of, bad_part, body_of, body_has_places, call_of, earlier, has_place, has_places, listing_of, places_verdicts, routine_of, shape_of, site_of}
use Rattle.vk_code_rows.specs.Made.{has_few_params, is_near_arg, is_near_body, is_near_call, is_near_loop, is_near_shape, made_arg, made_body, made_call, made_listing, made_routine, made_shape, made_site, near_verdicts}

-- ---- two lists of verdicts

both : List Bool → List Bool → List Bool
both [] vs = vs
both (p ∷ ps) [] = p ∷ both ps []
both (p ∷ ps) (v ∷ vs) = (p && v) ∷ both ps vs

later : (a b : Option ℕ) → earlier (option_map (λ n. n + 1) a) (option_map (λ n. n + 1) b) ≡ option_map (λ n. n + 1) (earlier a b)
later None b = refl
later (Some m) None = refl
later (Some m) (Some n) = ap Some (omega arith)

zero_left : (o : Option ℕ) → earlier (Some 0) o ≡ Some 0
zero_left None = refl
zero_left (Some n) = ap Some (omega arith)

zero_right : (o : Option ℕ) → earlier o (Some 0) ≡ Some 0
zero_right None = refl
zero_right (Some n) = ap Some (omega arith)

earlier_is : (ps vs : List Bool) → earlier (first_bad ps) (first_bad vs) ≡ first_bad (both ps vs)
unfolding both
earlier_is [] vs = refl
earlier_is (false ∷ ps) [] = refl
earlier_is (true ∷ ps) [] = later (first_bad ps) None ∙ ap (option_map (λ n. n + 1)) (earlier_is ps [])
earlier_is (false ∷ ps) (v ∷ vs) = zero_left (first_bad (v ∷ vs))
earlier_is (true ∷ ps) (false ∷ vs) = zero_right (option_map (λ n. n + 1) (first_bad ps))
earlier_is (true ∷ ps) (true ∷ vs) = later (first_bad ps) (first_bad vs) ∙ ap (option_map (λ n. n + 1)) (earlier_is ps vs)

-- members that agree, and then what follows
agree : {A B C : Type 0} (p : B → Bool) (v : B → Bool) (f : A → B) (q : A → Bool) (w : C → Bool) (g : A → C) → ((x : A) → (p (f x) && v (f x)) ≡ (q x && w (g x)))
    → (xs : List A) (ps vs qs ws : List Bool) → both ps vs ≡ both qs ws
    → both (map p (map f xs) ++ ps) (map v (map f xs) ++ vs) ≡ both (map q xs ++ qs) (map w (map g xs) ++ ws)
unfolding both
agree p v f q w g same [] ps vs qs ws h = h
agree p v f q w g same (x ∷ xs) ps vs qs ws h = ap₂ (λ (b : Bool) (bs : List Bool). b ∷ bs) (same x) (agree p v f q w g same xs ps vs qs ws h)

-- ---- slots

near_is : (k : ShapeKind) (v : ℕ) (reg : ℕ) → has_place (arg_of (record { reg = reg; kind = k; value = v })) ≡ is_near_shape k v
near_is Vector v reg = refl
near_is Uniform v reg = refl
near_is By v reg = refl
near_is Along v reg = refl
near_is Literal v reg = refl
near_is Same v reg = refl

near_args : (xs : List ArgRow) → list_all has_place (map arg_of xs) ≡ list_all is_near_arg xs
near_args [] = refl
near_args (x ∷ xs) = ap₂ (λ a b. a && b) (near_is x.kind x.value x.reg) (near_args xs)

near_calls : (xs : List SlotRow) → list_all has_places (map call_of xs) ≡ list_all is_near_call xs
near_calls [] = refl
near_calls (x ∷ xs) = ap₂ (λ a b. a && b) (near_args x.args) (near_calls xs)

shape_same : (k : ShapeKind) (v : ℕ) → is_near_shape k v ≡ true → made_shape k v ≡ shape_of k v
shape_same Vector v h = refl
shape_same Uniform v h = refl
shape_same By v h = refl
shape_same Along v h =
    let lt : v < 256 = ltb-true _ _ h in
    let same : v % 256 ≡ v = omega (arith, lt) in
    ap (λ n. shape.Along n) same
shape_same Literal v h = refl
shape_same Same v h =
    let lt : v < 256 = ltb-true _ _ h in
    let same : v % 256 ≡ v = omega (arith, lt) in
    ap (λ n. shape.Same n) same

args_same : (xs : List ArgRow) → list_all is_near_arg xs ≡ true → map made_arg xs ≡ map arg_of xs
args_same [] h = refl
args_same (x ∷ xs) h =
    ap₂ (λ a b. a ∷ b) (ap (λ s. record { reg = x.reg; shape = s }) (shape_same x.kind x.value (and_left _ _ h))) (args_same xs (and_right (is_near_arg x) _ h))

call_same : (s : SlotRow) → is_near_call s ≡ true → made_call s ≡ call_of s
call_same s h = ap (λ args. record { function = s.function; always = s.always; result = s.result; args = args }) (args_same s.args h)

calls_same : (xs : List SlotRow) → list_all is_near_call xs ≡ true → map made_call xs ≡ map call_of xs
calls_same [] h = refl
calls_same (x ∷ xs) h = ap₂ (λ a b. a ∷ b) (call_same x (and_left _ _ h)) (calls_same xs (and_right (is_near_call x) _ h))

-- where a test fails, what follows it is nothing
when : (b c x y : Bool) → b ≡ c → (c ≡ true → x ≡ y) → (b && x) ≡ (c && y)
when true true x y e h = h refl
when true false x y e h = absurd (false≢true (sym e))
when false true x y e h = absurd (false≢true e)
when false false x y e h = refl

few_params : (r : RoutineRow) → has_few_params r ≡ true → min r.front.params 65535 ≡ r.front.params
few_params r few = let le : r.front.params ≤ 65535 = leb-true _ _ few in omega (arith, le)

module _ (e : Environment) (r : RoutineRow) (loops : ℕ) (few : has_few_params r ≡ true) where
  slot_good : (s : CallSite) → is_good_slot e (routine_of r loops) s ≡ is_good_slot e (made_routine r loops) s
  slot_good s =
      ap (λ (k : ℕ). is_good_slot e (record {
        lane_code = r.front.lane_code;
        params = k;
        result = r.front.result;
        regs = r.front.regs;
        masks = r.front.masks;
        slots = [];
        loops = loops;
        instrs = r.instrs;
      }) s) (sym (few_params r few))

  slot_same : (s : SlotRow) → (has_places (call_of s) && is_good_slot e (routine_of r loops) (call_of s)) ≡ (is_near_call s && is_good_slot e (made_routine r loops) (made_call s))
  slot_same s = when _ _ _ _ (near_args s.args) (λ near. slot_good (call_of s) ∙ ap (is_good_slot e (made_routine r loops)) (sym (call_same s near)))

-- ---- heads

far_head : (c : Routine) → nat_le c.params 65535 ≡ false → is_good_head c ≡ false
far_head c far = elim (cases_Bool (is_good_head c)) [
  | inl good ↦
      let registers = and_left (has_good_registers c) (has_good_counts c) (and_left (has_good_registers c && has_good_counts c) (list_all (λ t. nat_lt (ctype_number t) 24) c.regs) good) in
      let inside = and_left (nat_le 1 c.masks && nat_le (length c.regs + c.masks) 8192 && nat_le c.params (length c.regs)) (is_result (length c.regs) c.result) registers in
      let params : c.params ≤ length c.regs = leb-true _ _ (and_right (nat_le 1 c.masks && nat_le (length c.regs + c.masks) 8192) (nat_le c.params (length c.regs)) inside) in
      let room : length c.regs + c.masks ≤ 8192 = leb-true _ _ (and_right (nat_le 1 c.masks) (nat_le (length c.regs + c.masks) 8192) (and_left (nat_le 1 c.masks && nat_le (length c.regs + c.masks) 8192) (nat_le c.params (length c.regs)) inside)) in
      let many : 65535 < c.params = leb-false _ _ far in
      absurd (omega (arith, params, room, many))
  | inr bad ↦ bad
]

routine_same : (b : RoutineRow) (loops : ℕ) → has_few_params b ≡ true → list_all is_near_call b.front.slots ≡ true → routine_of b loops ≡ made_routine b loops
routine_same b loops few near =
    ap₂ (λ (k : ℕ) (slots : List CallSite). record {
      lane_code = b.front.lane_code;
      params = k;
      result = b.front.result;
      regs = b.front.regs;
      masks = b.front.masks;
      slots = slots;
      loops = loops;
      instrs = b.instrs;
    }) (sym (few_params b few)) (sym (calls_same b.front.slots near))

-- ---- loops

-- one test of several fails
fails_last : (a b : Bool) → b ≡ false → (a && b) ≡ false
fails_last true b h = h
fails_last false b h = refl

fails_first : (a b : Bool) → a ≡ false → (a && b) ≡ false
fails_first true b h = absurd (false≢true (sym h))
fails_first false b h = refl

bad_routine : (e : Environment) (c : Routine) → nat_le c.params 65535 ≡ false → is_good_routine e c ≡ false
bad_routine e c far =
    fails_first (is_good_head c && all_good (map (is_good_slot e c) c.slots)) (all_good (body_verdicts e c))
    (fails_first (is_good_head c) (all_good (map (is_good_slot e c) c.slots)) (far_head c far))

module _ (e : Environment) (r : RoutineRow) (loops : ℕ) where
  -- a loop's own tests don't speak of the calls of the code that it stands in, nor of its parameters
  site_good : (l : LoopRow) → is_good_loop e (routine_of r loops) (made_site l) ≡ is_good_loop e (made_routine r loops) (made_site l)
  site_good l = site_by l (made_body l.body)
    where
      site_by : (l : LoopRow) (b : LoopBody) → is_good_loop e (routine_of r loops) (record { simdlen = l.simdlen; low = l.low; high = l.high; captures = l.captures; guards = l.guards; body = b })
          ≡ is_good_loop e (made_routine r loops) (record { simdlen = l.simdlen; low = l.low; high = l.high; captures = l.captures; guards = l.guards; body = b })
      site_by l (own x) = refl
      site_by l (numbered n) = refl

  site_with : LoopRow → BodyRow → LoopRow
  site_with l b = record { simdlen = l.simdlen; low = l.low; high = l.high; captures = l.captures; guards = l.guards; body = b }

  bad_site : (l : LoopRow) (b : RoutineRow) → has_few_params b ≡ false → is_good_loop e (routine_of r loops) (site_of (site_with l (Inline b))) ≡ false
  unfolding site_with
  bad_site l b far =
      let c = routine_of r loops in
      let x = routine_of b 0 in
      let s = site_of (site_with l (Inline b)) in
      let tests = x.lane_code && is_none x.result && (x.loops == 0) && has_params c (body_regs s) x in
      fails_last (has_good_bounds c s && has_good_captures c s) (is_body e c (body_regs s) (own x))
      (fails_last (not e.image) (is_good_body e c (body_regs s) x)
      (fails_last tests (is_good_routine e x) (bad_routine e x far)))

  loop_by : (l : LoopRow) (b : BodyRow) → (body_has_places (body_of b) && is_good_loop e (routine_of r loops) (site_of (site_with l b)))
      ≡ (is_near_body b && is_good_loop e (made_routine r loops) (made_site (site_with l b)))
  unfolding site_with
  loop_by l (Number n) = refl
  loop_by l (Inline b) = elim (cases_Bool (has_few_params b)) [
    | inl few ↦
        rw few (when _ _ _ _ (near_calls b.front.slots) (λ near.
        let body : routine_of b 0 ≡ made_routine b 0 = body_same b few near in
        ap (λ (x : Routine). is_good_loop e (routine_of r loops) (record { simdlen = l.simdlen; low = l.low; high = l.high; captures = l.captures; guards = l.guards; body = own x })) body
        ∙ site_good (site_with l (Inline b))))
    | inr far ↦
        fails_last (body_has_places (body_of (Inline b))) (is_good_loop e (routine_of r loops) (site_of (site_with l (Inline b)))) (bad_site l b far)
        ∙ sym (fails_first (is_near_body (Inline b)) (is_good_loop e (made_routine r loops) (made_site (site_with l (Inline b)))) (fails_first (has_few_params b) (list_all is_near_call b.front.slots) far))
  ]
    where
      body_same : (b : RoutineRow) → has_few_params b ≡ true → list_all is_near_call b.front.slots ≡ true → routine_of b 0 ≡ made_routine b 0
      body_same b few near =
          ap₂ (λ (k : ℕ) (slots : List CallSite). record {
            lane_code = b.front.lane_code;
            params = k;
            result = b.front.result;
            regs = b.front.regs;
            masks = b.front.masks;
            slots = slots;
            loops = 0;
            instrs = b.instrs;
          }) (sym (few_params b few)) (sym (calls_same b.front.slots near))

  loop_same : (l : LoopRow) → (body_has_places (site_of l).body && is_good_loop e (routine_of r loops) (site_of l)) ≡ (is_near_loop l && is_good_loop e (made_routine r loops) (made_site l))
  unfolding site_with
  loop_same l = loop_by l l.body

-- ---- instructions

typed_same : (e : Environment) (r : RoutineRow) (loops : ℕ) (o : Operation) → is_typed e (routine_of r loops) o ≡ is_typed e (made_routine r loops) o
typed_same e r loops (op.Const t d value) = refl
typed_same e r loops (op.Copy d a) = refl
typed_same e r loops (op.Convert d a) = refl
typed_same e r loops (op.Binary o t d a b) = refl
typed_same e r loops (op.Compare o t d a b) = refl
typed_same e r loops (op.Unary o t d a) = refl
typed_same e r loops (op.Lane d) = refl
typed_same e r loops (op.Load d a) = refl
typed_same e r loops (op.Store a b) = refl
typed_same e r loops (op.PtrAdd d a b) = refl
typed_same e r loops (op.Addr d object) = refl
typed_same e r loops (op.MaskOf d a) = refl
typed_same e r loops (op.MaskAnd d a b) = refl
typed_same e r loops (op.MaskOr d a b) = refl
typed_same e r loops (op.MaskBut d a b) = refl
typed_same e r loops (op.Loop count) = refl
typed_same e r loops (op.Call slot) = ap (nat_lt slot) (length-map r.front.slots call_of ∙ sym (length-map r.front.slots made_call))
typed_same e r loops (op.Print a) = refl
typed_same e r loops (op.SimdLoop number) = refl

holds_same : {A : Type 0} (p q : A → Bool) → ((x : A) → p x ≡ q x) → (o : Option A) → holds p o ≡ holds q o
holds_same p q same None = refl
holds_same p q same (Some x) = same x

instr_same : (e : Environment) (r : RoutineRow) (loops : ℕ) (i : Instr) → is_good_instr e (routine_of r loops) i ≡ is_good_instr e (made_routine r loops) i
instr_same e r loops i = ap (λ b. nat_lt i.m r.front.masks && b) (holds_same _ _ (typed_same e r loops) (operation_of i))

-- what is behind an instruction that begins a block, or none
behind_same : (e : Environment) (c d : Routine) (i : Instr) (room : ℕ) (is : List Instr) (n : ℕ) → is_good_instr e c i ≡ is_good_instr e d i
    → ((room skip count : ℕ) → instr_verdicts e c room is skip count ≡ instr_verdicts e d room is skip count) → (o : Option ℕ)
    → elim o as (λ _. List Bool) [
      | None ↦ is_good_instr e c i ∷ instr_verdicts e c room is zero n
      | Some x ↦ (is_good_instr e c i && nat_le x n && nat_lt 0 room) ∷ (instr_verdicts e c (room - 1) is zero x ++ instr_verdicts e c room is x (n - x))
    ] ≡ elim o as (λ _. List Bool) [
      | None ↦ is_good_instr e d i ∷ instr_verdicts e d room is zero n
      | Some x ↦ (is_good_instr e d i && nat_le x n && nat_lt 0 room) ∷ (instr_verdicts e d (room - 1) is zero x ++ instr_verdicts e d room is x (n - x))
    ]
behind_same e c d i room is n same later None = ap₂ (λ (b : Bool) (bs : List Bool). b ∷ bs) same (later room zero n)
behind_same e c d i room is n same later (Some x) =
    ap₂ (λ (b : Bool) (bs : List Bool). b ∷ bs) (ap (λ b. b && nat_le x n && nat_lt 0 room) same)
    (ap₂ (λ (bs cs : List Bool). bs ++ cs) (later (room - 1) zero x) (later room x (n - x)))

instrs_same : (e : Environment) (c d : Routine) → ((i : Instr) → is_good_instr e c i ≡ is_good_instr e d i) → (room : ℕ) (is : List Instr) (skip count : ℕ)
    → instr_verdicts e c room is skip count ≡ instr_verdicts e d room is skip count
instrs_same e c d same room [] skip count = refl
instrs_same e c d same room (i ∷ is) (suc skip) count = instrs_same e c d same room is skip count
instrs_same e c d same room (i ∷ is) zero zero = refl
instrs_same e c d same room (i ∷ is) zero (suc n) =
    behind_same e c d i room is n (same i) (λ room skip count. instrs_same e c d same room is skip count) (block_of i)

-- ---- the code

first_of_both : (a b : Bool) (ps vs : List Bool) → b ≡ false → first_bad (both (a ∷ ps) (b ∷ vs)) ≡ Some 0
unfolding both
first_of_both a b ps vs h = rw (fails_last a b h) refl

module _ (e : Environment) (c : CodeRow) where
  head_same : has_few_params c.routine ≡ true → is_good_head (listing_of c).routine ≡ is_good_head (made_listing c).routine
  head_same few =
      ap₂ (λ (k n : ℕ).
      nat_le 1 c.routine.front.masks && nat_le (length c.routine.front.regs + c.routine.front.masks) 8192 && nat_le k (length c.routine.front.regs)
      && is_result (length c.routine.front.regs) c.routine.front.result
      && (nat_le n 65535 && nat_le (length c.loops) 65535 && nat_le (length c.routine.instrs) 4294967295)
      && list_all (λ t. nat_lt (ctype_number t) 24) c.routine.front.regs)
      (sym (few_params c.routine few)) (length-map c.routine.front.slots call_of ∙ sym (length-map c.routine.front.slots made_call))

  body_same : body_verdicts e (listing_of c).routine ≡ body_verdicts e (made_listing c).routine
  body_same =
      instrs_same e (listing_of c).routine (made_listing c).routine (instr_same e c.routine (length c.loops)) 64 c.routine.instrs zero (length c.routine.instrs)

  -- loops, and then the instructions
  loops_same : both (map (λ l. body_has_places l.body) (map site_of c.loops)) (map (is_good_loop e (listing_of c).routine) (map site_of c.loops) ++ body_verdicts e (listing_of c).routine)
      ≡ both (map is_near_loop c.loops) (map (is_good_loop e (made_listing c).routine) (map made_site c.loops) ++ body_verdicts e (made_listing c).routine)
  unfolding both
  loops_same =
      let r = (listing_of c).routine in
      let m = (made_listing c).routine in
      ap₂ both (sym (append-nil (map (λ l. body_has_places l.body) (map site_of c.loops)))) refl
      ∙ agree (λ (l : SimdSite). body_has_places l.body) (is_good_loop e r) site_of is_near_loop (is_good_loop e m) made_site (loop_same e c.routine (length c.loops)) c.loops
      [] (body_verdicts e r) [] (body_verdicts e m) body_same
      ∙ ap₂ both (append-nil (map is_near_loop c.loops)) refl

  verdicts_same : has_few_params c.routine ≡ true → both (places_verdicts (listing_of c)) (verdicts e (listing_of c)) ≡ both (near_verdicts c) (verdicts e (made_listing c))
  unfolding both
  verdicts_same few =
      let r = (listing_of c).routine in
      let m = (made_listing c).routine in
      ap₂ (λ (b : Bool) (bs : List Bool). b ∷ bs) (ap₂ (λ a b. a && b) (sym few) (head_same few))
      (agree has_places (is_good_slot e r) call_of is_near_call (is_good_slot e m) made_call (slot_same e c.routine (length c.loops) few) c.routine.front.slots
      (map (λ l. body_has_places l.body) (map site_of c.loops)) (map (is_good_loop e r) (map site_of c.loops) ++ body_verdicts e r)
      (map is_near_loop c.loops) (map (is_good_loop e m) (map made_site c.loops) ++ body_verdicts e m) loops_same)

  pub bad_same : bad_part e (listing_of c) ≡ earlier (first_bad (near_verdicts c)) (fault_of e (made_listing c))
  bad_same = elim (cases_Bool (has_few_params c.routine)) [
    | inl few ↦
        earlier_is (places_verdicts (listing_of c)) (verdicts e (listing_of c))
        ∙ ap first_bad (verdicts_same few)
        ∙ sym (earlier_is (near_verdicts c) (verdicts e (made_listing c)))
    | inr far ↦
        let slots = map is_near_call c.routine.front.slots ++ map is_near_loop c.loops in
        earlier_is (places_verdicts (listing_of c)) (verdicts e (listing_of c))
        ∙ first_of_both true (is_good_head (listing_of c).routine) (map has_places (listing_of c).routine.slots ++ map (λ l. body_has_places l.body) (listing_of c).loops)
        (map (is_good_slot e (listing_of c).routine) (listing_of c).routine.slots ++ (map (is_good_loop e (listing_of c).routine) (listing_of c).loops ++ body_verdicts e (listing_of c).routine))
        (far_head (listing_of c).routine far)
        ∙ sym (ap (λ (b : Bool). earlier (cond b (option_map (λ n. n + 1) (first_bad slots)) (Some 0)) (fault_of e (made_listing c))) far ∙ zero_left (fault_of e (made_listing c)))
  ]

-- ---- code that can hold all numbers

near_body : (b : BodyRow) → is_near_body b ≡ true → made_body b ≡ body_of b
near_body (Number n) h = refl
near_body (Inline b) h = ap own (sym (routine_same b 0 (and_left _ _ h) (and_right (has_few_params b) (list_all is_near_call b.front.slots) h)))

near_loops : (ls : List LoopRow) → list_all is_near_loop ls ≡ true → map made_site ls ≡ map site_of ls
near_loops [] h = refl
near_loops (l ∷ ls) h =
    ap₂ (λ (s : SimdSite) (ss : List SimdSite). s ∷ ss)
    (ap (λ b. record { simdlen = l.simdlen; low = l.low; high = l.high; captures = l.captures; guards = l.guards; body = b }) (near_body l.body (and_left _ _ h)))
    (near_loops ls (and_right (is_near_loop l) (list_all is_near_loop ls) h))

all_near : {A : Type 0} (p : A → Bool) (xs : List A) → all_good (map p xs) ≡ true → list_all p xs ≡ true
all_near p [] h = refl
all_near p (x ∷ xs) h = ap₂ (λ a b. a && b) (and_left (p x) (all_good (map p xs)) h) (all_near p xs (and_right (p x) (all_good (map p xs)) h))

split_good : (us vs : List Bool) → all_good (us ++ vs) ≡ true → (all_good us ≡ true) × (all_good vs ≡ true)
split_good [] vs h = (refl, h)
split_good (u ∷ us) vs h =
    let rest = split_good us vs (and_right u (all_good (us ++ vs)) h) in
    (ap₂ (λ a b. a && b) (and_left u (all_good (us ++ vs)) h) rest.0, rest.1)

-- it is what the row stands for
pub near_listing : (c : CodeRow) → first_bad (near_verdicts c) ≡ None → made_listing c ≡ listing_of c
near_listing c h =
    let all = everywhere (near_verdicts c) h in
    let slots = map is_near_call c.routine.front.slots in
    let loops = map is_near_loop c.loops in
    let parts = split_good slots loops (and_right (has_few_params c.routine) (all_good (slots ++ loops)) all) in
    ap₂ (λ (r : Routine) (ls : List SimdSite). record { routine = r; loops = ls })
    (sym (routine_same c.routine (length c.loops) (and_left (has_few_params c.routine) (all_good (slots ++ loops)) all) (all_near is_near_call c.routine.front.slots parts.0)))
    (near_loops c.loops (all_near is_near_loop c.loops parts.1))

-- ---- one list

-- all before place i pass and that at i does not
pub first_at : {A : Type 0} (p : A → Bool) (xs : List A) (i : ℕ) (d : A) → i < length xs → list_all p (take i xs) ≡ true → p (get_or xs i d) ≡ false → first_bad (map p xs) ≡ Some i
first_at p [] i d inside h b = absurd (omega (arith, inside))
first_at p (x ∷ xs) zero d inside h b = ap (λ v. cond v (option_map (λ n. n + 1) (first_bad (map p xs))) (Some 0)) b
first_at p (x ∷ xs) (suc i) d inside h b =
    ap (λ v. cond v (option_map (λ n. n + 1) (first_bad (map p xs))) (Some 0)) (and_left (p x) (list_all p (take i xs)) h)
    ∙ (ap (option_map (λ n. n + 1)) (first_at p xs i d (omega (arith, inside)) (and_right (p x) (list_all p (take i xs)) h) b)
    ∙ ap Some (add-one i))

pub first_nowhere : {A : Type 0} (p : A → Bool) (xs : List A) → list_all p xs ≡ true → first_bad (map p xs) ≡ None
first_nowhere p [] h = refl
first_nowhere p (x ∷ xs) h =
    ap (λ v. cond v (option_map (λ n. n + 1) (first_bad (map p xs))) (Some 0)) (and_left (p x) (list_all p xs) h)
    ∙ ap (option_map (λ n. n + 1)) (first_nowhere p xs (and_right (p x) (list_all p xs) h))
