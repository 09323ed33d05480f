-- What is read of code was written, and what is written is read.
use Rattle.std.proofs.Common.{◌≡◌, ℕ, ◌+◌, ◌<◌, ◌≤◌, zero, suc, subst, List, [], ◌∷◌, ◌++◌, length, take, drop, refl, sym, ap, ◌∙◌, arith}
use Rattle.std.specs.List.{AllByRecursion}
use Rattle.std.proofs.lemmas.List.{take-append-drop, take_all, length-take, length-drop, drop-drop}
use Rattle.byteorder.specs.Numbers.{little_from-take}
use Rattle.vk_format.specs.Bytes.{IsBytes}
use Rattle.vk_format.proofs.Bytes.{IsBytes-drop, IsBytes-take, bytes_again}
use Rattle.byteorder.specs.Endian.{little_bytes, little_number}
use Rattle.vk_format.specs.declared.rules.ObjectRule.TheVariants.{O7}
use Rattle.vk_format.specs.Codec.{number, block, judged, repeated, list, exactly_number}
use Rattle.vk_format.proofs.Inverse.{IsCodec, number_law, block_law, field_law, judged_law, seen_law, written_by_law, repeated_law, list_law, given_law, skip_law}
use Rattle.vk_code_format.specs.declared.rows.BodyRow.{BodyRow}
use Rattle.vk_code_format.specs.declared.rows.BodyRow.TheVariants.{Inline, Number}
use Rattle.vk_code_format.specs.Codes.{Place, in_object, in_image, instr_of, instr_bytes, instruction, shape_kinds, shape_number, has_value, argument, object_slot, image_slot, slot, parameter_count, front, instructions, routine, guard, inline_of, number_of, body_bytes, body_in, body, loop_site, code}
use Rattle.vk_code_format.specs.Fields.{coded, flag, below, register_or_none, simdlen, value_type}
use Rattle.vk_code_format.proofs.Fields.{coded_law, flag_law, below_law, register_law, simdlen_law, value_type_law, exactly_number_law}

-- ---- instructions

are_bytes : (bytes : List ℕ) → AllByRecursion (λ b. b < 256) bytes → IsBytes bytes
are_bytes [] h i = omega arith
are_bytes (b ∷ bs) h zero = h.0
are_bytes (b ∷ bs) h (suc i) = are_bytes bs h.1 i

field_again : (n : ℕ) (bytes : List ℕ) → IsBytes bytes → n ≤ length bytes → little_bytes n (little_number n bytes) ≡ take n bytes
field_again n bytes are long =
    let front = take n bytes in
    let len : length front ≡ n = omega (arith, length-take n bytes, long) in
    let same : little_number n front ≡ little_number n bytes = little_from-take 0 n n bytes (omega arith) in
    ap (little_bytes n) (sym same) ∙ subst (λ w. little_bytes w (little_number w front) ≡ front) len (bytes_again front (IsBytes-take n bytes are))

chunk : (n k : ℕ) (bytes : List ℕ) → take n (drop k bytes) ++ drop (k + n) bytes ≡ drop k bytes
chunk n k bytes = ap (λ xs. take n (drop k bytes) ++ xs) (sym (drop-drop n k bytes)) ∙ take-append-drop n (drop k bytes)

joined : (a b c d e f u v w x y z : List ℕ) → a ≡ u → b ≡ v → c ≡ w → d ≡ x → e ≡ y → f ≡ z
    → a ++ (b ++ (c ++ (d ++ (e ++ f)))) ≡ u ++ (v ++ (w ++ (x ++ (y ++ z))))
joined a b c d e f u v w x y z p q r s t o = rw (p, q, r, s, t, o) refl

all_chunks : (bytes : List ℕ) → length bytes ≡ 16
    → take 1 bytes ++ (take 1 (drop 1 bytes) ++ (take 2 (drop 2 bytes) ++ (take 2 (drop 4 bytes) ++ (take 2 (drop 6 bytes) ++ take 8 (drop 8 bytes))))) ≡ bytes
all_chunks bytes long =
    let p8 : take 8 (drop 8 bytes) ≡ drop 8 bytes = take_all 8 (drop 8 bytes) (omega (arith, length-drop 8 bytes, long)) in
    let p6 = ap (λ xs. take 2 (drop 6 bytes) ++ xs) p8 ∙ chunk 2 6 bytes in
    let p4 = ap (λ xs. take 2 (drop 4 bytes) ++ xs) p6 ∙ chunk 2 4 bytes in
    let p2 = ap (λ xs. take 2 (drop 2 bytes) ++ xs) p4 ∙ chunk 2 2 bytes in
    let p1 = ap (λ xs. take 1 (drop 1 bytes) ++ xs) p2 ∙ chunk 1 1 bytes in
    ap (λ xs. take 1 bytes ++ xs) p1 ∙ take-append-drop 1 bytes

instr_back : (bytes : List ℕ) → (length bytes ≡ 16) × AllByRecursion (λ b. b < 256) bytes → instr_bytes (instr_of bytes) ≡ bytes
instr_back bytes fits =
    let are = are_bytes bytes fits.1 in
    let part : (n k : ℕ) → k + n ≤ 16 → little_bytes n (little_number n (drop k bytes)) ≡ take n (drop k bytes) =
    λ n k within. field_again n (drop k bytes) (IsBytes-drop k bytes are) (omega (arith, length-drop k bytes, fits.0, within)) in
    joined _ _ _ _ _ _ _ _ _ _ _ _ (field_again 1 bytes are (omega (arith, fits.0))) (part 1 1 (omega arith)) (part 2 2 (omega arith)) (part 2 4 (omega arith)) (part 2 6 (omega arith)) (part 8 8 (omega arith))
    ∙ all_chunks bytes fits.0

pub instruction_law : {R : Type 0} → IsCodec (instruction {R = R})
instruction_law = seen_law instr_of instr_bytes (block 16) (block_law 16) instr_back

pub argument_law : {R : Type 0} → IsCodec (argument {R = R})
argument_law =
    field_law (λ a. a.reg) (number 2) _ (number_law 2) (λ reg.
    field_law (λ a. a.kind) (coded O7 shape_kinds shape_number) _ (coded_law O7 shape_kinds shape_number (refl, (refl, (refl, (refl, (refl, (refl, tt))))))) (λ kind.
    field_law (λ a. a.value) (judged O7 (has_value kind) (number 4)) _ (judged_law O7 _ (number 4) (number_law 4)) (λ value.
    given_law _) (λ value a f. ap (λ b. b.value) f)) (λ kind a f. ap (λ b. b.kind) f.1)) (λ reg a f. ap (λ b. b.reg) f.1.1)

object_slot_law : {R : Type 0} (functions : ℕ) → IsCodec (object_slot {R = R} functions)
object_slot_law functions =
    field_law (λ s. s.function) (below functions) _ (below_law functions) (λ function.
    field_law (λ s. length s.args) (number 1) _ (number_law 1) (λ count.
    field_law (λ s. s.always) flag _ flag_law (λ always.
    field_law (λ s. s.result) register_or_none _ register_law (λ result.
    field_law (λ s. s.args) (repeated count argument) _ (repeated_law count argument argument_law) (λ args.
    given_law (record { function = function; always = always; result = result; args = args })) (λ args s f. ap (λ t. t.args) f)) (λ result s f. ap (λ t. t.result) f.1)) (λ always s f. ap (λ t. t.always) f.1.1)) (λ count s f. f.1.1.0.0.0)) (λ function s f. ap (λ t. t.function) f.1.1.1.1)

image_slot_law : {R : Type 0} → IsCodec (image_slot {R = R})
image_slot_law =
    field_law (λ s. s.function) (number 1) _ (number_law 1) (λ count.
    field_law (λ s. s.always) flag _ flag_law (λ always.
    field_law (λ s. s.result) register_or_none _ register_law (λ result.
    field_law (λ s. s.args) (repeated count argument) _ (repeated_law count argument argument_law) (λ args.
    given_law _) (λ args s f. ap (λ t. t.args) f)) (λ result s f. ap (λ t. t.result) f.1)) (λ always s f. ap (λ t. t.always) f.1.1)) (λ count s f. ap (λ t. t.function) f.1.1.1)

pub slot_law : {R : Type 0} (place : Place) → IsCodec (slot {R = R} place)
slot_law (in_object functions params) = object_slot_law functions
slot_law (in_image codes) = image_slot_law

parameter_count_law : {R : Type 0} (place : Place) → IsCodec (parameter_count {R = R} place)
parameter_count_law (in_object functions params) = given_law params
parameter_count_law (in_image codes) = number_law 2

pub front_law : {R : Type 0} (place : Place) → IsCodec (front {R = R} place)
front_law place =
    field_law (λ c. c.lane_code) flag _ flag_law (λ lane_code.
    field_law (λ c. c.result) register_or_none _ register_law (λ result.
    field_law (λ c. c.params) (parameter_count place) _ (parameter_count_law place) (λ params.
    field_law (λ c. c.regs) (list (number 2) value_type) _ (list_law (number 2) value_type (number_law 2) value_type_law) (λ regs.
    field_law (λ c. c.masks) (number 2) _ (number_law 2) (λ masks.
    field_law (λ c. c.slots) (list (number 2) (slot place)) _ (list_law (number 2) (slot place) (number_law 2) (slot_law place)) (λ slots.
    given_law _) (λ slots c f. ap (λ d. d.slots) f)) (λ masks c f. ap (λ d. d.masks) f.1)) (λ regs c f. ap (λ d. d.regs) f.1.1)) (λ params c f. ap (λ d. d.params) f.1.1.1)) (λ result c f. ap (λ d. d.result) f.1.1.1.1)) (λ lane_code c f. ap (λ d. d.lane_code) f.1.1.1.1.1)

instructions_law : {R : Type 0} → IsCodec (instructions {R = R})
instructions_law = list_law (number 4) instruction (number_law 4) instruction_law

pub routine_law : {R : Type 0} (place : Place) → IsCodec (routine {R = R} place)
routine_law place =
    field_law (λ c. c.front) (front place) _ (front_law place) (λ front.
    skip_law (exactly_number O7 2 0) _ (exactly_number_law O7 2 0) (
    field_law (λ c. c.instrs) instructions _ instructions_law (λ instrs.
    given_law _) (λ instrs c f. ap (λ d. d.instrs) f))) (λ front c f. ap (λ d. d.front) f.0.1.1)

guard_law : {R : Type 0} → IsCodec (guard {R = R})
guard_law =
    field_law (λ g. g.first) (number 2) _ (number_law 2) (λ first.
    field_law (λ g. g.second) (number 2) _ (number_law 2) (λ second.
    given_law _) (λ second g f. ap (λ h. h.second) f)) (λ first g f. ap (λ h. h.first) f.1)

body_in_law : {R : Type 0} (place : Place) (captures : ℕ) → IsCodec (body_in {R = R} place captures)
body_in_law (in_object functions params) captures = seen_law Inline inline_of _ (routine_law (in_object functions (1 + captures))) (λ r fits. refl)
body_in_law (in_image codes) captures = seen_law Number number_of (below codes) (below_law codes) (λ n fits. refl)

body_agrees : (R : Type 0) (place : Place) (captures : ℕ) (b : BodyRow) → (body_in {R = R} place captures).fits b → body_bytes b ≡ (body_in {R = R} place captures).write b
body_agrees R (in_object functions params) captures (Inline r) fits = refl
body_agrees R (in_object functions params) captures (Number n) fits = absurd cc
body_agrees R (in_image codes) captures (Inline r) fits = absurd cc
body_agrees R (in_image codes) captures (Number n) fits = refl

body_law : {R : Type 0} (place : Place) (captures : ℕ) → IsCodec (body {R = R} place captures)
body_law {R = R} place captures = written_by_law body_bytes (body_in place captures) (body_in_law place captures) (body_agrees R place captures)

pub loop_law : {R : Type 0} (place : Place) → IsCodec (loop_site {R = R} place)
loop_law place =
    field_law (λ l. l.simdlen) simdlen _ simdlen_law (λ simdlen.
    field_law (λ l. l.low) (number 2) _ (number_law 2) (λ low.
    field_law (λ l. l.high) (number 2) _ (number_law 2) (λ high.
    field_law (λ l. l.captures) (list (number 2) (number 2)) _ (list_law (number 2) (number 2) (number_law 2) (number_law 2)) (λ captures.
    field_law (λ l. l.guards) (list (number 2) guard) _ (list_law (number 2) guard (number_law 2) guard_law) (λ guards.
    field_law (λ l. l.body) (body place (length captures)) _ (body_law place (length captures)) (λ body.
    given_law _) (λ body l f. ap (λ m. m.body) f)) (λ guards l f. ap (λ m. m.guards) f.1)) (λ captures l f. ap (λ m. m.captures) f.1.1)) (λ high l f. ap (λ m. m.high) f.1.1.1)) (λ low l f. ap (λ m. m.low) f.1.1.1.1)) (λ simdlen l f. ap (λ m. m.simdlen) f.1.1.1.1.1)

pub code_law : {R : Type 0} (place : Place) → IsCodec (code {R = R} place)
code_law place =
    field_law (λ c. c.routine.front) (front place) _ (front_law place) (λ front.
    field_law (λ c. c.loops) (list (number 2) (loop_site place)) _ (list_law (number 2) (loop_site place) (number_law 2) (loop_law place)) (λ loops.
    field_law (λ c. c.routine.instrs) instructions _ instructions_law (λ instrs.
    given_law _) (λ instrs c f. ap (λ d. d.routine.instrs) f)) (λ loops c f. ap (λ d. d.loops) f.1)) (λ front c f. ap (λ d. d.routine.front) f.1.1)
