-- How many bytes rows have.
use Rattle.std.specs.Prelude.{nat_le, if◌then◌else◌}
use Rattle.std.proofs.Common.{◌≡◌, ℕ, ◌+◌, ◌-◌, ◌*◌, ◌==◌, take, flat_map, List, [], ◌∷◌, ◌++◌, length, refl, ap, sym, ◌∙◌, arith}
use Rattle.std.specs.List.{sum_by}
use Rattle.std.proofs.lemmas.List.{length-append}
use Rattle.std.proofs.lemmas.List.Sums.{sum_by-cons}
use Rattle.vk_code.specs.declared.code.Guard.{Guard}
use Rattle.vk_code.specs.declared.instruction.Instr.{Instr}
use Rattle.vk_kinds.specs.declared.heads.CType.{CType}
use Rattle.byteorder.specs.Endian.{little_bytes}
use Rattle.vk_format.specs.Codec.{list, number}
use Rattle.vk_format.proofs.Bytes.{length-little_bytes}
use Rattle.vk_code_format.specs.declared.rows.ArgRow.{ArgRow}
use Rattle.vk_code_format.specs.declared.rows.BodyRow.{BodyRow}
use Rattle.vk_code_format.specs.declared.rows.BodyRow.TheVariants.{Inline, Number}
use Rattle.vk_code_format.specs.declared.rows.CodeRow.{CodeRow}
use Rattle.vk_code_format.specs.declared.rows.FrontRow.{FrontRow}
use Rattle.vk_code_format.specs.declared.rows.LoopRow.{LoopRow}
use Rattle.vk_code_format.specs.declared.rows.RoutineRow.{RoutineRow}
use Rattle.vk_code_format.specs.declared.rows.SlotRow.{SlotRow}
use Rattle.vk_code_format.specs.Codes.{Place, in_object, in_image, argument, body_bytes, front, guard, instr_bytes, instructions, loop_site, parameter_count, routine, slot}
use Rattle.vk_code_format.specs.Fields.{value_type}
use Rattle.vk_code_format.specs.Places.{code_length, instrs_at, length_of, part_at, slots_at}
use Rattle.vk_code_rows.specs.Sums.{before_instrs, before_part, body_size, front_head, front_size, loop_size, routine_size, slot_head, slot_size, slots_size}

-- members of one length
alike : {A : Type 0} (f : A → List ℕ) (n : ℕ) → ((x : A) → length (f x) ≡ n) → (xs : List A) → length (flat_map f xs) ≡ n * length xs
alike f n same [] = omega arith
alike f n same (x ∷ xs) =
    let here = same x in
    let later = alike f n same xs in
    let joined = length-append (f x) (flat_map f xs) in
    omega (arith, here, later, joined)

-- members by the length of each
by_each : {A : Type 0} (f : A → List ℕ) (xs : List A) → length (flat_map f xs) ≡ sum_by (λ x. length (f x)) xs
by_each f [] = refl
by_each f (x ∷ xs) =
    length-append (f x) (flat_map f xs) ∙ ap (λ k. length (f x) + k) (by_each f xs) ∙ sym (sum_by-cons (λ y. length (f y)) x xs)

args_length : (xs : List ArgRow) → length (flat_map (argument {R = ℕ}).write xs) ≡ 7 * length xs
args_length xs = alike (argument {R = ℕ}).write 7 (λ x. simp (length-append, length-little_bytes)) xs

regs_length : (xs : List CType) → length (flat_map (value_type {R = ℕ}).write xs) ≡ 1 * length xs
regs_length xs = alike (value_type {R = ℕ}).write 1 (λ x. simp length-little_bytes) xs

captures_length : (xs : List ℕ) → length (flat_map (number {R = ℕ} 2).write xs) ≡ 2 * length xs
captures_length xs = alike (number {R = ℕ} 2).write 2 (λ x. simp length-little_bytes) xs

guards_length : (xs : List Guard) → length (flat_map (guard {R = ℕ}).write xs) ≡ 4 * length xs
guards_length xs = alike (guard {R = ℕ}).write 4 (λ x. simp (length-append, length-little_bytes)) xs

instrs_length : (xs : List Instr) → length (flat_map instr_bytes xs) ≡ 16 * length xs
instrs_length xs = alike instr_bytes 16 (λ x. simp (length-append, length-little_bytes)) xs

slot_bytes : (p : Place) (s : SlotRow) → length ((slot {R = ℕ} p).write s) ≡ slot_head p + 7 * length s.args
slot_bytes (in_object functions params) s = let args = args_length s.args in simp (length-append, length-little_bytes) (omega (arith, args))
slot_bytes (in_image codes) s = let args = args_length s.args in simp (length-append, length-little_bytes) (omega (arith, args))

-- the number of parameters, in an image
counted : (p : Place) (n : ℕ) → 9 + length ((parameter_count {R = ℕ} p).write n) ≡ front_head p
counted (in_object functions params) n = refl
counted (in_image codes) n = omega (arith, length-little_bytes 2 n)

front_bytes : (p : Place) (f : FrontRow) → length ((front {R = ℕ} p).write f) ≡ front_size p f + length_of (slot p) f.slots
front_bytes p f =
    let head = counted p f.params in
    let regs = regs_length f.regs in
    let slots = by_each (slot {R = ℕ} p).write f.slots in
    simp (length-append, length-little_bytes) (omega (arith, head, regs, slots))

-- code up to its slots, with so many bytes behind it
front_then : (p : Place) (f : FrontRow) (rest : List ℕ) (n : ℕ) → length rest ≡ n → length ((front {R = ℕ} p).write f ++ rest) ≡ front_size p f + length_of (slot p) f.slots + n
front_then p f rest n h = length-append ((front {R = ℕ} p).write f) rest ∙ ap (λ k. k + length rest) (front_bytes p f) ∙ ap (λ k. front_size p f + length_of (slot p) f.slots + k) h

-- instructions and their count
instrs_then : (xs : List Instr) → length ((instructions {R = ℕ}).write xs ++ []) ≡ 4 + 16 * length xs
instrs_then xs = let all = instrs_length xs in simp (length-append, length-little_bytes) (omega (arith, all))

routine_bytes : (r : RoutineRow) → length ((routine {R = ℕ} (in_object 0 0)).write r) ≡ front_size (in_object 0 0) r.front + length_of (slot (in_object 0 0)) r.front.slots + 6 + 16 * length r.instrs
routine_bytes r =
    let rest = (instructions {R = ℕ}).write r.instrs ++ [] in
    let behind : length (little_bytes 2 0 ++ rest) ≡ 2 + (4 + 16 * length r.instrs) = length-append (little_bytes 2 0) rest ∙ ap (λ k. 2 + k) (instrs_then r.instrs) in
    front_then (in_object 0 0) r.front (little_bytes 2 0 ++ rest) (2 + (4 + 16 * length r.instrs)) behind ∙ omega arith

loop_bytes : (p : Place) (l : LoopRow) → length ((loop_site {R = ℕ} p).write l) ≡ length (body_bytes l.body) + 10 + 2 * length l.captures + 4 * length l.guards
loop_bytes p l =
    let captures = captures_length l.captures in
    let guards = guards_length l.guards in
    simp (length-append, length-little_bytes) (omega (arith, captures, guards))

-- loops and their count
loops_then : (p : Place) (ls : List LoopRow) → length ((list (number {R = ℕ} 2) (loop_site p)).write ls) ≡ 2 + length_of (loop_site p) ls
loops_then p ls = length-append (little_bytes 2 (length ls)) (flat_map (loop_site {R = ℕ} p).write ls) ∙ ap (λ k. 2 + k) (by_each (loop_site {R = ℕ} p).write ls)

code_bytes : (p : Place) (c : CodeRow) → code_length p c ≡ instrs_at p c + 16 * length c.routine.instrs
code_bytes p c =
    let loops = (list (number {R = ℕ} 2) (loop_site p)).write c.loops in
    let rest = (instructions {R = ℕ}).write c.routine.instrs ++ [] in
    let behind : length (loops ++ rest) ≡ 2 + length_of (loop_site p) c.loops + (4 + 16 * length c.routine.instrs) =
    length-append loops rest ∙ ap (λ k. k + length rest) (loops_then p c.loops) ∙ ap (λ k. 2 + length_of (loop_site p) c.loops + k) (instrs_then c.routine.instrs) in
    front_then p c.routine.front (loops ++ rest) (2 + length_of (loop_site p) c.loops + (4 + 16 * length c.routine.instrs)) behind ∙ omega (arith, counted p c.routine.front.params)

-- ---- by name

pub slot_is : (p : Place) (s : SlotRow) → slot_size p s ≡ slot_head p + 7 * length s.args
unfolding slot_size
slot_is p s = slot_bytes p s

pub routine_is : (r : RoutineRow) → routine_size r ≡ front_size (in_object 0 0) r.front + slots_size (in_object 0 0) r.front.slots + 6 + 16 * length r.instrs
unfolding routine_size slot_size
routine_is r = routine_bytes r

body_is : (b : BodyRow) → length (body_bytes b) ≡ body_size b
unfolding routine_size
body_is (Inline r) = refl
body_is (Number n) = length-little_bytes 4 n

pub loop_is : (p : Place) (l : LoopRow) → loop_size p l ≡ body_size l.body + 10 + 2 * length l.captures + 4 * length l.guards
unfolding loop_size
loop_is p l = loop_bytes p l ∙ ap (λ k. k + 10 + 2 * length l.captures + 4 * length l.guards) (body_is l.body)

-- what is before the slots
head_is : (p : Place) (c : CodeRow) → slots_at p c ≡ front_size p c.routine.front
head_is p c = ap (λ k. k + length c.routine.front.regs) (counted p c.routine.front.params)

instrs_is : (p : Place) (c : CodeRow) → instrs_at p c ≡ before_instrs p c
unfolding slot_size loop_size
instrs_is p c = ap (λ k. k + length_of (slot p) c.routine.front.slots + 2 + length_of (loop_site p) c.loops + 4) (head_is p c)

pub code_is : (p : Place) (c : CodeRow) → code_length p c ≡ before_instrs p c + 16 * length c.routine.instrs
code_is p c = code_bytes p c ∙ ap (λ k. k + 16 * length c.routine.instrs) (instrs_is p c)

pub part_is : (p : Place) (c : CodeRow) (part : ℕ) → part_at p c part ≡ before_part p c part
unfolding slot_size loop_size
part_is p c part =
    let slots = length c.routine.front.slots in
    let loops = length c.loops in
    ap (λ (k : ℕ).
    if part == 0 then 0
    else (if nat_le part slots then k + length_of (slot p) (take (part - 1) c.routine.front.slots)
    else (if nat_le part (slots + loops) then k + length_of (slot p) c.routine.front.slots + 2 + length_of (loop_site p) (take (part - 1 - slots) c.loops)
    else k + length_of (slot p) c.routine.front.slots + 2 + length_of (loop_site p) c.loops + 4 + 16 * (part - 1 - slots - loops)))) (head_is p c)
