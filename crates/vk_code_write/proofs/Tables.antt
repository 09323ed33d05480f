-- What the code writes is what the tables say.
use Rattle.std.proofs.Common.{◌≡◌, ℕ, Option, List, [], ◌++◌, flat_map, length, map, refl, ap, ◌∙◌, append-nil}
use Rattle.std.proofs.lemmas.List.{length-map}
use Rattle.vk_kinds.specs.declared.kinds.Kind.{Kind}
use Rattle.vk_kinds.specs.declared.kinds.Kind.TheVariants as kinds
use Rattle.vk_kinds.specs.declared.kinds.Step.TheVariants as steps
use Rattle.vk_kinds.specs.declared.kinds.Param.{Param}
use Rattle.vk_kinds.specs.declared.heads.CType.{CType}
use Rattle.vk_code.specs.declared.code.Shape.{Shape}
use Rattle.vk_code.specs.declared.code.Shape.TheVariants as shapes
use Rattle.byteorder.specs.Endian.{little_bytes}
use Rattle.vk_code.specs.declared.instruction.Instr.{Instr}
use Rattle.vk_code.specs.declared.code.SlotArg.{SlotArg}
use Rattle.vk_code.specs.Listing.{CallSite, Listing, LoopBody, own, numbered, Routine, SimdSite}
use Rattle.vk_format.specs.Codec.{number, list}
use Rattle.vk_format.proofs.Inverse.{flat_all, list_written}
use Rattle.vk_code_format.specs.Codes.{Place, in_object, in_image, argument, slot, front, routine, body, loop_site, instructions, code}
use Rattle.vk_code_format.specs.Fields.{bit, or_none}
use Rattle.vk_code_format.specs.Parameters.{kind_row, param, param_row}
use Rattle.vk_code_format.specs.Values.{arg_row, slot_row, routine_row, body_row, loop_row, code_row}
use Rattle.vk_code_write.specs.declared.written.FileKind.{FileKind}
use Rattle.vk_code_write.specs.declared.written.FileKind.TheVariants.{Object, Image}
use Rattle.vk_code_write.specs.Inner.Bytes.{arg_bytes, guard_bytes, instrs_bytes, kind_bytes, slot_bytes, slot_head, front_bytes, routine_bytes, body_bytes, loop_bytes, code_bytes, param_bytes, type_bytes}

abbrev pub file_of : Place → FileKind
file_of (in_object functions params) = Object
file_of (in_image codes) = Image

-- ---- parameters

param_by : (R : Type 0) (t : Option CType) (k : Kind) (align : Option ℕ) → (param {R = R} t).write (kind_row k align) ≡ kind_bytes k ++ little_bytes 4 (or_none 0 align)
param_by R t kinds.Vector align = refl
param_by R t kinds.Uniform align = refl
param_by R t (kinds.Linear steps.One) align = refl
param_by R t (kinds.Linear (steps.By n)) align = refl
param_by R t (kinds.Linear (steps.Arg q)) align = refl
param_by R t (kinds.Ref steps.One) align = refl
param_by R t (kinds.Ref (steps.By n)) align = refl
param_by R t (kinds.Ref (steps.Arg q)) align = refl
param_by R t (kinds.Val steps.One) align = refl
param_by R t (kinds.Val (steps.By n)) align = refl
param_by R t (kinds.Val (steps.Arg q)) align = refl
param_by R t (kinds.Uval steps.One) align = refl
param_by R t (kinds.Uval (steps.By n)) align = refl
param_by R t (kinds.Uval (steps.Arg q)) align = refl

pub param_written : (R : Type 0) (t : Option CType) (p : Param) → (param {R = R} t).write (param_row p) ≡ param_bytes p
param_written R t p = param_by R t p.kind p.align

-- ---- calls

arg_by : (R : Type 0) (reg : ℕ) (s : Shape) → (argument {R = R}).write (arg_row (record { reg = reg; shape = s })) ≡ arg_bytes (record { reg = reg; shape = s })
arg_by R reg shapes.Vector = refl
arg_by R reg shapes.Uniform = refl
arg_by R reg (shapes.By n) = refl
arg_by R reg (shapes.Along p) = refl
arg_by R reg (shapes.Literal n) = refl
arg_by R reg (shapes.Same p) = refl

arg_written : (R : Type 0) (a : SlotArg) → (argument {R = R}).write (arg_row a) ≡ arg_bytes a
arg_written R a = arg_by R a.reg a.shape

args_written : (R : Type 0) (xs : List SlotArg) → flat_map (argument {R = R}).write (map arg_row xs) ++ [] ≡ flat_map arg_bytes xs
args_written R xs = append-nil (flat_map (argument {R = R}).write (map arg_row xs)) ∙ flat_all (argument {R = R}) arg_row arg_bytes (arg_written R) xs

slot_written : (R : Type 0) (place : Place) (s : CallSite) → (slot {R = R} place).write (slot_row s) ≡ slot_bytes (file_of place) s
slot_written R (in_object functions params) s =
    ap (λ n. little_bytes 4 s.function ++ (little_bytes 1 n ++ (little_bytes 1 (bit s.always) ++ (little_bytes 2 (or_none 65535 s.result) ++ (flat_map (argument {R = R}).write (map arg_row s.args) ++ []))))) (length-map s.args arg_row)
    ∙ ap (λ ys. slot_head Object s ++ (little_bytes 1 (bit s.always) ++ (little_bytes 2 (or_none 65535 s.result) ++ ys))) (args_written R s.args)
slot_written R (in_image codes) s =
    ap (λ ys. slot_head Image s ++ (little_bytes 1 (bit s.always) ++ (little_bytes 2 (or_none 65535 s.result) ++ ys))) (args_written R s.args)

-- ---- code

front_written : (R : Type 0) (place : Place) (c : Routine) → (front {R = R} place).write (routine_row c).front ≡ front_bytes (file_of place) c
front_written R (in_object functions params) c =
    ap (λ ys. little_bytes 1 (bit c.lane_code) ++ (little_bytes 2 (or_none 65535 c.result) ++ (little_bytes 2 (length c.regs) ++ (flat_map type_bytes c.regs ++ (little_bytes 2 c.masks ++ ys)))))
    (append-nil ((list (number 2) (slot {R = R} (in_object functions params))).write (map slot_row c.slots)) ∙ list_written 2 (slot {R = R} (in_object functions params)) slot_row (slot_bytes Object) (slot_written R (in_object functions params)) c.slots)
front_written R (in_image codes) c =
    ap (λ ys. little_bytes 1 (bit c.lane_code) ++ (little_bytes 2 (or_none 65535 c.result) ++ (little_bytes 2 c.params ++ (little_bytes 2 (length c.regs) ++ (flat_map type_bytes c.regs ++ (little_bytes 2 c.masks ++ ys))))))
    (append-nil ((list (number 2) (slot {R = R} (in_image codes))).write (map slot_row c.slots)) ∙ list_written 2 (slot {R = R} (in_image codes)) slot_row (slot_bytes Image) (slot_written R (in_image codes)) c.slots)

instrs_written : (R : Type 0) (is : List Instr) → (instructions {R = R}).write is ++ [] ≡ instrs_bytes is
instrs_written R is = append-nil ((instructions {R = R}).write is)

routine_written : (R : Type 0) (c : Routine) → (routine {R = R} (in_object 0 0)).write (routine_row c) ≡ routine_bytes c
routine_written R c =
    ap (λ xs. xs ++ (little_bytes 2 0 ++ ((instructions {R = R}).write c.instrs ++ []))) (front_written R (in_object 0 0) c)
    ∙ ap (λ ys. front_bytes Object c ++ (little_bytes 2 0 ++ ys)) (instrs_written R c.instrs)

body_written : (R : Type 0) (place : Place) (captures : ℕ) (b : LoopBody) → (body {R = R} place captures).write (body_row b) ≡ body_bytes b
body_written R place captures (own r) = routine_written ℕ r
body_written R place captures (numbered n) = refl

loop_written : (R : Type 0) (place : Place) (l : SimdSite) → (loop_site {R = R} place).write (loop_row l) ≡ loop_bytes (file_of place) l
loop_written R place l =
    ap (λ ys. little_bytes 2 (or_none 0 l.simdlen) ++ (little_bytes 2 l.low ++ (little_bytes 2 l.high ++ (little_bytes 2 (length l.captures) ++ (flat_map (little_bytes 2) l.captures
    ++ (little_bytes 2 (length l.guards) ++ (flat_map guard_bytes l.guards ++ ys))))))) (append-nil ((body {R = R} place (length l.captures)).write (body_row l.body)) ∙ body_written R place (length l.captures) l.body)

pub code_written : (R : Type 0) (place : Place) (c : Listing) → (code {R = R} place).write (code_row c) ≡ code_bytes (file_of place) c
code_written R place c =
    ap (λ xs. xs ++ ((list (number 2) (loop_site {R = R} place)).write (map loop_row c.loops) ++ ((instructions {R = R}).write c.routine.instrs ++ []))) (front_written R place c.routine)
    ∙ ap (λ xs. front_bytes (file_of place) c.routine ++ (xs ++ ((instructions {R = R}).write c.routine.instrs ++ []))) (list_written 2 (loop_site {R = R} place) loop_row (loop_bytes (file_of place)) (loop_written R place) c.loops)
    ∙ ap (λ ys. front_bytes (file_of place) c.routine ++ (little_bytes 2 (length c.loops) ++ (flat_map (loop_bytes (file_of place)) c.loops ++ ys))) (instrs_written R c.routine.instrs)
