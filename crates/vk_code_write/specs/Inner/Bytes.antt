-- The bytes of each part, as the code writes them.
use Rattle.std.specs.Prelude.{ℕ, ◌++◌, ◌%◌, ◌^◌, List, [], length}
use Rattle.std.specs.List.{flat_map}
use Rattle.byteorder.specs.Endian.{little_bytes}
use Rattle.vk_types.specs.declared.types.Ty.{Ty}
use Rattle.vk_types.specs.declared.types.Word.{Word}
use Rattle.vk_kinds.specs.declared.heads.CType.{CType}
use Rattle.vk_kinds.specs.declared.kinds.Kind.{Kind}
use Rattle.vk_kinds.specs.declared.kinds.Kind.TheVariants as kinds
use Rattle.vk_kinds.specs.declared.kinds.Step.{Step}
use Rattle.vk_kinds.specs.declared.kinds.Step.TheVariants as steps
use Rattle.vk_kinds.specs.declared.kinds.Param.{Param}
use Rattle.vk_kinds.specs.Sizes.{bytes_of}
use Rattle.vk_kinds.specs.Types.{ctype_number}
use Rattle.vk_code.specs.declared.code.Guard.{Guard}
use Rattle.vk_code.specs.declared.code.Shape.{Shape}
use Rattle.vk_code.specs.declared.code.Shape.TheVariants as shapes
use Rattle.vk_code.specs.declared.code.SlotArg.{SlotArg}
use Rattle.vk_code.specs.declared.instruction.Instr.{Instr}
use Rattle.vk_code.specs.Listing.{CallSite, Listing, LoopBody, own, numbered, Routine, SimdSite}
use Rattle.vk_code_format.specs.Codes.{instr_bytes}
use Rattle.vk_code_format.specs.Fields.{bit, or_none}
use Rattle.vk_code_format.specs.Parameters.{signed_bits}
use Rattle.vk_code_write.specs.declared.written.FileKind.{FileKind}
use Rattle.vk_code_write.specs.declared.written.FileKind.TheVariants.{Object, Image}

abbrev pub numbers_bytes : ℕ → ℕ → List ℕ
numbers_bytes kind value = little_bytes 1 kind ++ little_bytes 4 value

-- ---- parameters

abbrev pub step_bytes : Step → List ℕ
step_bytes steps.One = numbers_bytes 2 1
step_bytes (steps.By n) = numbers_bytes 2 (signed_bits n)
step_bytes (steps.Arg q) = numbers_bytes 3 q

abbrev pub kind_bytes : Kind → List ℕ
kind_bytes kinds.Vector = numbers_bytes 0 0
kind_bytes kinds.Uniform = numbers_bytes 1 0
kind_bytes (kinds.Linear s) = step_bytes s
kind_bytes (kinds.Ref s) = step_bytes s
kind_bytes (kinds.Val s) = step_bytes s
kind_bytes (kinds.Uval s) = step_bytes s

abbrev pub param_bytes : Param → List ℕ
param_bytes p = kind_bytes p.kind ++ little_bytes 4 (or_none 0 p.align)

-- ---- elements

abbrev pub element_bytes : Ty → Word → List ℕ
element_bytes t w = little_bytes (bytes_of t) (w.0 % 256 ^ bytes_of t)

abbrev pub elements_bytes : Ty → List Word → List ℕ
elements_bytes t ws = flat_map (element_bytes t) ws

-- a count first
abbrev pub given_bytes : Ty → List Word → List ℕ
given_bytes t ws = little_bytes 4 (length ws) ++ elements_bytes t ws

-- ---- texts

abbrev pub text_bytes : List ℕ → List ℕ
text_bytes t = little_bytes 2 (length t) ++ t

-- ---- calls

abbrev pub shape_bytes : Shape → List ℕ
shape_bytes shapes.Vector = numbers_bytes 0 0
shape_bytes shapes.Uniform = numbers_bytes 1 0
shape_bytes (shapes.By n) = numbers_bytes 2 (signed_bits n)
shape_bytes (shapes.Along p) = numbers_bytes 3 p
shape_bytes (shapes.Literal n) = numbers_bytes 4 (signed_bits n)
shape_bytes (shapes.Same p) = numbers_bytes 5 p

abbrev pub arg_bytes : SlotArg → List ℕ
arg_bytes a = little_bytes 2 a.reg ++ shape_bytes a.shape

abbrev pub slot_head : FileKind → CallSite → List ℕ
slot_head Object s = little_bytes 4 s.function ++ little_bytes 1 (length s.args)
slot_head Image s = little_bytes 1 s.function

abbrev pub slot_bytes : FileKind → CallSite → List ℕ
slot_bytes file s = slot_head file s ++ (little_bytes 1 (bit s.always) ++ (little_bytes 2 (or_none 65535 s.result) ++ flat_map arg_bytes s.args))

abbrev pub slots_bytes : FileKind → List CallSite → List ℕ
slots_bytes file sites = little_bytes 2 (length sites) ++ flat_map (slot_bytes file) sites

-- ---- code

abbrev pub params_bytes : FileKind → ℕ → List ℕ
params_bytes Object params = []
params_bytes Image params = little_bytes 2 params

abbrev pub type_bytes : CType → List ℕ
type_bytes t = little_bytes 1 (ctype_number t)

abbrev pub front_bytes : FileKind → Routine → List ℕ
front_bytes file c =
    little_bytes 1 (bit c.lane_code) ++ (little_bytes 2 (or_none 65535 c.result) ++ (params_bytes file c.params
    ++ (little_bytes 2 (length c.regs) ++ (flat_map type_bytes c.regs ++ (little_bytes 2 c.masks
    ++ slots_bytes file c.slots)))))

abbrev pub instrs_bytes : List Instr → List ℕ
instrs_bytes is = little_bytes 4 (length is) ++ flat_map instr_bytes is

abbrev pub routine_bytes : Routine → List ℕ
routine_bytes c = front_bytes Object c ++ (little_bytes 2 0 ++ instrs_bytes c.instrs)

abbrev pub guard_bytes : Guard → List ℕ
guard_bytes g = little_bytes 2 g.first ++ little_bytes 2 g.second

abbrev pub body_bytes : LoopBody → List ℕ
body_bytes (own r) = routine_bytes r
body_bytes (numbered n) = little_bytes 4 n

abbrev pub loop_bytes : FileKind → SimdSite → List ℕ
loop_bytes file l =
    little_bytes 2 (or_none 0 l.simdlen) ++ (little_bytes 2 l.low ++ (little_bytes 2 l.high
    ++ (little_bytes 2 (length l.captures) ++ (flat_map (little_bytes 2) l.captures
    ++ (little_bytes 2 (length l.guards) ++ (flat_map guard_bytes l.guards ++ body_bytes l.body))))))

abbrev pub loops_bytes : FileKind → List SimdSite → List ℕ
loops_bytes file sites = little_bytes 2 (length sites) ++ flat_map (loop_bytes file) sites

abbrev pub code_bytes : FileKind → Listing → List ℕ
code_bytes file c =
    front_bytes file c.routine ++ (loops_bytes file c.loops ++ instrs_bytes c.routine.instrs)
