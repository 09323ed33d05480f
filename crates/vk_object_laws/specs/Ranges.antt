-- The numbers of an object are in the ranges of their types, as those of each value in code are; and there are at most 4294967295
-- symbols.
use Rattle.std.specs.Prelude.{◌^◌, ◌==◌, nat_lt, Bool, true, ◌&&◌, ℤ, pos, negsuc, length, Option, Some, None}
use Rattle.std.specs.List.{list_all}
use Rattle.vk_types.specs.declared.types.Word.{Word}
use Rattle.vk_kinds.specs.declared.kinds.Kind.{Kind}
use Rattle.vk_kinds.specs.declared.kinds.Kind.TheVariants as kind
use Rattle.vk_kinds.specs.declared.kinds.Param.{Param}
use Rattle.vk_kinds.specs.declared.kinds.Step.{Step}
use Rattle.vk_kinds.specs.declared.kinds.Step.TheVariants as step
use Rattle.vk_kinds.specs.Sizes.{SignatureTree}
use Rattle.vk_code.specs.declared.code.Shape.{Shape}
use Rattle.vk_code.specs.declared.code.Shape.TheVariants as shape
use Rattle.vk_code.specs.declared.code.SlotArg.{SlotArg}
use Rattle.vk_code.specs.declared.instruction.Instr.{Instr}
use Rattle.vk_code.specs.Listing.{CallSite, Listing, LoopBody, own, numbered, Routine, SimdSite}
use Rattle.vk_object.specs.Objects.{CodeLists, DataLists, FunctionLists, ObjectLists}

-- a number of 32 bits with a sign
abbrev pub is_signed : ℤ → Bool
is_signed (pos n) = nat_lt n (2 ^ 31)
is_signed (negsuc n) = nat_lt n (2 ^ 31)

-- ---- directives

abbrev pub step_in_range : Step → Bool
step_in_range step.One = true
step_in_range (step.By n) = is_signed n
step_in_range (step.Arg q) = nat_lt q 256

abbrev pub kind_in_range : Kind → Bool
kind_in_range kind.Vector = true
kind_in_range kind.Uniform = true
kind_in_range (kind.Linear s) = step_in_range s
kind_in_range (kind.Ref s) = step_in_range s
kind_in_range (kind.Val s) = step_in_range s
kind_in_range (kind.Uval s) = step_in_range s

abbrev pub param_in_range : Param → Bool
param_in_range p = kind_in_range p.kind

abbrev pub directive_in_range : SignatureTree → Bool
directive_in_range s = list_all param_in_range s.params

-- ---- codes

abbrev pub shape_in_range : Shape → Bool
shape_in_range shape.Vector = true
shape_in_range shape.Uniform = true
shape_in_range (shape.By n) = is_signed n
shape_in_range (shape.Along p) = nat_lt p 256
shape_in_range (shape.Literal n) = is_signed n
shape_in_range (shape.Same p) = nat_lt p 256

abbrev pub arg_in_range : SlotArg → Bool
arg_in_range a = shape_in_range a.shape

abbrev pub call_in_range : CallSite → Bool
call_in_range s = list_all arg_in_range s.args

abbrev pub instr_in_range : Instr → Bool
instr_in_range i = nat_lt i.op 256 && nat_lt i.ty 256 && nat_lt i.m 65536 && nat_lt i.d 65536 && nat_lt i.a 65536 && nat_lt i.imm (2 ^ 64)

abbrev pub routine_in_range : Routine → Bool
routine_in_range r = list_all call_in_range r.slots && list_all instr_in_range r.instrs

abbrev pub body_in_range : LoopBody → Bool
body_in_range (own r) = routine_in_range r
body_in_range (numbered n) = true

abbrev pub loop_in_range : SimdSite → Bool
loop_in_range l = body_in_range l.body

-- with its number of loops
abbrev pub code_in_range : Listing → Bool
code_in_range c = routine_in_range c.routine && list_all loop_in_range c.loops && (c.routine.loops == length c.loops)

abbrev pub codes_in_range : Option CodeLists → Bool
codes_in_range None = true
codes_in_range (Some c) = code_in_range c.scalar && list_all code_in_range c.lanes

-- ---- the object

abbrev pub function_in_range : FunctionLists → Bool
function_in_range f = list_all directive_in_range f.directives && codes_in_range f.codes

abbrev pub word_in_range : Word → Bool
word_in_range w = nat_lt w.0 (2 ^ 64)

abbrev pub data_in_range : DataLists → Bool
data_in_range d = nat_lt d.length (2 ^ 32) && list_all word_in_range d.elements

abbrev pub is_in_range : ObjectLists → Bool
is_in_range o =
    nat_lt (length o.symbols) (2 ^ 32) && nat_lt (length o.objects) (2 ^ 32) && nat_lt (length o.functions) (2 ^ 32)
    && list_all data_in_range o.objects && list_all function_in_range o.functions
