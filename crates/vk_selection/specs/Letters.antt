-- The letters: what they are compiled for, and which variants an image for one uses.
use Rattle.std.specs.Prelude.{Bool, true, false}
use Rattle.vk_kinds.specs.declared.kinds.Isa.{Isa}
use Rattle.vk_kinds.specs.declared.kinds.Isa.TheVariants.{B, C, D, E, N, S}
use Rattle.vk_kinds.specs.declared.kinds.Target.{Target}
use Rattle.vk_kinds.specs.declared.kinds.Target.TheVariants.{X86, Arm}

-- b to e are letters of x86-64, n and s of AArch64
abbrev pub target_of : Isa → Target
target_of B = X86
target_of C = X86
target_of D = X86
target_of E = X86
target_of N = Arm
target_of S = Arm

-- an image uses variants of its letter and of the letters before it, of the same target
abbrev pub uses : (image letter : Isa) → Bool
uses B B = true
uses C B = true
uses C C = true
uses D B = true
uses D C = true
uses D D = true
uses E B = true
uses E C = true
uses E D = true
uses E E = true
uses N N = true
uses S N = true
uses S S = true
uses _ _ = false
