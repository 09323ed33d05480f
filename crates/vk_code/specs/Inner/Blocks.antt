-- One step through the instructions of a block.
use Rattle.std.specs.Prelude.{◌≡◌, ℕ, zero, ◌+◌, ◌-◌, ◌<◌, List, ◌++◌, drop, Option, Some}
use Rattle.std.specs.Option.{option_map}
use Rattle.vk_code.specs.declared.blocks.Step.{Step}
use Rattle.vk_code.specs.declared.blocks.Step.TheVariants.{Bad, Next, Block}
use Rattle.vk_code.specs.declared.instruction.Instr.{Instr}
use Rattle.vk_code.specs.Listing.{Routine}
use Rattle.vk_code.specs.Tests.{first_bad}
use Rattle.vk_code.specs.Valid.{Environment, instr_verdicts}

-- the place of the first of `count` instructions that is not good
abbrev pub bad_among : Environment → Routine → ℕ → List Instr → ℕ → Option ℕ
bad_among e c room is count = first_bad (instr_verdicts e c room is zero count)

-- the first of `count` instructions is not good, or it is passed, or it begins a block of so many
abbrev pub IsStep : Environment → Routine → ℕ → List Instr → ℕ → Step → Type 0
IsStep e c room is count Bad = bad_among e c room is count ≡ Some 0
IsStep e c room is count Next = bad_among e c room is count ≡ option_map (λ n. n + 1) (bad_among e c room (drop 1 is) (count - 1))
IsStep e c room is count (Block size) = (size < count) × (0 < room) × (bad_among e c room is count
    ≡ option_map (λ n. n + 1) (first_bad (instr_verdicts e c (room - 1) (drop 1 is) zero size ++ instr_verdicts e c room (drop 1 is) size (count - 1 - size))))
