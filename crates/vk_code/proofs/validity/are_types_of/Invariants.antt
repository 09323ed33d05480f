use Rattle.std.proofs.Common.{◌≡◌, drop}
use Rattle.vk_code.specs.Listing.{routine_of}
use Rattle.vk_code.specs.Tests.{pairs}
use Rattle.vk_code.specs.Valid.{is_type_of}
use Rattle.vk_code.proofs.validity.are_types_of.Given as goal

-- the members so far pass
abbrev pub invariant-loop-at : goal.invariant-loop-at
invariant-loop-at l = pairs (is_type_of (routine_of l.code)) l.types l.registers ≡ pairs (is_type_of (routine_of l.code)) (drop l.at l.types) (drop l.at l.registers)
