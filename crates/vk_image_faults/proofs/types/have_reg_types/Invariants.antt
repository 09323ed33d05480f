use Rattle.std.proofs.Common.{◌≡◌, drop}
use Rattle.vk_code.specs.Tests.{pairs}
use Rattle.vk_image_faults.specs.Inner.Types.{has_reg_type}
use Rattle.vk_image_faults.proofs.types.have_reg_types.Given as goal

-- the registers so far have their types
abbrev pub invariant-loop-at : goal.invariant-loop-at
invariant-loop-at l = pairs (has_reg_type l.regs) l.registers l.types ≡ pairs (has_reg_type l.regs) (drop l.at l.registers) (drop l.at l.types)
