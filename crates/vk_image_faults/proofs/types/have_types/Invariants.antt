use Rattle.std.proofs.Common.{◌≡◌, drop}
use Rattle.vk_code.specs.Tests.{pairs}
use Rattle.vk_image_faults.specs.Inner.Types.{has_arg_type}
use Rattle.vk_image_faults.proofs.types.have_types.Given as goal

-- the arguments so far have their types
abbrev pub invariant-loop-at : goal.invariant-loop-at
invariant-loop-at l = pairs (has_arg_type l.regs) l.args l.types ≡ pairs (has_arg_type l.regs) (drop l.at l.args) (drop l.at l.types)
