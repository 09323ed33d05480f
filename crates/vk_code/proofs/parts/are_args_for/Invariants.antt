use Rattle.std.proofs.Common.{◌≡◌, drop}
use Rattle.vk_code.specs.Listing.{routine_of}
use Rattle.vk_code.specs.Tests.{pairs}
use Rattle.vk_code.specs.Valid.{is_arg_for}
use Rattle.vk_code.proofs.parts.are_args_for.Given as goal

-- the members so far pass
abbrev pub invariant-loop-at : goal.invariant-loop-at
invariant-loop-at l = pairs (is_arg_for (routine_of l.code)) l.args l.params ≡ pairs (is_arg_for (routine_of l.code)) (drop l.at l.args) (drop l.at l.params)
