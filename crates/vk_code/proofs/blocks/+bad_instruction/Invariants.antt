use Rattle.std.proofs.Common.{◌≡◌, ◌+◌, drop}
use Rattle.std.specs.Option.{option_map}
use Rattle.vk_code.specs.Inner.Blocks.{bad_among}
use Rattle.vk_code.specs.Listing.{routine_of}
use Rattle.vk_code.specs.Valid.{environment_of}
use Rattle.vk_code.proofs.blocks.+bad_instruction.Given as goal

abbrev pub decreases-bad_instruction : goal.decreases-bad_instruction
decreases-bad_instruction l = l.room

-- the instructions so far are good
abbrev pub invariant-loop-left : goal.invariant-loop-left
invariant-loop-left l = record {
  left : l.at + l.left ≡ l.fn.from + l.fn.count;
  good : option_map (λ n. l.fn.from + n) (bad_among (environment_of l.env) (routine_of l.code) l.room (drop l.fn.from (routine_of l.code).instrs) l.fn.count)
      ≡ option_map (λ n. l.at + n) (bad_among (environment_of l.env) (routine_of l.code) l.room (drop l.at (routine_of l.code).instrs) l.left);
}

abbrev pub decreases-loop-left : goal.decreases-loop-left
decreases-loop-left l = l.left
