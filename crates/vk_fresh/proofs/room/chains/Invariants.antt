use Rattle.std.proofs.Common.{◌≡◌}
use Rattle.vk_steps.specs.Places.{image_tables}
use Rattle.vk_image.specs.Inner.Rounds.{cells_at, chain_at}
use Rattle.vk_fresh.proofs.room.chains.Given as goal

-- what the row says is so
abbrev pub invariant-loop-depth : goal.invariant-loop-depth
invariant-loop-depth l = cells_at l.row.items ≡ chain_at (image_tables l.image) l.depth
