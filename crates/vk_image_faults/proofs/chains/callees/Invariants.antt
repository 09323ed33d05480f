use Rattle.std.proofs.Common.{◌≡◌}
use Rattle.vk_object.specs.Images.{is_within}
use Rattle.vk_image_format.specs.Values.{tables_of}
use Rattle.vk_image.specs.Inner.Rounds.{is_told}
use Rattle.vk_image_faults.proofs.chains.callees.Given as goal

-- what the row says is so
abbrev pub invariant-loop-depth : goal.invariant-loop-depth
invariant-loop-depth l = is_told l.row.items ≡ is_within (tables_of l.image) l.depth
