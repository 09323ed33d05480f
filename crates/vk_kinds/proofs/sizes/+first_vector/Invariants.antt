use Rattle.std.proofs.Common.{length}
use Rattle.vk_kinds.proofs.sizes.+first_vector.Given as goal

abbrev pub decreases-first_vector : goal.decreases-first_vector
decreases-first_vector l = length l.types.now
