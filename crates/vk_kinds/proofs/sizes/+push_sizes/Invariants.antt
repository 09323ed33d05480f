use Rattle.std.proofs.Common.{length}
use Rattle.vk_kinds.proofs.sizes.+push_sizes.Given as goal

abbrev pub decreases-push_sizes : goal.decreases-push_sizes
decreases-push_sizes l = length l.types.now
