use Rattle.std.proofs.Common.{length}
use Rattle.vk_flat_pointers.proofs.homes.+home_named.Given as goal

abbrev pub decreases-home_named : goal.decreases-home_named
decreases-home_named l = length l.names.now
