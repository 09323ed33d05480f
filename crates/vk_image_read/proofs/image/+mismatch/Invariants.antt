use Rattle.std.proofs.Common.{length}
use Rattle.vk_image_read.proofs.image.+mismatch.Given as goal

abbrev pub decreases-mismatch : goal.decreases-mismatch
decreases-mismatch l = length l.wanted.now
