use Rattle.std.proofs.Common.{length}
use Rattle.vk_one_return.proofs.form.+are_integers.Given as goal

abbrev pub decreases-are_integers : goal.decreases-are_integers
decreases-are_integers l = length l.params.now
