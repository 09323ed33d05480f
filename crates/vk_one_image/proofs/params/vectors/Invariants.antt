use Rattle.std.proofs.Common.{◌≡◌, length}
use Rattle.vk_one_image.specs.Tables.{vectors}
use Rattle.vk_one_image.proofs.params.vectors.Given as goal

abbrev pub invariant-loop : goal.invariant-loop
invariant-loop l = (l.params.items ≡ vectors l.counter) × (length l.params.items ≡ l.counter)
