-- Words of numbers.
use Rattle.std.proofs.Common.{◌≡◌, ℕ, ◌^◌, ◌<◌, rules}
use Rattle.vk_types.specs.declared.types.Ty.{Ty}
use Rattle.vk_types.specs.Numbers.{number_of, word_of}

pub word_back : (t : Ty) (w : ℕ) → w < 2 ^ 64 → word_of (number_of t w) ≡ w
word_back t w h = search rules
