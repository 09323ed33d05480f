use Rattle.vk_kinds.proofs.Facts.{narrowest, widest}
use Rattle.vk_kinds.proofs.laws.narrowest_and_widest.Goals as goal

pub returns : goal.returns
returns c = record { narrowest = narrowest; widest = widest }
