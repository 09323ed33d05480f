use Rattle.std.proofs.Common.{refl}
use Rattle.vk_pieces.proofs.Stands.{fresh}
use Rattle.vk_pieces.proofs.pieces.Pieces.new.Goals as goal

pub returns-clause-stands : goal.returns-clause-stands
returns-clause-stands g c = λ f width wide is. fresh f width _ wide is refl refl c.new.ensures.items
