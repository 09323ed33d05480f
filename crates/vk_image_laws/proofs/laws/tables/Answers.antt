use Rattle.vk_image_laws.proofs.Again.{tables_again}
use Rattle.vk_image_laws.proofs.Ends.{tables_image}
use Rattle.vk_image_laws.proofs.laws.tables.Goals as goal

pub returns : goal.returns
returns c = record { image = tables_image; again = λ i h. tables_again i h.0 }
