use Rattle.vk_image_laws.proofs.Again.{bytes_again}
use Rattle.vk_image_laws.proofs.laws.written_again.Goals as goal

pub returns : goal.returns
returns c = record { bytes = bytes_again }
