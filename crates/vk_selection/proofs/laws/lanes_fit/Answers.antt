use Rattle.vk_selection.proofs.Fits.{vector_few, vector_some}
use Rattle.vk_selection.proofs.laws.lanes_fit.Goals as goal

pub returns : goal.returns
returns c = record { least = vector_some; most = vector_few }
