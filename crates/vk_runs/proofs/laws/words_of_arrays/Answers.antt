use Rattle.vk_runs.proofs.Cells.{cells_kept}
use Rattle.vk_runs.proofs.laws.words_of_arrays.Goals as goal

pub returns : goal.returns
returns c = cells_kept
