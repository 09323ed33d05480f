use Rattle.vk_joins_laws.proofs.Levels.{deeper}
use Rattle.vk_joins_laws.proofs.laws.depth_of_entries_is_of_no_matter.Goals as goal

pub returns : goal.returns
returns c = deeper
