use Rattle.vk_meaning_laws.specs.Reach.{IsIn}
use Rattle.vk_meaning_laws.proofs.Locality.{reads_within}
use Rattle.vk_meaning_laws.proofs.laws.reads_within_reach.Goals as goal

pub returns : goal.returns
returns c units lane turns program fixed text d l ds cells = reads_within units lane turns program fixed text d l ds (IsIn cells)
