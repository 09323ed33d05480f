use Rattle.vk_construct_memory.proofs.Loading.{emits_stored}
use Rattle.vk_construct_memory.proofs.laws.stores_follow_values.Goals as goal

pub returns : goal.returns
returns c = emits_stored
