use Rattle.vk_image_faults.specs.Inner.Told.{code_size}
use Rattle.vk_image_faults.proofs.lengths.code_size.Goals as goal

pub returns : goal.returns
unfolding code_size
returns c = c.code_length.ensures
