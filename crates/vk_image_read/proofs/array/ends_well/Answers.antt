use Rattle.vk_object.proofs.Order.{last_word}
use Rattle.vk_image_read.proofs.array.ends_well.Goals as goal

pub returns-in-len1-up : goal.returns-in-len1-up
returns-in-len1-up c = last_word c.args.elements.now _ c.in-len1-up.len_at_least
