use Rattle.vk_parse.proofs.Facts.{one_items, not_both}
use Rattle.vk_parse.proofs.laws.one_answer.Goals as goal

pub returns : goal.returns
returns c = record { items = one_items; not_both = not_both }
