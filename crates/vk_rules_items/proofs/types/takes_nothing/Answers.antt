use Rattle.vk_rules_items.proofs.Parameters.{none_taken}
use Rattle.vk_rules_items.proofs.types.takes_nothing.Goals as goal

pub returns-in-len1-up : goal.returns-in-len1-up
returns-in-len1-up c = none_taken _ c.in-len1-up.len_at_least
