use Rattle.vk_rules_items.proofs.Parameters.{one_taken}
use Rattle.vk_rules_items.proofs.types.takes_long.Goals as goal

pub returns-in-len2-up : goal.returns-in-len2-up
returns-in-len2-up c = one_taken _ _ c.in-len2-up.len_at_least
