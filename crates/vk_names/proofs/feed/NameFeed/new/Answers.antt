use Rattle.std.proofs.Common.{rules, refl}
use Rattle.vk_names.proofs.StateAnswers.{begins}
use Rattle.vk_names.proofs.feed.NameFeed.new.Goals as goal

pub returns : goal.returns
returns c = begins _ refl (search rules)
