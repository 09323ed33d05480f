use Rattle.std.proofs.Common.{◌∙◌, refl}
use Rattle.vk_object_read.proofs.function.FunctionFeed.code_feed.Goals as goal

pub returns : goal.returns
returns g c = λ at next. c.new.ensures at next ∙ rw (c.len-params.ensures.length) refl
