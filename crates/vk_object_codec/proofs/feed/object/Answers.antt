use Rattle.std.proofs.lemmas.Result.{IfOk-weaker}
use Rattle.std.proofs.Common.{◌≡◌, sym}
use Rattle.vk_object_format.specs.Values.{object_of}
use Rattle.vk_object_write.specs.Lists.{object_lists}
use Rattle.vk_object_codec.specs.Objects.{StandsFor, are_valid}
use Rattle.vk_object_codec.proofs.feed.object.Goals as goal

pub object_of-requires : goal.object_of-requires
unfolding are_valid
object_of-requires c = record { valid = c.requires }

pub returns : goal.returns
unfolding StandsFor
returns c =
    IfOk-weaker c.object_of.result (λ object. object_lists object ≡ object_of c.args.tables.now) (λ object. object_of c.args.tables.now ≡ object_lists object) (λ object e. sym e) c.object_of.ensures.same
