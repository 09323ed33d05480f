use Rattle.std.proofs.lemmas.Result.{IfOk-weaker}
use Rattle.std.proofs.Common.{◌≡◌, sym}
use Rattle.vk_image_format.specs.Values.{tables_of}
use Rattle.vk_image_write.specs.Lists.{image_lists}
use Rattle.vk_image_codec.specs.Images.{StandsFor, are_valid}
use Rattle.vk_image_codec.proofs.feed.image.Goals as goal

pub image_of-requires : goal.image_of-requires
unfolding are_valid
image_of-requires c = record { valid = c.requires }

pub returns : goal.returns
unfolding StandsFor
returns c =
    IfOk-weaker c.image_of.result (λ image. image_lists image ≡ tables_of c.args.tables.now) (λ image. tables_of c.args.tables.now ≡ image_lists image) (λ image e. sym e) c.image_of.ensures.same
