use Rattle.std.proofs.Common.{arith}
use Rattle.vk_image_codec.specs.Rows.{rows_format, rows_left}
use Rattle.vk_image_codec.specs.Standing.{Stands}
use Rattle.vk_image_codec.proofs.Feeding.{came_first, first_field, fresh}
use Rattle.vk_image_codec.proofs.feed.ImageFeed.new.Goals as goal

pub returns : goal.returns
unfolding Stands
returns c = record { stands = fresh c.new.result.fields c.new-2.result c.new.ensures.start c.new-2.ensures.fed (c.new-2.ensures.stands rows_format 8 (omega arith) first_field) }

pub invariant_of-result-clause-came : goal.invariant_of-result-clause-came
invariant_of-result-clause-came c =
    let s = c.new.result.fields in
    let p = c.new-2.result in
    came_first (rows_left s p.at) p (fresh s p c.new.ensures.start c.new-2.ensures.fed (c.new-2.ensures.stands rows_format 8 (omega arith) first_field))
