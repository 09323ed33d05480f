use Rattle.vk_image_codec.specs.Rows.{rows_format, rows_left}
use Rattle.vk_image_codec.specs.Standing.{Stands}
use Rattle.vk_image_codec.proofs.Feeding.{refused, tables_valid}
use Rattle.vk_image_codec.proofs.feed.ImageFeed.end.Goals as goal

pub returns-in-Err : goal.returns-in-Err
unfolding Stands
returns-in-Err c = λ bytes h. refused c.in-Err.fail c.args.self.rows.fields.image bytes (c.in-Err.ensures rows_format bytes h)

pub image-requires : goal.image-requires
image-requires c =
    let s = c.args.self in
    tables_valid s.rows.fields.image (rows_left s.rows.fields s.pieces.at) s.pieces (λ bytes h. c.in-Ok.ensures rows_format bytes h) s.came

pub returns : goal.returns
unfolding Stands
returns c = λ bytes h. (c.args.self.rows.fields.image, c.in-Ok.ensures rows_format bytes h, c.in_ok-image-in-Ok.ensures)
