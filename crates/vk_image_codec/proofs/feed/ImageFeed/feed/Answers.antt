use Rattle.std.proofs.Common.{arith}
use Rattle.vk_image_codec.specs.Rows.{rows_format, rows_left}
use Rattle.vk_image_codec.specs.Standing.{Stands}
use Rattle.vk_image_codec.proofs.Feeding.{came_more}
use Rattle.vk_image_codec.proofs.feed.ImageFeed.feed.Goals as goal

pub returns-clause-fed : goal.returns-clause-fed
unfolding Stands
returns-clause-fed c = λ bytes h. c.feed.ensures.fed rows_format bytes h

pub returns-clause-told : goal.returns-clause-told
unfolding Stands
returns-clause-told c = λ bytes h. c.feed.ensures.told rows_format bytes h

pub invariant_of-self-clause-came : goal.invariant_of-self-clause-came
invariant_of-self-clause-came c =
    let s = c.args.self.now in
    came_more (rows_left s.rows.fields s.pieces.at) (rows_left c.feed.new.fields.fields c.feed.new.self.at) s.pieces c.feed.new.self c.args.piece.now (λ i. omega (arith, c.type_inv.piece i))
    (c.feed.ensures.fed rows_format) s.came
