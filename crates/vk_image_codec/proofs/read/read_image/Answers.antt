use Rattle.std.proofs.Common.{[], arith}
use Rattle.vk_image_codec.proofs.Feeding.{read_told, spelled}
use Rattle.vk_image_codec.proofs.read.read_image.Goals as goal

pub returns-in-Err-clause-read : goal.returns-in-Err-clause-read
returns-in-Err-clause-read c = read_told c.in-Err.e c.args.bytes.now (c.in-Err.ensures.told c.args.bytes.now (c.in-Err.ensures.fed [] c.new-feed.ensures.stands))

pub returns-in-Ok-clause-spelled : goal.returns-in-Ok-clause-spelled
returns-in-Ok-clause-spelled c = spelled c.end.result c.args.bytes.now (λ i. omega (arith, c.type_inv.bytes i)) (c.end.ensures c.args.bytes.now (c.in-Ok.ensures.fed [] c.new-feed.ensures.stands))
