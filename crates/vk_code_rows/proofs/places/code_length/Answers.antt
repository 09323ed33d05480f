use Rattle.std.proofs.Common.{arith}
use Rattle.vk_code_read.specs.Inner.Left.{place_of}
use Rattle.vk_code_rows.proofs.Lengths.{code_is}
use Rattle.vk_code_rows.proofs.places.code_length.Goals as goal

pub returns : goal.returns
returns c = let same = code_is (place_of c.args.place) c.args.row.now in omega (arith, same)
