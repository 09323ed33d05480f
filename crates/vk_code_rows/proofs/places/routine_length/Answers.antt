use Rattle.std.proofs.Common.{◌≡◌, ap, arith}
use Rattle.vk_code_format.specs.Codes.{in_object}
use Rattle.vk_code_rows.specs.Sums.{slots_size}
use Rattle.vk_code_rows.proofs.Lengths.{routine_is}
use Rattle.vk_code_rows.proofs.places.routine_length.Goals as goal

pub returns : goal.returns
returns c =
    let same = routine_is c.args.row.now in
    let slots : slots_size (in_object 0 0) c.as_slice.result.now ≡ slots_size (in_object 0 0) c.args.row.now.front.slots = ap (slots_size (in_object 0 0)) c.as_slice.ensures.items in
    omega (arith, same, slots)
