-- This parameter meets the other lane.
use Rattle.std.proofs.Common.{◌≡◌, ◌<◌, length, true, rules, sym}
use Rattle.vk_arguments.specs.Arguments.{passed}
use Rattle.vk_pointer_texts.specs.Heads.{arrays_of}
use Rattle.vk_apart.specs.Inner.Reaches.{reach}
use Rattle.vk_apart.specs.Inner.Pairs.{is_met}
use Rattle.vk_apart.proofs.Any.{any_at}
use Rattle.vk_apart.proofs.pairs.lanes_meet.Goals as goal

pub returns-then-is_met : goal.returns-then-is_met
returns-then-is_met c =
    let ts = c.args.call.now.types.now in
    let arrays = arrays_of c.args.call.now.heads.now in
    let words = passed c.args.call.now.lanes c.args.call.now.words.now in
    let p = c.loop-parameter.parameter in
    let here : p < length ts = search rules in
    let is : is_met ts arrays words (reach ts arrays words p c.args.first) c.args.second ≡ true = search rules in
    sym (any_at (length ts) p (λ k. is_met ts arrays words (reach ts arrays words k c.args.first) c.args.second) here is)
