-- This parameter is met.
use Rattle.std.proofs.Common.{◌≡◌, ◌<◌, length, true, rules, sym}
use Rattle.vk_arguments.specs.Arguments.{passed}
use Rattle.vk_pointer_texts.specs.Heads.{arrays_of}
use Rattle.vk_apart.specs.Inner.Reaches.{meet, reach}
use Rattle.vk_apart.proofs.Any.{any_at}
use Rattle.vk_apart.proofs.pairs.is_met.Goals as goal

pub returns-then-meet : goal.returns-then-meet
returns-then-meet c =
    let ts = c.args.call.now.types.now in
    let words = passed c.args.call.now.lanes c.args.call.now.words.now in
    let q = c.loop-parameter.parameter in
    let here : q < length ts = search rules in
    let is : meet c.args.reached (reach ts (arrays_of c.args.call.now.heads.now) words q c.args.lane) ≡ true = search rules in
    sym (any_at (length ts) q (λ k. meet c.args.reached (reach ts (arrays_of c.args.call.now.heads.now) words k c.args.lane)) here is)
