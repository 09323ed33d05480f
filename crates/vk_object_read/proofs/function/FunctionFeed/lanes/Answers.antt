use Rattle.std.proofs.Common.{◌≡◌, ◌-◌, ◌<◌, ◌≢◌, suc, ℕ, refl, ap, ◌∙◌, arith}
use Rattle.vk_format.specs.Codec.{read_after}
use Rattle.vk_code_format.specs.Codes.{code}
use Rattle.vk_object_read.specs.Inner.LeftFunction.{after_lane, after_lanes, place_of_codes}
use Rattle.vk_object_read.proofs.function.FunctionFeed.lanes.Goals as goal

pub returns-then-left-ne0 : goal.returns-then-left-ne0
returns-then-left-ne0 g c = λ at next.
    let s = c.args.self.now in
    let more : suc (c.args.left - 1) ≡ c.args.left = omega (arith, c.if-left-ne0.true) in
    c.code_feed.ensures at (after_lane s.functions s.function s.scalar s.lanes (c.args.left - 1) next)
    ∙ ap (λ (k : ℕ). read_after (λ before. code (place_of_codes s.functions s.function)) k s.lanes at (after_lanes s.function s.scalar next)) more
