use Rattle.std.proofs.Common.{ap, ap₂, ◌∙◌, ◌/◌, ◌^◌, ◌∷◌, [], ℕ, List}
use Rattle.std.specs.Simd.Lanes.{zip2}
use Rattle.vk_lanes.specs.Inner.Patterns.{biased, count_of, wrap_sub}
use Rattle.vk_lanes.proofs.Vectors.{counts_fit, shifted_right}
use Rattle.vk_lanes.proofs.patterns.shifted_right8.Goals as goal

pub overflow_shr-result : goal.overflow_shr-result
overflow_shr-result c = counts_fit c.biased8.result c.counts8-count.result c.counts8-count.ensures.below

pub returns : goal.returns
returns c =
    let k : ℕ = c.bias.result in
    ap₂ (λ (u v : List ℕ). zip2 wrap_sub (zip2 (λ x n. x / 2 ^ n) u v) (zip2 (λ x n. x / 2 ^ n) (k ∷ k ∷ k ∷ k ∷ k ∷ k ∷ k ∷ k ∷ []) v)) c.biased8.ensures c.counts8-count.ensures.value
    ∙ shifted_right (biased c.args.t) (count_of c.args.t) k c.args.x c.args.y c.requires.left c.requires.right
    ∙ ap (λ k. zip2 (λ x y. wrap_sub (biased c.args.t x / 2 ^ count_of c.args.t y) (k / 2 ^ count_of c.args.t y)) c.args.x c.args.y) c.bias.ensures
