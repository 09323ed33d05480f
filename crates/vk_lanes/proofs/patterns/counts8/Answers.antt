use Rattle.std.proofs.Common.{ap, ◌∙◌, ◌<◌, sym, subst, map, bit_and, ℕ, List}
use lib.Lanes.{Each1}
use Rattle.vk_lanes.specs.Inner.Patterns.{count_of}
use Rattle.vk_lanes.proofs.Vectors.{count-lt, each-map, with_constant}
use Rattle.vk_lanes.proofs.patterns.counts8.Goals as goal

pub returns-clause-value : goal.returns-clause-value
returns-clause-value c = with_constant bit_and c.counts.result c.args.y c.requires ∙ ap (λ k. map (λ x. bit_and x k) c.args.y) c.counts.ensures

pub returns-clause-below : goal.returns-clause-below
returns-clause-below c =
    subst (λ (xs : List ℕ). Each1 (λ (k : ℕ). k < 64) xs)
    (sym (with_constant bit_and c.counts.result c.args.y c.requires ∙ ap (λ k. map (λ x. bit_and x k) c.args.y) c.counts.ensures))
    (each-map (λ k. k < 64) (count_of c.args.t) (count-lt c.args.t) c.args.y)
