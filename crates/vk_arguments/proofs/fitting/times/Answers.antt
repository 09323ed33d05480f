use Rattle.std.proofs.Common.{◌≡◌, pos, neg_ℤ, ◌^◌, ◌*ℤ◌, ◌-ℤ◌, ◌≤ℤ◌, subst, sym, rules}
use mir.Val.{of_z, to_z}
use mir.Syntax.{w128}
use Rattle.vk_arguments.proofs.Numbers.{times_within}
use Rattle.vk_arguments.proofs.fitting.times.Goals as goal

pub returns-clause-low : goal.returns-clause-low
returns-clause-low c =
    let same : to_z w128 (of_z w128 c.product.result) ≡ ((pos c.args.to -ℤ pos c.args.from) *ℤ c.args.step) = search rules in
    subst (λ z. neg_ℤ (pos (2 ^ 73)) ≤ℤ z) (sym same) (times_within c.args.to c.args.from c.args.step c.requires.to c.requires.from c.requires.low c.requires.high).0

pub returns-clause-high : goal.returns-clause-high
returns-clause-high c =
    let same : to_z w128 (of_z w128 c.product.result) ≡ ((pos c.args.to -ℤ pos c.args.from) *ℤ c.args.step) = search rules in
    subst (λ z. z ≤ℤ pos (2 ^ 73)) (sym same) (times_within c.args.to c.args.from c.args.step c.requires.to c.requires.from c.requires.low c.requires.high).1
