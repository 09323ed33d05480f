use Rattle.std.proofs.Common.{◌≤ℤ◌, neg_ℤ, pos, ◌^◌, arith, subst, sym}
use Rattle.std.proofs.lemmas.Int.{ints}
use Rattle.vk_args.proofs.Products.{product_back, small_product}
use Rattle.vk_args.proofs.numbers.scaled.Goals as goal

pub returns-clause-product : goal.returns-clause-product
returns-clause-product c = product_back c.args.count c.args.step c.ranges.count c.ranges.step c.requires.count_low c.requires.count_high c.requires.step_low c.requires.step_high

pub returns-clause-low : goal.returns-clause-low
returns-clause-low c =
    subst (λ z. neg_ℤ (pos (2 ^ 80)) ≤ℤ z) (sym (product_back c.args.count c.args.step c.ranges.count c.ranges.step c.requires.count_low c.requires.count_high c.requires.step_low c.requires.step_high))
    (let s = small_product c.args.count c.args.step c.requires.count_low c.requires.count_high c.requires.step_low c.requires.step_high in let l = s.0 in omega (arith, ints, l))

pub returns-clause-high : goal.returns-clause-high
returns-clause-high c =
    subst (λ z. z ≤ℤ pos (2 ^ 80)) (sym (product_back c.args.count c.args.step c.ranges.count c.ranges.step c.requires.count_low c.requires.count_high c.requires.step_low c.requires.step_high))
    (let s = small_product c.args.count c.args.step c.requires.count_low c.requires.count_high c.requires.step_low c.requires.step_high in let l = s.1 in omega (arith, ints, l))
