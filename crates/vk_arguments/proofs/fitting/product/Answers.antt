use Rattle.std.proofs.Common.{◌≡◌, ◌∙◌, ◌*ℤ◌, ap₂, rules}
use Rattle.std.proofs.lemmas.Int.{to_z-of_z}
use mir.Val.{of_z, to_z}
use mir.Syntax.{w128}
use Rattle.vk_arguments.proofs.Numbers.{product_fits}
use Rattle.vk_arguments.proofs.fitting.product.Goals as goal

pub returns : goal.returns
returns c =
    let lanes : to_z w128 (of_z w128 c.args.lanes) ≡ c.args.lanes = to_z-of_z w128 c.args.lanes (search rules) in
    let step : to_z w128 (of_z w128 c.args.step) ≡ c.args.step = to_z-of_z w128 c.args.step (search rules) in
    ap₂ (λ x y. to_z w128 (of_z w128 (x *ℤ y))) lanes step
    ∙ to_z-of_z w128 (c.args.lanes *ℤ c.args.step) (product_fits c.args.lanes c.args.step c.requires.from c.requires.to c.requires.low c.requires.high)
