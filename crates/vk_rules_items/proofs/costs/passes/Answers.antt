use Rattle.std.proofs.Common.{ℕ, [], ◌+◌, ◌&&◌, nat_le, nat_lt, ap₂, ◌∙◌}
use Rattle.vk_ast.specs.Units.{function, function_of}
use Rattle.vk_rules_book.specs.Items.{cost_at, costs}
use Rattle.vk_rules_items.specs.Inner.Known.{before_of, unit_items}
use Rattle.vk_rules_items.proofs.Limits.{passes_told}
use Rattle.vk_rules_items.proofs.costs.passes.Goals as goal

pub returns : goal.returns
returns c =
    c.passes_with.ensures
    ∙ ap₂ (λ (a b : ℕ). nat_le a 40000 && nat_lt 40000 (a + b)) c.requires.seen.cost c.cost_at.ensures
    ∙ passes_told (costs c.args.survey.now.names.now (unit_items c.args.survey.now) [] (before_of c.args.survey.now c.args.seen.now))
    (cost_at c.args.survey.now.names.now (unit_items c.args.survey.now) (before_of c.args.survey.now c.args.seen.now) (function (function_of c.args.f.now)))
