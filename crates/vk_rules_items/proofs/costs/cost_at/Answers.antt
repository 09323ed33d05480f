use Rattle.std.proofs.Common.{ℕ, List, Option, is_some, ap, ◌∙◌}
use Rattle.vk_ast.specs.Units.{function_of}
use Rattle.vk_rules_book.specs.Scopes.{is_print}
use Rattle.vk_rules_items.specs.Inner.Known.{before_of, unit_items}
use Rattle.vk_rules_items.proofs.Declared.{declared_seen}
use Rattle.vk_rules_items.proofs.Sums.{free_declared, free_print, full_cost}
use Rattle.vk_rules_items.proofs.costs.cost_at.Goals as goal

pub returns-then-is_some : goal.returns-then-is_some
returns-then-is_some c =
    free_declared c.args.survey.now.names.now (unit_items c.args.survey.now) (before_of c.args.survey.now c.args.seen.now) (function_of c.args.f.now) _
    (c.is_some.ensures ∙ ap (λ (o : Option ℕ). is_some o) c.number_of.ensures ∙ declared_seen c.args.survey.now c.args.seen.now c.requires.seen c.args.f.now.name) c.if-is_some.true

pub returns-then-is_print : goal.returns-then-is_print
returns-then-is_print c =
    free_print c.args.survey.now.names.now (unit_items c.args.survey.now) (before_of c.args.survey.now c.args.seen.now) (function_of c.args.f.now) _
    (c.is_print.ensures ∙ ap (λ (ts : List (List ℕ)). is_print ts c.args.f.now.name) c.scope.ensures.names) c.if-is_print.true

pub returns : goal.returns
returns c =
    full_cost c.args.survey.now.names.now (unit_items c.args.survey.now) (before_of c.args.survey.now c.args.seen.now) (function_of c.args.f.now) _ _ _
    (c.is_some.ensures ∙ ap (λ (o : Option ℕ). is_some o) c.number_of.ensures ∙ declared_seen c.args.survey.now c.args.seen.now c.requires.seen c.args.f.now.name) c.if-is_some.false
    (c.is_print.ensures ∙ ap (λ (ts : List (List ℕ)). is_print ts c.args.f.now.name) c.scope.ensures.names) c.if-is_print.false c.cost.ensures
