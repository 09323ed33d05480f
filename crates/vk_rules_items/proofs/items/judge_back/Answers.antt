use Rattle.std.proofs.Common.{ap}
use Rattle.vk_ast.specs.Directives.{directive_of}
use Rattle.vk_ast.specs.Units.{function_of, item_of}
use Rattle.vk_rules_items.specs.Inner.Known.{before_of, judged}
use Rattle.vk_rules_items.proofs.Walk.{no_back_function, no_back_line}
use Rattle.vk_rules_items.proofs.items.judge_back.Goals as goal

pub returns-in-Function : goal.returns-in-Function
returns-in-Function c = no_back_function (judged c.args.survey.now) (before_of c.args.survey.now c.args.seen.now) _ (item_of c.args.item.now) (function_of c.in-Function.field-0) (ap item_of c.in-Function.is)

pub returns-in-Lost : goal.returns-in-Lost
returns-in-Lost c = no_back_line (judged c.args.survey.now) (before_of c.args.survey.now c.args.seen.now) _ (item_of c.args.item.now) (directive_of c.in-Lost.field-0) (ap item_of c.in-Lost.is)
