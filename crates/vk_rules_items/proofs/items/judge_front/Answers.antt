use Rattle.std.proofs.Common.{ap}
use Rattle.vk_ast.specs.Directives.{directive_of}
use Rattle.vk_ast.specs.Units.{function_of, item_of, object_of}
use Rattle.vk_rules_items.specs.Inner.Known.{before_of, judged}
use Rattle.vk_rules_items.proofs.Walk.{front_function, front_line, front_object}
use Rattle.vk_rules_items.proofs.items.judge_front.Goals as goal

pub returns-in-Function : goal.returns-in-Function
returns-in-Function c =
    front_function (judged c.args.survey.now) (before_of c.args.survey.now c.args.seen.now) _ (item_of c.args.item.now) (function_of c.in-Function.f) _ (ap item_of c.in-Function.is) c.judge_function.ensures

pub returns-in-Object : goal.returns-in-Object
returns-in-Object c =
    front_object (judged c.args.survey.now) (before_of c.args.survey.now c.args.seen.now) _ (item_of c.args.item.now) (object_of c.in-Object.o) _ _ _ _ (ap item_of c.in-Object.is) c.scope.ensures.unit c.scope.ensures.scope c.judge_object.ensures c.judge_length.ensures

pub returns-in-Lost : goal.returns-in-Lost
returns-in-Lost c =
    front_line (judged c.args.survey.now) (before_of c.args.survey.now c.args.seen.now) _ (item_of c.args.item.now) (directive_of c.in-Lost.d) _ _ (ap item_of c.in-Lost.is) c.fault_with.ensures c.add.ensures
