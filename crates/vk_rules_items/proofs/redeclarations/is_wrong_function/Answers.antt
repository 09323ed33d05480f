use Rattle.std.proofs.Common.{sym, ◌∙◌}
use Rattle.vk_ast.specs.Statements.{stmt_of}
use Rattle.vk_ast.specs.Units.{function, function_of}
use Rattle.vk_rules_items.proofs.Declared.{function_defines, wrong_again}
use Rattle.vk_rules_items.proofs.Surveys.{some_map}
use Rattle.vk_rules_items.proofs.redeclarations.is_wrong_function.Goals as goal

pub returns : goal.returns
returns c =
    wrong_again c.args.survey.now c.args.seen.now c.args.f.now.name (function (function_of c.args.f.now)) _ _ _ _ _ _ c.requires c.number_of.ensures c.number_of-2.ensures c.is_wrong.ensures
    c.disagrees_function-disagrees.ensures (c.is_some.ensures ∙ sym (some_map stmt_of c.args.f.now.body) ∙ function_defines (function_of c.args.f.now)) c.is_some-defined.ensures
