use Rattle.std.proofs.Common.{sym, ◌∙◌}
use Rattle.vk_ast.specs.Statements.{stmt_of}
use Rattle.vk_ast.specs.Units.{function_of}
use Rattle.vk_rules_items.proofs.Surveys.{adds_none, adds_nodes, some_map}
use Rattle.vk_rules_items.proofs.survey.note_function.Goals as goal

pub returns-in_ok-keep : goal.returns-in_ok-keep
returns-in_ok-keep c = λ id.
    adds_nodes (function_of c.args.f.now) id _ _ _ (some_map stmt_of c.args.f.now.body ∙ sym c.is_some.ensures ∙ c.if-is_some.true) c.function_nodes.ensures (c.in_ok-keep.ensures id)

pub returns-else-is_some : goal.returns-else-is_some
returns-else-is_some c = λ id.
    adds_none (function_of c.args.f.now) id _ (some_map stmt_of c.args.f.now.body ∙ sym c.is_some.ensures ∙ c.if-is_some.false)
