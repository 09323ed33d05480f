use Rattle.vk_rules_book.specs.Rules.{Subject}
use Rattle.std.proofs.Common.{map}
use Rattle.vk_ast.specs.Units.{item_of}
use Rattle.vk_rules.proofs.Parts.{verdict}
use Rattle.vk_rules.proofs.judging.first_fault.Goals as goal

pub returns : goal.returns
returns c =
    let unit : Subject = record { items = map item_of c.args.items.now; texts = c.args.names.now; target = c.args.target } in
    verdict unit _ _ _ c.in_ok-judge_items.ensures c.in_ok-judge_directives.ensures c.in_ok-judge_functions.ensures
