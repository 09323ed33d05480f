use Rattle.std.proofs.Common.{ℕ, ◌<◌, ◌≤◌, length, map}
use Rattle.vk_ast.specs.Units.{item_of}
use Rattle.vk_tokens.specs.declared.tokens.Mark.TheVariants as mark
use Rattle.vk_grammar_expr.specs.Symbols.{is_sign}
use Rattle.vk_grammar_unit.specs.Inner.Reading.{later_object}
use Rattle.vk_parse_stmt.proofs.Loops.{Going}
use Rattle.vk_parse_unit.specs.Inner.Answers.{type_of, named_of, object_list}
use Rattle.vk_parse_unit.proofs.objects.object_list.Given as goal

abbrev pub invariant-objects : goal.invariant-objects
invariant-objects l = record {
  so_far : (turns : ℕ) → length l.syms < turns
      → Going (is_sign mark.Comma) (later_object 63 turns (type_of l.of)) (map item_of l.list) l.rest (object_list (type_of l.of) (named_of l.fn.name) turns l.syms);
  shorter : length l.rest ≤ length l.syms;
}

abbrev pub decreases-objects : goal.decreases-objects
decreases-objects l = length l.rest
