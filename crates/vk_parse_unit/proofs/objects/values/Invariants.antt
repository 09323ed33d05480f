use Rattle.std.proofs.Common.{ℕ, ◌<◌, ◌≤◌, length, map}
use Rattle.vk_ast.specs.Tree.{expr_of}
use Rattle.vk_grammar_unit.specs.Inner.Reading.{values}
use Rattle.vk_parse_unit.proofs.Values.{Valued}
use Rattle.vk_parse_unit.proofs.objects.values.Given as goal

abbrev pub invariant-values : goal.invariant-values
invariant-values l = record {
  so_far : (turns : ℕ) → length l.syms < turns → Valued turns (map expr_of l.list) l.rest (values 63 turns l.syms);
  shorter : length l.rest ≤ length l.syms;
}

abbrev pub decreases-values : goal.decreases-values
decreases-values l = length l.rest
