use Rattle.std.proofs.Common.{ℕ, ◌<◌, ◌≤◌, length, map}
use Rattle.vk_ast.specs.Units.{item_of}
use Rattle.vk_grammar_unit.specs.Inner.Reading.{items}
use Rattle.vk_parse_unit.proofs.Units.{Taken}
use Rattle.vk_parse_unit.proofs.read.whole.Given as goal

abbrev pub invariant-items : goal.invariant-items
invariant-items g l = record {
  so_far : (turns : ℕ) → length l.syms < turns
      → Taken (g.D.Directives.clauses l.directives) turns (map item_of l.list) l.rest (items (g.D.Directives.clauses l.directives) 63 65 turns turns l.syms);
  shorter : length l.rest ≤ length l.syms;
}

abbrev pub decreases-items : goal.decreases-items
decreases-items g l = length l.rest
