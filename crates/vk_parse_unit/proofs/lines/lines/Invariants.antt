use Rattle.std.proofs.Common.{ℕ, ◌<◌, ◌≤◌, length, map}
use Rattle.vk_ast.specs.Directives.{directive_of}
use Rattle.vk_grammar_unit.specs.Items.{is_line, line_at}
use Rattle.vk_grammar_unit.specs.Inner.Reading.{line, lines}
use Rattle.vk_parse_stmt.proofs.Loops.{Going}
use Rattle.vk_parse_unit.proofs.lines.lines.Given as goal

abbrev pub invariant-lines : goal.invariant-lines
invariant-lines g l = record {
  so_far : (turns : ℕ) → length l.syms < turns
      → Going (λ k. is_line (line_at k)) (line (g.D.Directives.clauses l.directives)) (map directive_of l.list) l.rest (lines (g.D.Directives.clauses l.directives) turns l.syms);
  shorter : length l.rest ≤ length l.syms;
}

abbrev pub decreases-lines : goal.decreases-lines
decreases-lines g l = length l.rest
