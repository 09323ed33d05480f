use Rattle.std.proofs.Common.{ℕ, ◌+◌, ◌*◌, ◌≤◌, ◌<◌, length}
use Rattle.vk_parse_stmt.specs.Inner.Answers.{entries}
use Rattle.vk_parse_stmt.proofs.Blocks.{Entering}
use Rattle.vk_parse_stmt.proofs.reader.+reading.Given as goal

-- how many levels are left below, and what stands in one level from its first token on
abbrev pub decreases-statement : goal.decreases-statement
decreases-statement g l = 10 * l.below

abbrev pub decreases-entry : goal.decreases-entry
decreases-entry g l = 10 * l.below

abbrev pub decreases-entries : goal.decreases-entries
decreases-entries g l = 10 * l.below + 1

abbrev pub decreases-block : goal.decreases-block
decreases-block g l = 10 * l.below + 2

abbrev pub decreases-else_part : goal.decreases-else_part
decreases-else_part g l = 10 * l.below + 1

abbrev pub decreases-choice : goal.decreases-choice
decreases-choice g l = 10 * l.below + 2

abbrev pub decreases-while_loop : goal.decreases-while_loop
decreases-while_loop g l = 10 * l.below + 2

abbrev pub decreases-do_loop : goal.decreases-do_loop
decreases-do_loop g l = 10 * l.below + 2

abbrev pub decreases-for_rest : goal.decreases-for_rest
decreases-for_rest g l = 10 * l.below + 1

abbrev pub decreases-for_loop : goal.decreases-for_loop
decreases-for_loop g l = 10 * l.below + 2

abbrev pub decreases-simd_line : goal.decreases-simd_line
decreases-simd_line g l = 10 * l.below + 2

abbrev pub decreases-plain : goal.decreases-plain
decreases-plain g l = 10 * l.below + 3

abbrev pub decreases-one_statement : goal.decreases-one_statement
decreases-one_statement g l = 10 * l.below + 4

abbrev pub decreases-one_entry : goal.decreases-one_entry
decreases-one_entry g l = 10 * l.below + 4

abbrev pub invariant-entries-entries : goal.invariant-entries-entries
invariant-entries-entries g l = record {
  so_far : (turns : ℕ) → length l.fn.syms < turns
      → Entering (g.D.Directives.clauses l.directives) l.below turns l.list l.rest (entries (g.D.Directives.clauses l.directives) l.below turns l.fn.syms);
  shorter : length l.rest ≤ length l.fn.syms;
}

abbrev pub decreases-entries-entries : goal.decreases-entries-entries
decreases-entries-entries g l = length l.rest
