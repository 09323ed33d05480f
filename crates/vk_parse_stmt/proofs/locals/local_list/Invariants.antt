use Rattle.std.proofs.Common.{ℕ, ◌+◌, ◌<◌, ◌≤◌, length, map}
use Rattle.vk_ast.specs.Statements.{stmt_of}
use Rattle.vk_tokens.specs.declared.tokens.Mark.TheVariants as mark
use Rattle.vk_grammar_expr.specs.Symbols.{is_sign}
use Rattle.vk_grammar_stmt.specs.Inner.Reading.{later_local, local_list}
use Rattle.vk_parse_stmt.proofs.Loops.{Going}
use Rattle.vk_parse_stmt.proofs.locals.local_list.Given as goal

abbrev pub invariant-variables : goal.invariant-variables
invariant-variables l = record {
  so_far : (turns : ℕ) → length l.syms < turns
      → Going (is_sign mark.Comma) (later_local 63 turns l.room l.ty l.fixed) (map stmt_of l.list) l.rest (local_list 63 turns l.room l.ty l.fixed l.syms);
  shorter : length l.rest + 1 ≤ length l.syms;
}

abbrev pub decreases-variables : goal.decreases-variables
decreases-variables l = length l.rest
