use Rattle.std.proofs.Common.{ℕ, ◌<◌, ◌≤◌, length}
use Rattle.vk_tokens.specs.declared.tokens.Mark.TheVariants as mark
use Rattle.vk_grammar_expr.specs.Symbols.{is_sign}
use Rattle.vk_grammar_unit.specs.Inner.Reading.{later_param, some_params}
use Rattle.vk_parse_stmt.proofs.Loops.{Going}
use Rattle.vk_parse_unit.proofs.params.some_params.Given as goal

abbrev pub invariant-params : goal.invariant-params
invariant-params l = record {
  so_far : (turns : ℕ) → length l.syms < turns → Going (is_sign mark.Comma) (later_param 63 turns) l.list.items l.rest (some_params 63 turns l.syms);
  shorter : length l.rest ≤ length l.syms;
}

abbrev pub decreases-params : goal.decreases-params
decreases-params l = length l.rest
