use Rattle.std.proofs.Common.{◌≡◌, ◌≤◌, drop}
use Rattle.vk_parse_directives.specs.Cuts.{has_comma}
use Rattle.vk_parse_directives.proofs.cuts.has_comma.Given as goal

abbrev pub invariant-loop-sym : goal.invariant-loop-sym
invariant-loop-sym l = (has_comma l.depth (drop l.sym-index l.syms) ≡ has_comma 0 l.syms) × (l.depth ≤ l.sym-index)
