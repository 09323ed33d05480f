use Rattle.std.proofs.Common.{◌≡◌, ◌+◌, ◌≤◌, drop}
use Rattle.vk_parse_directives.specs.Cuts.{group_len}
use Rattle.vk_parse_directives.proofs.cuts.group_len.Given as goal

abbrev pub invariant-loop-at : goal.invariant-loop-at
invariant-loop-at l = (l.at + group_len l.depth (drop l.at l.syms) ≡ group_len 0 l.syms) × (l.depth ≤ l.at)
