use Rattle.std.proofs.Common.{◌≡◌, take}
use Rattle.vk_rules_book.specs.Faults.{first_among}
use Rattle.vk_rules_book.specs.Directives.{long_name_faults}
use Rattle.vk_rules_directives.proofs.clauses.judge_long_names.Given as goal

abbrev pub invariant-loop-n : goal.invariant-loop-n
invariant-loop-n l = l.note.first ≡ first_among l.fn.note.first (long_name_faults l.place.names.now (take l.n-index l.names))
