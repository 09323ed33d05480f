use Rattle.std.proofs.Common.{◌≡◌, [], take}
use Rattle.vk_rules_book.specs.Noting.{found}
use Rattle.vk_rules_book.specs.Scopes.{with_params}
use Rattle.vk_rules_book.specs.Visits.{parameter_visits}
use Rattle.vk_rules_names.specs.Seen.{scope_at, unit_of}
use Rattle.vk_rules_functions.proofs.functions.judge_params.Given as goal

abbrev pub invariant-loop-number : goal.invariant-loop-number
invariant-loop-number l = record {
  scope : scope_at l.place l.inner.items 0 ≡ with_params (scope_at l.place [] 0) (take l.number l.params);
  noted : l.note.first ≡ found (unit_of l.place) l.fn.note.first (parameter_visits (scope_at l.place [] 0) 0 (take l.number l.params));
}
