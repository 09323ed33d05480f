use Rattle.std.proofs.Common.{◌≡◌, [], take}
use Rattle.vk_rules_book.specs.Scopes.{with_params}
use Rattle.vk_rules_names.specs.Seen.{scope_at}
use Rattle.vk_rules_names.specs.declared.known.Place.{Place}
use Rattle.vk_reading_calls.proofs.starting.bindings_of.Given as goal

abbrev pub invariant-loop-p : goal.invariant-loop-p
invariant-loop-p l = (place : Place) → scope_at place l.bindings.items 0 ≡ with_params (scope_at place [] 0) (take l.p-index l.params)
