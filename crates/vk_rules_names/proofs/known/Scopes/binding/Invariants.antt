use Rattle.std.proofs.Common.{◌≡◌, ◌≤◌, length, take}
use Rattle.vk_rules_book.specs.Scopes.{last_binding}
use Rattle.vk_rules_names.proofs.known.Scopes.binding.Given as goal

abbrev pub invariant-loop-count : goal.invariant-loop-count
invariant-loop-count l = record {
  within : l.count ≤ length l.self.inner.now;
  left : last_binding l.self.inner.now l.id ≡ last_binding (take l.count l.self.inner.now) l.id;
}

abbrev pub decreases-loop-count : goal.decreases-loop-count
decreases-loop-count l = l.count
