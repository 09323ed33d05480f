use Rattle.std.proofs.Common.{◌≡◌}
use Rattle.vk_rules_book.specs.Items.{same_ctypes}
use Rattle.vk_rules_book.specs.Scopes.{types_of}
use Rattle.vk_rules_items.proofs.Parameters.{rest_same}
use Rattle.vk_rules_items.proofs.types.same_types.Given as goal

abbrev pub invariant-loop-i : goal.invariant-loop-i
invariant-loop-i l = same_ctypes (types_of l.a) (types_of l.b) ≡ rest_same l.a l.b l.i
