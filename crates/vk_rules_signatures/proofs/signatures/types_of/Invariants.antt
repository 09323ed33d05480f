use Rattle.std.proofs.Common.{◌≡◌, take}
use Rattle.arrayvec.specs.ArrayVec.{array_vec_len}
use Rattle.vk_rules_book.specs.Scopes.{types_of}
use Rattle.vk_rules_signatures.proofs.signatures.types_of.Given as goal

abbrev pub invariant-loop-p : goal.invariant-loop-p
invariant-loop-p l = record {
  items : l.types.items ≡ types_of (take l.p-index l.params);
  count : array_vec_len l.types ≡ l.p-index;
}
