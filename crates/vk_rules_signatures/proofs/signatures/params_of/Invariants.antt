use Rattle.std.proofs.Common.{◌≡◌, map, take}
use Rattle.arrayvec.specs.ArrayVec.{array_vec_len}
use Rattle.vk_ast.specs.Directives.{directive_of}
use Rattle.vk_ast.specs.Units.{function_of}
use Rattle.vk_rules_book.specs.Signatures.{param_signature}
use Rattle.vk_rules_signatures.proofs.signatures.params_of.Given as goal

abbrev pub invariant-loop-p : goal.invariant-loop-p
invariant-loop-p l = record {
  items : l.params.items ≡ map (λ p. param_signature (function_of l.f) (directive_of l.d) p.name) (take l.p-index l.f.params.items);
  count : array_vec_len l.params ≡ l.p-index;
}
