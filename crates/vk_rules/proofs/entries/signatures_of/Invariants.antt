use Rattle.std.proofs.Common.{◌≡◌, map, take}
use Rattle.vk_kinds.specs.Sizes.{signature_tree}
use Rattle.vk_ast.specs.Directives.{directive_of}
use Rattle.vk_ast.specs.Units.{function_of}
use Rattle.vk_rules_book.specs.Signatures.{signature_of}
use Rattle.vk_rules.proofs.entries.signatures_of.Given as goal

abbrev pub invariant-loop-d : goal.invariant-loop-d
invariant-loop-d l = map signature_tree l.list.items ≡ map (signature_of (function_of l.f)) (map directive_of (take l.d-index l.f.directives.items))
