use Rattle.vk_ast.specs.Units.{function_of}
use Rattle.vk_rules_book.specs.Directives.{has_signature}
use Rattle.vk_rules_book.specs.Signatures.{signature_of}
use Rattle.vk_rules.proofs.Listed.{has_signature_at, signed_more}
use Rattle.vk_rules.proofs.entries.signatures_of.Goals as goal

pub signature_of-requires : goal.signature_of-requires
signature_of-requires c =
    has_signature_at (has_signature (function_of c.args.f.now)) _ _ _ _ c.deref-d-items.ensures.value c.requires c.loop-d-test.true c.d-item.is

pub loop-d-preserved : goal.loop-d-preserved
loop-d-preserved c =
    signed_more (signature_of (function_of c.args.f.now)) _ _ _ _ _ _ _ c.deref-d-items.ensures.value c.loop-d-test.true c.d-item.is c.loop-d.invariant c.signature_of.ensures
    c.in_ok-push.ensures.items
