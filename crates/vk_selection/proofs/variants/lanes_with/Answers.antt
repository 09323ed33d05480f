use Rattle.std.proofs.Common.{◌≡◌, ◌∙◌, Some, ap, slice_get, length}
use Rattle.vk_kinds.specs.Sizes.{HeadTypes, head_types, signature_tree}
use Rattle.vk_ast.specs.Units.{FunctionTree}
use Rattle.vk_rules_book.specs.Directives.{signatures}
use Rattle.vk_rules_book.specs.Signatures.{head_of}
use Rattle.vk_rules.specs.Functions.{functions_of}
use Rattle.vk_rules.specs.Verdicts.{judged}
use Rattle.vk_selection.proofs.SameKinds.{same_count}
use Rattle.vk_selection.proofs.Lists.{there, told}
use Rattle.vk_selection.proofs.variants.lanes_with.Goals as goal

pub lengths-variants-requires : goal.lengths-variants-requires
lengths-variants-requires c =
    let fs = functions_of (judged c.args.unit.now) in
    let at = there fs c.args.function c.requires.function in
    ap (λ (h : HeadTypes). length h.params) (told (λ (g : FunctionTree). head_types c.head-head.result.now ≡ head_of g) (slice_get fs c.args.function) at.0 c.head-head.ensures at.1)
    ∙ same_count at.0 at.0.directives c.args.directive (signature_tree c.signature-signature.result.now)
    (told (λ (g : FunctionTree). slice_get (signatures g) c.args.directive ≡ Some (signature_tree c.signature-signature.result.now)) (slice_get fs c.args.function) at.0 c.signature-signature.ensures at.1)

pub wds-requires : goal.wds-requires
wds-requires c =
    let fs = functions_of (judged c.args.unit.now) in
    let at = there fs c.args.function c.requires.function in
    ap (λ (h : HeadTypes). length h.params) (told (λ (g : FunctionTree). head_types c.head-head.result.now ≡ head_of g) (slice_get fs c.args.function) at.0 c.head-head.ensures at.1)
    ∙ same_count at.0 at.0.directives c.args.directive (signature_tree c.signature-signature.result.now)
    (told (λ (g : FunctionTree). slice_get (signatures g) c.args.directive ≡ Some (signature_tree c.signature-signature.result.now)) (slice_get fs c.args.function) at.0 c.signature-signature.ensures at.1)
