use mir.Syntax.{w128}
use Rattle.std.proofs.Common.{◌≡◌, ◌≤◌, false, ℤ, ap, subst, sym, ◌∙◌, unsigned_abs, rules}
use Rattle.vk_rules_book.specs.Signatures.{constant, scaled}
use Rattle.vk_rules_book.specs.Directives.{is_wrong_step}
use Rattle.std.proofs.lemmas.Int.{to_z-of_z}
use Rattle.vk_rules_signatures.specs.Inner.Steps.{step_seen}
use Rattle.vk_rules_signatures.proofs.Sound.{in_bytes, in_elements}
use Rattle.vk_rules_signatures.proofs.steps.written_step.Goals as goal

pub constant_step-requires-clause-bytes : goal.constant_step-requires-clause-bytes
constant_step-requires-clause-bytes c =
    let right : is_wrong_step c.args.params.now c.args.names.now (constant c.in-Constant.z) ≡ false = ap (λ s. is_wrong_step c.args.params.now c.args.names.now (step_seen s)) (sym c.in-Constant.is) ∙ c.requires.right in
    let elements : unsigned_abs c.in-Constant.z ≤ 2147483647 = in_elements c.args.params.now c.args.names.now c.in-Constant.z right in
    let bytes : unsigned_abs (scaled c.pointee_of.result c.in-Constant.z) ≤ 2147483647 = rw c.pointee_of.ensures (in_bytes c.args.params.now c.args.names.now c.in-Constant.z c.args.id c.requires.listed right) in
    subst (λ (z : ℤ). unsigned_abs (scaled c.pointee_of.result z) ≤ 2147483647) (sym (to_z-of_z w128 c.in-Constant.z (search rules))) bytes
