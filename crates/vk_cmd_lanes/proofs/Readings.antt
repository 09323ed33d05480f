-- The bytes of a unit have one reading: accepted, of the form that is run or of another, or refused, or with a SIMD line.
use Rattle.std.proofs.Common.{◌≡◌, ◌∙◌, ℕ, List, [], ◌∷◌, inl, inr, ap, sym, subst}
use Rattle.vk_kinds.specs.declared.kinds.Target.{Target}
use Rattle.vk_unit_rules.specs.declared.rules.UnitRule.{UnitRule}
use Rattle.vk_ast.specs.Units.{FunctionTree, function}
use Rattle.vk_rules_book.specs.Rules.{Subject}
use Rattle.vk_accept.specs.Accepted.{IsUnitRefused}
use Rattle.vk_accept.proofs.Readings.{accepted_once, accepted_plain, accepted_unrefused}
use Rattle.vk_one_return.specs.Form.{IsForm}
use Rattle.vk_selection.specs.Letters.{target_of}
use Rattle.vk_cmd_lanes.specs.Lanes.{Asked, IsRunUnit, IsUnbuilt, IsUnitFor}

unit_once : (r : Asked) (bytes : List ℕ) (u v : Subject) → IsUnitFor r bytes u → IsUnitFor r bytes v → u ≡ v
unit_once r bytes u v p q = accepted_once bytes u v p.accepted q.accepted (p.target_is ∙ sym q.target_is)

function_alone : (f g : FunctionTree) → function f ∷ [] ≡ function g ∷ [] → f ≡ g
function_alone f g e = cc

pub run_once : (r : Asked) (bytes : List ℕ) (u v : Subject) (f g : FunctionTree) → IsRunUnit r bytes u f → IsRunUnit r bytes v g → (u ≡ v) × (f ≡ g)
run_once r bytes u v f g p q =
    let same = unit_once r bytes u v p.is q.is in
    (same, function_alone f g (sym p.form.items ∙ ap (λ (x : Subject). x.items) same ∙ q.form.items))

pub run_unrefused : (r : Asked) (bytes : List ℕ) (u : Subject) (f : FunctionTree) (line directive : ℕ) (rule : UnitRule) → IsRunUnit r bytes u f →
    IsUnitRefused bytes (target_of r.isa) line directive rule → ⊥
run_unrefused r bytes u f line directive rule p refused =
    accepted_unrefused bytes u line directive rule p.is.accepted (subst (λ (t : Target). IsUnitRefused bytes t line directive rule) (sym p.is.target_is) refused)

pub run_built : (r : Asked) (bytes : List ℕ) (u : Subject) (f : FunctionTree) → IsRunUnit r bytes u f → IsUnbuilt r bytes → ⊥
run_built r bytes u f p unbuilt = elim unbuilt [
  | inl simd ↦ accepted_plain bytes u p.is.accepted simd
  | inr other ↦ other.formless f p.value p.result (subst (λ (x : Subject). IsForm x f p.value p.result) (unit_once r bytes u other.unit p.is other.is) p.form)
]
