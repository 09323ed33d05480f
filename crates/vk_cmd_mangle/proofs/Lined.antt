-- A unit has one list of names, or it is refused.
use Rattle.std.proofs.Common.{◌≡◌, ◌∙◌, ℕ, ◌<◌, ◌≤◌, List, length, Option, None, Some, ap, sym, subst, arith}
use Rattle.vk_types.specs.declared.types.Stop.{Stop}
use Rattle.vk_kinds.specs.declared.kinds.Target.{Target}
use Rattle.vk_unit_rules.specs.declared.rules.UnitRule.{UnitRule}
use Rattle.vk_ends.specs.Holds.{Agrees}
use Rattle.vk_ends.specs.declared.ends.Refusal.{Refusal}
use Rattle.vk_ends.specs.declared.ends.Refusal.TheVariants.{Size, Name as Unnamed, Unit as Unfit, NotYet, Call}
use Rattle.vk_rules.specs.UnitNames.{unit_names}
use Rattle.vk_accept.specs.Accepted.{IsUnitRefused}
use Rattle.vk_accept.proofs.Readings.{accepted_once, accepted_plain, accepted_unrefused}
use Rattle.vk_cmd_mangle.specs.Mangle.{IsNamed, PrintsMangled, RefusesMangled, name_lines}

one_named : (target : Target) (bytes : List ℕ) (m n : List (List ℕ)) → IsNamed target bytes m → IsNamed target bytes n → m ≡ n
one_named target bytes m n a b =
    a.names_are ∙ ap unit_names (accepted_once bytes a.unit b.unit a.accepted b.accepted (a.target_is ∙ sym b.target_is)) ∙ sym b.names_are

one : (target : Target) (bytes : List ℕ) (t u : List ℕ) (p q : Option Stop) → PrintsMangled target (Some bytes) t p → PrintsMangled target (Some bytes) u q → (t ≡ u) × (p ≡ q)
one target bytes t u p q a b = (a.4 ∙ (ap name_lines (one_named target bytes a.2 b.2 a.3 b.3) ∙ sym b.4), a.1 ∙ sym b.1)

unrefused : (target : Target) (bytes : List ℕ) (names : List (List ℕ)) (line directive : ℕ) (rule : UnitRule) → IsNamed target bytes names → IsUnitRefused bytes target line directive rule → ⊥
unrefused target bytes names line directive rule n r =
    accepted_unrefused bytes n.unit line directive rule n.accepted (subst (λ (t : Target). IsUnitRefused bytes t line directive rule) (sym n.target_is) r)

apart : (target : Target) (bytes : List ℕ) (t : List ℕ) (p : Option Stop) (refusal : Refusal) → PrintsMangled target (Some bytes) t p → RefusesMangled target (Some bytes) refusal → ⊥
apart target bytes t p (Size input) a b = let fits = a.0 in let large = b.1 in omega arith
apart target bytes t p (Unnamed line at rule) a b = b
apart target bytes t p (Unfit input line directive rule) a b = unrefused target bytes a.2 line directive rule a.3 b.2
apart target bytes t p (NotYet input) a b = accepted_plain bytes a.3.unit a.3.accepted b.2
apart target bytes t p (Call fault) a b = b

pub one_text : (target : Target) (contents : Option (List ℕ)) → Agrees (PrintsMangled target contents) (RefusesMangled target contents)
one_text target None = record { one = λ t u p q a b. absurd a; apart = λ t p refusal a b. a }
one_text target (Some bytes) = record { one = one target bytes; apart = apart target bytes }
