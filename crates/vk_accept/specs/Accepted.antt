-- Which bytes are an accepted unit, and how others are refused.
use Rattle.std.specs.Prelude.{◌≡◌, ℕ, ◌⊎◌, true, false, List, []}
use Rattle.vk_kinds.specs.declared.kinds.Target.{Target}
use Rattle.vk_ast.specs.Units.{ItemTree}
use Rattle.vk_tokens.specs.declared.tokens.Token.{Token}
use Rattle.vk_unit_rules.specs.declared.rules.UnitRule.{UnitRule}
use Rattle.vk_rules_book.specs.Rules.{Subject, faults_of}
use Rattle.vk_rules.specs.Verdicts.{IsRefused}
use Rattle.vk_accept.specs.Units.{IsUnit, IsUnitFault, has_simd_line}

-- the bytes are this unit, which has no SIMD line and breaks no rule
pub record IsAccepted (bytes : List ℕ) (unit : Subject) : Type 0 where
  pub tokens : List Token
  pub is : IsUnit bytes tokens unit.texts unit.items
  pub plain : has_simd_line tokens ≡ false
  pub sound : faults_of unit ≡ []

-- the bytes are a unit without SIMD lines whose first fault of C8 to C18 and D1 to D19 is told so
pub record IsRejected (bytes : List ℕ) (target : Target) (line directive : ℕ) (rule : UnitRule) : Type 0 where
  pub tokens : List Token
  pub names : List (List ℕ)
  pub items : List ItemTree
  pub is : IsUnit bytes tokens names items
  pub plain : has_simd_line tokens ≡ false
  pub refused : IsRefused (record { items = items; texts = names; target = target }) line directive rule

-- the rule that the bytes break first, with its line and the number of its directive, 0 where none is concerned
abbrev pub IsUnitRefused : List ℕ → Target → (line directive : ℕ) → UnitRule → Type 0
IsUnitRefused bytes target line directive rule = ((directive ≡ 0) × IsUnitFault bytes line rule) ⊎ IsRejected bytes target line directive rule

-- the bytes are a unit with a SIMD line, which is not built yet
pub record HasSimdLine (bytes : List ℕ) : Type 0 where
  pub tokens : List Token
  pub names : List (List ℕ)
  pub items : List ItemTree
  pub is : IsUnit bytes tokens names items
  pub simd : has_simd_line tokens ≡ true
