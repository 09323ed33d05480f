-- What the steps say of the bytes.
use Rattle.std.proofs.Common.{◌≡◌, ℕ, false, inl, inr, List, [], sym, subst, ◌∙◌}
use Rattle.vk_kinds.specs.declared.kinds.Target.{Target}
use Rattle.vk_ast.specs.declared.items.Unit.{Unit as UnitOfNames}
use Rattle.vk_ast.specs.Units.{ItemTree, items_of}
use Rattle.vk_tokens.specs.declared.tokens.Token.{Token}
use Rattle.vk_unit_rules.specs.declared.rules.UnitRule.{UnitRule}
use Rattle.vk_unit_rules.specs.declared.rules.UnitFail.{UnitFail}
use Rattle.vk_unit_rules.specs.declared.rules.UnitFail.TheVariants.{Fault, Memory as NoMemory}
use Rattle.vk_lex.specs.Characters.{last_line}
use Rattle.vk_lex.specs.Tables.{AreTokens}
use Rattle.vk_lex.specs.Tokens.{AreIdentifiers}
use Rattle.vk_parse.specs.Parsing.{Parses, IsWithin, KeepsWords, IsFault}
use Rattle.vk_rules_book.specs.Rules.{faults_of}
use Rattle.vk_rules.specs.declared.fail.CheckFail.{CheckFail}
use Rattle.vk_rules.specs.declared.fail.CheckFail.TheVariants.{Rule as Broken, Memory as Unchecked}
use Rattle.vk_rules.specs.UnitNames.{HaveIdentifiers}
use Rattle.vk_rules.specs.Verdicts.{IsRefused, judged, subject_of}
use Rattle.vk_rules.specs.declared.accepted.Source.{Source}
use Rattle.vk_accept.specs.declared.accepting.NoUnit.{NoUnit}
use Rattle.vk_accept.specs.declared.accepting.NoUnit.TheVariants.{Rule, Memory}
use Rattle.vk_accept.specs.Inner.Told.{told_unaccepted, told_unread}
use Rattle.vk_accept.proofs.Identifiers.{unit_identifiers}
use Rattle.vk_accept.specs.Accepted.{IsAccepted, IsUnitRefused}
use Rattle.vk_accept.specs.Units.{IsUnit, IsUnitFault, has_simd_line}

-- the tree that was read is the unit's
unit_in : (bytes : List ℕ) (names table : List (List ℕ)) (ts : List Token) (items : List ItemTree) (h : ℕ) → table ≡ names → AreTokens bytes names ts →
    Parses names ts items h → IsWithin names ts items h → KeepsWords names ts → IsUnit bytes ts table items
unit_in bytes names table ts items h same are parses within words =
    subst (λ t. IsUnit bytes ts t items) (sym same) (record { are = are; height = h; parses = parses; within = within; words = words })

pub unit_read : (bytes : List ℕ) (names : List (List ℕ)) (ts : List Token) (u : UnitOfNames) → AreTokens bytes names ts →
    (h : ℕ) × (Parses names ts (items_of u) h × (IsWithin names ts (items_of u) h × KeepsWords names ts)) → u.names ≡ names → IsUnit bytes ts u.names (items_of u)
unit_read bytes names ts u are found same = unit_in bytes names u.names ts (items_of u) found.0 same are found.1.0 found.1.1.0 found.1.1.1

pub fault_read : (bytes : List ℕ) (names : List (List ℕ)) (ts : List Token) (last line : ℕ) (rule : UnitRule) → AreTokens bytes names ts → last ≡ last_line bytes →
    IsFault names ts last line rule → IsUnitFault bytes line rule
fault_read bytes names ts last line rule are same fault =
    inr (record { names = names; tokens = ts; are = are; fault = subst (λ l. IsFault names ts l line rule) same fault })

-- ---- what is told

fault_told : (fail : UnitFail) (told : NoUnit) (line directive : ℕ) (rule : UnitRule) → told ≡ told_unread fail → told ≡ Rule line directive rule → (directive ≡ 0) × (fail ≡ Fault line rule)
fault_told (Fault l r) told line directive rule is e =
    let same : Rule l 0 r ≡ Rule line directive rule = sym is ∙ e in (cc, cc)
fault_told NoMemory told line directive rule is e = let same : Memory ≡ Rule line directive rule = sym is ∙ e in absurd cc

pub tree_refused : (bytes : List ℕ) (target : Target) (names : List (List ℕ)) (ts : List Token) (last : ℕ) (fail : UnitFail) (told : NoUnit) → AreTokens bytes names ts → last ≡ last_line bytes
    → ((line : ℕ) (rule : UnitRule) → fail ≡ Fault line rule → IsFault names ts last line rule) → told ≡ told_unread fail
    → (line directive : ℕ) (rule : UnitRule) → told ≡ Rule line directive rule → IsUnitRefused bytes target line directive rule
tree_refused bytes target names ts last fail told are same fault is line directive rule e =
    let f = fault_told fail told line directive rule is e in inl (f.0, fault_read bytes names ts last line rule are same (fault line rule f.1))

broken_told : (fail : CheckFail) (told : NoUnit) (line directive : ℕ) (rule : UnitRule) → told ≡ told_unaccepted fail → told ≡ Rule line directive rule → fail ≡ Broken line directive rule
broken_told (Broken l d r) told line directive rule is e = let same : Rule l d r ≡ Rule line directive rule = sym is ∙ e in cc
broken_told Unchecked told line directive rule is e = let same : Memory ≡ Rule line directive rule = sym is ∙ e in absurd cc

pub check_refused : (bytes : List ℕ) (target : Target) (ts : List Token) (u : UnitOfNames) (fail : CheckFail) (told : NoUnit) → IsUnit bytes ts u.names (items_of u) → has_simd_line ts ≡ false
    → ((line directive : ℕ) (rule : UnitRule) → fail ≡ Broken line directive rule → IsRefused (subject_of u target) line directive rule) → told ≡ told_unaccepted fail
    → (line directive : ℕ) (rule : UnitRule) → told ≡ Rule line directive rule → IsUnitRefused bytes target line directive rule
check_refused bytes target ts u fail told unit plain refused is line directive rule e =
    inr (record {
      tokens = ts;
      names = u.names;
      items = items_of u;
      is = unit;
      plain = plain;
      refused = refused line directive rule (broken_told fail told line directive rule is e);
    })

pub check_accepted : (bytes : List ℕ) (target : Target) (ts : List Token) (u : UnitOfNames) (checked : Source) → checked ≡ record { unit = u; target = target } → IsUnit bytes ts u.names (items_of u)
    → has_simd_line ts ≡ false → faults_of (judged checked) ≡ [] → IsAccepted bytes (judged checked)
check_accepted bytes target ts u checked same unit plain sound =
    let own : Source = record { unit = u; target = target } in
    subst (λ (s : Source). faults_of (judged s) ≡ [] → IsAccepted bytes (judged s)) (sym same) (λ quiet. record { tokens = ts; is = unit; plain = plain; sound = quiet }) sound

pub check_identifiers : (bytes : List ℕ) (target : Target) (ts : List Token) (u : UnitOfNames) (checked : Source) → checked ≡ record { unit = u; target = target } → IsUnit bytes ts u.names (items_of u) → AreIdentifiers u.names
    → HaveIdentifiers (judged checked)
check_identifiers bytes target ts u checked same unit words =
    subst (λ (s : Source). HaveIdentifiers (judged s)) (sym same) (unit_identifiers bytes ts u.names (items_of u) target unit words)
