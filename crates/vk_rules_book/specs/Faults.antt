-- Faults and their order: by place, then by letter in the order C, D, S, then by number.
use Rattle.std.specs.Prelude.{ℕ, ◌==◌, Bool, cond, ◌&&◌, ◌||◌, nat_lt, List, [], ◌∷◌, Option, Some, None}
use denote.Enum.Declared.{tag_of}
use Rattle.vk_unit_rules.specs.contracts.rules.UnitRule.{the_type}
use Rattle.vk_unit_rules.specs.declared.rules.UnitRule.{UnitRule}
use Rattle.vk_ast.specs.Directives.{DirectiveTree}
use Rattle.vk_rules_book.specs.declared.faults.Fault.{Fault}

-- the rule's number in the order C1 to C18, D1 to D19, S1 to S7
abbrev pub rank_of : UnitRule → ℕ
rank_of rule = tag_of the_type rule

abbrev pub is_before : Fault → Fault → Bool
is_before a b = nat_lt a.place b.place || ((a.place == b.place) && nat_lt (rank_of a.rule) (rank_of b.rule))

-- the first of two faults; of two that are alike, the one that was found first
abbrev pub first_of : Option Fault → Fault → Option Fault
first_of None new = Some new
first_of (Some old) new = Some (cond (is_before new old) new old)

-- the first of a fault that was found and of more faults
unfoldable pub first_among : Option Fault → List Fault → Option Fault
first_among old [] = old
first_among old (new ∷ rest) = first_among (first_of old new) rest

-- this fault where the test holds, else none
abbrev pub when : Bool → Fault → List Fault
when broken fault = cond broken (fault ∷ []) []

-- ---- what is told with a rule

-- at a token, with the number of a directive
abbrev pub fault_with : (line token : ℕ) → UnitRule → (directive : ℕ) → Fault
fault_with line token rule directive = record { place = token; rule = rule; line = line; directive = directive }

-- at a token
abbrev pub fault_at : (line token : ℕ) → UnitRule → Fault
fault_at line token rule = fault_with line token rule 0

-- at one of a directive's tokens, with the directive's line and number
abbrev pub directive_fault : DirectiveTree → (token : ℕ) → UnitRule → Fault
directive_fault d token rule = fault_with d.line token rule d.number
