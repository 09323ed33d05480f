-- Which rules a unit breaks, and the first of them.
use Rattle.std.specs.Prelude.{◌≡◌, ℕ, false, List, flat_map, Contains}
use Rattle.vk_kinds.specs.declared.kinds.Target.{Target}
use Rattle.vk_ast.specs.Units.{ItemTree}
use Rattle.vk_rules_book.specs.declared.faults.Fault.{Fault}
use Rattle.vk_rules_book.specs.Faults.{is_before}
use Rattle.vk_rules_book.specs.Visits.{Visit, expression, called, statement, parameter, directives, directive, clause, entry, item, initial, unit_visits}
use Rattle.vk_rules_book.specs.Expressions.{expression_faults, called_faults}
use Rattle.vk_rules_book.specs.Statements.{statement_faults, parameter_faults}
use Rattle.vk_rules_book.specs.Directives.{clause_faults, entry_faults, directive_faults, redeclaration_faults}
use Rattle.vk_rules_book.specs.Items.{item_faults, initial_faults}

-- a unit that is judged: its items, the text of each name's number, and what it is compiled for
pub record Subject : Type 0 where
  pub items : List ItemTree
  pub texts : List (List ℕ)
  pub target : Target

-- the rules that are broken at a visit
abbrev pub faults_at : Subject → Visit → List Fault
faults_at unit (expression around scope r e) = expression_faults unit.texts around scope r e
faults_at unit (called around scope l k id arguments) = called_faults unit.texts around scope l k id arguments
faults_at unit (statement around scope s) = statement_faults unit.texts around scope s
faults_at unit (parameter scope n p) = parameter_faults unit.texts scope n p
faults_at unit (directives before f) = redeclaration_faults before f
faults_at unit (directive f earlier d) = directive_faults unit.target f earlier d
faults_at unit (clause f d earlier c) = clause_faults unit.texts f d earlier c
faults_at unit (entry f d earlier e) = entry_faults f d earlier e
faults_at unit (item before i) = item_faults unit.texts unit.items before i
faults_at unit (initial o n e) = initial_faults o n e

-- all that a unit breaks of the rules C8 to C18 and D1 to D19
unfoldable pub faults_of : Subject → List Fault
faults_of unit = flat_map (faults_at unit) (unit_visits unit.texts unit.items)

-- it breaks the rule of this fault
abbrev pub Breaks : Subject → Fault → Type 0
Breaks unit fault = Contains (faults_of unit) fault

-- the first fault: by place, then by letter in the order C, D, S, then by number
pub record IsFirst (unit : Subject) (fault : Fault) : Type 0 where
  pub broken : Breaks unit fault
  pub first : (other : Fault) → Breaks unit other → is_before other fault ≡ false
