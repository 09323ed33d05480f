-- The first fault, found one visit after another.
use Rattle.std.specs.Prelude.{List, [], ◌∷◌, Option}
use Rattle.vk_rules_book.specs.declared.faults.Fault.{Fault}
use Rattle.vk_rules_book.specs.Faults.{first_among}
use Rattle.vk_rules_book.specs.Visits.{Visit}
use Rattle.vk_rules_book.specs.Rules.{Subject, faults_at}

-- the first of a fault that was found before and of those at these visits
unfoldable pub found : Subject → Option Fault → List Visit → Option Fault
found unit old [] = old
found unit old (v ∷ vs) = found unit (first_among old (faults_at unit v)) vs
