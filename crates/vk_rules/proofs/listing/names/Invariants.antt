use Rattle.std.proofs.Common.{◌≡◌, take}
use Rattle.std.specs.List.{flat_map}
use Rattle.vk_rules.specs.Functions.{functions_of}
use Rattle.vk_rules.specs.UnitNames.{names_of_function}
use Rattle.vk_rules.specs.Verdicts.{judged}
use Rattle.vk_rules.proofs.listing.names.Given as goal

abbrev pub invariant-loop-entry : goal.invariant-loop-entry
invariant-loop-entry l = l.list ≡ flat_map (names_of_function (judged l.fn.unit)) (take l.entry-index (functions_of (judged l.fn.unit)))
