-- How the fails of the steps are told.
use Rattle.vk_unit_rules.specs.declared.rules.UnitFail.{UnitFail}
use Rattle.vk_unit_rules.specs.declared.rules.UnitFail.TheVariants.{Fault, Memory as NoMemory}
use Rattle.vk_rules.specs.declared.fail.CheckFail.{CheckFail}
use Rattle.vk_rules.specs.declared.fail.CheckFail.TheVariants.{Rule as Broken, Memory as Unchecked}
use Rattle.vk_accept.specs.declared.accepting.NoUnit.{NoUnit}
use Rattle.vk_accept.specs.declared.accepting.NoUnit.TheVariants.{Rule, Memory}

abbrev pub told_unread : UnitFail → NoUnit
told_unread (Fault line rule) = Rule line 0 rule
told_unread NoMemory = Memory

abbrev pub told_unaccepted : CheckFail → NoUnit
told_unaccepted (Broken line directive rule) = Rule line directive rule
told_unaccepted Unchecked = Memory
