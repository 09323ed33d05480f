-- The first of two faults that may be there.
use Rattle.std.specs.Prelude.{Option, Some, None}
use Rattle.vk_rules_book.specs.declared.faults.Fault.{Fault}
use Rattle.vk_rules_book.specs.Faults.{first_of}

abbrev pub joined : Option Fault → Option Fault → Option Fault
joined old None = old
joined old (Some new) = first_of old new
