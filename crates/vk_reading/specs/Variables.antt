-- Variables as the reader finds them.
use Rattle.std.specs.Prelude.{Option, Some, None}
use Rattle.vk_meaning.specs.Points.{Variable}
use Rattle.vk_reading.specs.declared.variables.Variable.{Variable as AVariable}

-- what is found
abbrev pub found_in : Option AVariable → Option Variable
found_in None = None
found_in (Some v) = Some (record { number = v.number; ctype = v.ctype })
