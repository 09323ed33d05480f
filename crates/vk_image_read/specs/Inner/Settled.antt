-- What comes of a part that may be refused once it is whole.
use Rattle.std.specs.Prelude.{◌≡◌, Result, Ok, Err}
use Rattle.vk_format.specs.declared.rules.ObjectFail.{ObjectFail}
use Rattle.vk_format.specs.Format.{Format}
use Rattle.vk_code_read.specs.Inner.Left.{Fails}

-- what is wanted is this now, or it is refused, or memory ran out
abbrev pub Settles : {R T : Type 0} → Result T ObjectFail → Format R → Format R → Type 0
Settles (Ok u) wanted now = wanted ≡ now
Settles (Err e) wanted now = Fails e wanted
