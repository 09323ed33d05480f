use Rattle.std.proofs.Common.{◌≡◌, map, take, unwrap_or}
use Rattle.vk_reading_rows.specs.Inner.Noted.{noted}
use Rattle.vk_reading_rows.proofs.texts.names_noted.Given as goal

abbrev pub invariant-loop-number : goal.invariant-loop-number
invariant-loop-number g l = l.list.items ≡ map (λ t. unwrap_or (noted l.table t) l.other) (take l.number l.names)
