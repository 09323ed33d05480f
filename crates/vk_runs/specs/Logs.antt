-- Logs that grow.
use Rattle.std.specs.Prelude.{◌≡◌, List, ◌++◌}
use Rattle.vk_object.specs.Memory.{Event, Memory}

-- the second log is the first one and some events more
pub record Grows (before after : Memory) : Type 0 where
  pub events : List Event
  pub appended : after.log ≡ before.log ++ events
