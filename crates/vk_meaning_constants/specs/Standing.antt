-- What the rules of units compute of a constant, as an evaluation.
use Rattle.vk_numbers.specs.Values as computed
use Rattle.vk_meaning.specs.Data.{number, got, halts, Action}

-- the number, or the stop, and the world as it was
abbrev pub stands_for : computed.Value → Action
stands_for (computed.got z) w = got (number z) w
stands_for (computed.halts stop) w = halts stop w
