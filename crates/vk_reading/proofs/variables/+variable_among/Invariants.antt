use Rattle.std.proofs.Common.{length}
use Rattle.vk_reading.proofs.variables.+variable_among.Given as goal

-- proposed from what the function passes where it calls itself
abbrev pub decreases-variable_among : goal.decreases-variable_among
decreases-variable_among l = length l.bindings.now
