use Rattle.vk_settings.proofs.Calls.{one_target}
use Rattle.vk_settings.proofs.Told.{callee_told}
use Rattle.vk_settings.proofs.laws.callees_are_told.Goals as goal

pub returns : goal.returns
returns c ps image program p among slot row at = callee_told ps program.accepted program.tables program.links (one_target ps image program) p among slot row at
