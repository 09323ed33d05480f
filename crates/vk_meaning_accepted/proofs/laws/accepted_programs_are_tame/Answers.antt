use Rattle.vk_meaning_accepted.proofs.Programs.{program_tame}
use Rattle.vk_meaning_accepted.proofs.laws.accepted_programs_are_tame.Goals as goal

pub returns : goal.returns
returns c = program_tame
