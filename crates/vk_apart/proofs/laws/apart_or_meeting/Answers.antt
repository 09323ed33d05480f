use Rattle.vk_apart.proofs.Answering.{apart, not_meeting}
use Rattle.vk_apart.proofs.laws.apart_or_meeting.Goals as goal

pub returns-clause-apart : goal.returns-clause-apart
returns-clause-apart c = apart

pub returns-clause-meeting : goal.returns-clause-meeting
returns-clause-meeting c = not_meeting
