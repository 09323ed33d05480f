use Rattle.vk_names.proofs.Staying.{ended_stays, text_stays, name_stays, due_stays, refusal_stays}
use Rattle.vk_names.proofs.laws.answers_stay.Goals as goal

pub returns : goal.returns
returns c = record { ended = ended_stays; text = text_stays; name = name_stays; due = due_stays; refusal = refusal_stays }
