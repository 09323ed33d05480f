use Rattle.vk_accept.proofs.Readings.{accepted_once, accepted_plain, accepted_unrefused}
use Rattle.vk_accept.proofs.laws.one_answer.Goals as goal

pub returns-clause-one : goal.returns-clause-one
returns-clause-one c = accepted_once

pub returns-clause-not_refused : goal.returns-clause-not_refused
returns-clause-not_refused c = accepted_unrefused

pub returns-clause-not_simd : goal.returns-clause-not_simd
returns-clause-not_simd c = accepted_plain
