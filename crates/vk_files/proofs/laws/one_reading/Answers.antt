use Rattle.vk_files.proofs.Readings.{one_contents, one_first, readable_not_long}
use Rattle.vk_files.proofs.laws.one_reading.Goals as goal

pub returns-clause-contents : goal.returns-clause-contents
returns-clause-contents c = one_contents

pub returns-clause-apart : goal.returns-clause-apart
returns-clause-apart c = readable_not_long

pub returns-clause-first : goal.returns-clause-first
returns-clause-first c = one_first
