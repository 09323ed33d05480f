-- By cases on the type.
use Rattle.vk_types.proofs.WrapNumber.{differs, only}
use Rattle.vk_types.proofs.laws.wrapping.Goals as goal

pub returns-clause-differs : goal.returns-clause-differs
returns-clause-differs c = differs

pub returns-clause-only : goal.returns-clause-only
returns-clause-only c = only
