-- Letters, digits and underscores are text.
use Rattle.vk_cmd_demangle.proofs.Described.{name_bytes_text}
use Rattle.vk_cmd_demangle.proofs.describe.scalar_text.Goals as goal

pub unreachable-requires : goal.unreachable-requires
unreachable-requires c = c.in-Err.ensures.cases.0 (name_bytes_text c.args.scalar.now c.requires)
