use Rattle.std.proofs.Common.{rules}
use Rattle.vk_arguments.proofs.Numbers.{moved_number}
use Rattle.vk_arguments.proofs.fitting.is_moved_number.Goals as goal

pub returns : goal.returns
returns c = moved_number _ c.args.t c.args.to c.args.from c.args.by c.sum.result c.wrapped.result (search rules) (search rules) (search rules)
