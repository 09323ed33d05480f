use Rattle.std.proofs.Common.{rules}
use Rattle.vk_io.proofs.Grown.{GrowsWithin-none, Puts-stopped}
use Rattle.vk_io.proofs.memory_sink.MemSinkSink.put.Goals as goal

pub returns-in_err-extend_from_slice-clause-put : goal.returns-in_err-extend_from_slice-clause-put
returns-in_err-extend_from_slice-clause-put c =
    rw c.in_err-extend_from_slice.ensures.items (Puts-stopped _ _ _ _ (search rules) (GrowsWithin-none _ _))
