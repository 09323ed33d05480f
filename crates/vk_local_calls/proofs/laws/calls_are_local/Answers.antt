use Rattle.vk_local_calls.proofs.Calls.{call_is_local}
use Rattle.vk_local_calls.proofs.laws.calls_are_local.Goals as goal

pub returns : goal.returns
returns c units lane turns program fixed no_print right text d l = call_is_local units lane turns program no_print right text d l (record {
  reads = c.reads_within_reach.ensures units lane turns program fixed text d l;
  writes = c.writes_within_reach.ensures units lane turns program text d l;
})
