use Rattle.std.proofs.Common.{◌+◌, ◌-◌, ◌*◌, ◌^◌, ◌≤◌, length, drop, zero}
use Rattle.vk_code.specs.Listing.{call_site_of, simd_site_of}
use Rattle.vk_object.specs.Machine.{Ran, World, again, body_args, call_one, calls_in_turn, enters, run, sweep}
use Rattle.vk_frames.specs.Frames.{lanes_of}
use Rattle.vk_steps.specs.Places.{entry, listing, site}
use Rattle.vk_access.specs.Outer.{Goes, Leads, outer_of, world}
use Rattle.vk_calls.specs.Fetched.{IsPart}
use Rattle.vk_perform.specs.Ready.{IsReady}
use Rattle.vk_perform.proofs.run.+run.Given as goal

abbrev pub decreases-enter : goal.decreases-enter
decreases-enter g l = l.place.now.depth * 2 ^ 40 + 4 * length (listing l.place.now).routine.instrs + 9

abbrev pub decreases-run_block : goal.decreases-run_block
decreases-run_block g l = l.place.now.depth * 2 ^ 40 + 4 * (length (listing l.place.now).routine.instrs - l.from) + 4

abbrev pub decreases-repeat_block : goal.decreases-repeat_block
decreases-repeat_block g l = l.place.now.depth * 2 ^ 40 + 4 * (length (listing l.place.now).routine.instrs - l.from) + 5

abbrev pub decreases-perform : goal.decreases-perform
decreases-perform g l = l.place.now.depth * 2 ^ 40 + 4 * (length (listing l.place.now).routine.instrs - l.at) + 3

abbrev pub decreases-call_slot : goal.decreases-call_slot
decreases-call_slot g l = l.place.now.depth * 2 ^ 40 + 2

abbrev pub decreases-call : goal.decreases-call
decreases-call g l = l.place.now.depth * 2 ^ 40 + 1

abbrev pub decreases-call_each : goal.decreases-call_each
decreases-call_each g l = l.place.now.depth * 2 ^ 40 + 1

abbrev pub decreases-call_one : goal.decreases-call_one
decreases-call_one g l = l.place.now.depth * 2 ^ 40

abbrev pub decreases-run_simd : goal.decreases-run_simd
decreases-run_simd g l = l.place.now.depth * 2 ^ 40 + 2

abbrev pub decreases-call_all_turns : goal.decreases-call_all_turns
decreases-call_all_turns g l = l.place.now.depth * 2 ^ 40 + 1

abbrev pub decreases-call_in_turn : goal.decreases-call_in_turn
decreases-call_in_turn g l = l.place.now.depth * 2 ^ 40

abbrev pub invariant-call_each-loop-lane : goal.invariant-call_each-loop-lane
invariant-call_each-loop-lane g l = record {
  ready : IsReady l.place l.frame l.memory l.cells;
  goes : Goes (lanes_of l.fn.frame) (lanes_of l.frame) (outer_of l.fn.memory (g.O.Sink.state l.fn.out)) (outer_of l.memory (g.O.Sink.state l.out))
      (sweep l.lane (call_one l.m (call_site_of l.found.slot.now) (enters l.found.place.number (site l.found.place))));
}

abbrev pub invariant-repeat_block-loop : goal.invariant-repeat_block-loop
invariant-repeat_block-loop g l = record {
  ready : IsReady l.place l.frame l.memory l.cells;
  leads : Leads World (outer_of l.fn.memory (g.O.Sink.state l.fn.out)) (outer_of l.memory (g.O.Sink.state l.out))
      (λ mem. again (entry l.place).lanes l.m (λ v. run (site l.place) (drop l.from (listing l.place).routine.instrs) zero l.count v) l.place.turns (world (lanes_of l.fn.frame) mem))
      (λ mem. again (entry l.place).lanes l.m (λ v. run (site l.place) (drop l.from (listing l.place).routine.instrs) zero l.count v) (l.place.turns - l.counter) (world (lanes_of l.frame) mem));
}

abbrev pub invariant-run_block-loop-left : goal.invariant-run_block-loop-left
invariant-run_block-loop-left g l = record {
  ready : IsReady l.place l.frame l.memory l.cells;
  part : IsPart l.place l.at l.left;
  past : l.fn.from ≤ l.at;
  leads : Leads World (outer_of l.fn.memory (g.O.Sink.state l.fn.out)) (outer_of l.memory (g.O.Sink.state l.out))
      (λ mem. run (site l.place) (drop l.from (listing l.place).routine.instrs) zero l.count (world (lanes_of l.fn.frame) mem))
      (λ mem. run (site l.place) (drop l.at (listing l.place).routine.instrs) zero l.left (world (lanes_of l.frame) mem));
}

abbrev pub decreases-run_block-loop-left : goal.decreases-run_block-loop-left
decreases-run_block-loop-left g l = l.left

abbrev pub invariant-call_in_turn-loop-turn : goal.invariant-call_in_turn-loop-turn
invariant-call_in_turn-loop-turn g l = record {
  ready : IsReady l.place l.frame l.memory l.cells;
  leads : Leads Ran (outer_of l.fn.memory (g.O.Sink.state l.fn.out)) (outer_of l.memory (g.O.Sink.state l.out))
      (λ mem. calls_in_turn (enters l.body.place.number (site l.body.place)) (body_args (site l.place) (simd_site_of l.body.site.now) (lanes_of l.frame 0) (entry l.body.place).lanes l.base) (entry l.body.place).lanes l.count 0 mem)
      (λ mem. calls_in_turn (enters l.body.place.number (site l.body.place)) (body_args (site l.place) (simd_site_of l.body.site.now) (lanes_of l.frame 0) (entry l.body.place).lanes l.base) (entry l.body.place).lanes (l.count - l.turn) l.turn mem);
}
