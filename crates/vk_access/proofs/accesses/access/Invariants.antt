use Rattle.vk_object.specs.Lane.{acts}
use Rattle.vk_object.specs.Machine.{sweep}
use Rattle.vk_frames.specs.Frames.{lanes_of}
use Rattle.vk_steps.specs.Places.{FitsPlace, regs}
use Rattle.vk_access.specs.Outer.{Goes, outer_of}
use Rattle.vk_access.specs.Stores.{FitsStore, extents}
use Rattle.vk_access.proofs.accesses.access.Given as goal

abbrev pub invariant-loop-lane : goal.invariant-loop-lane
invariant-loop-lane g l = record {
  fits : FitsPlace l.place l.frame;
  store : FitsStore l.place.image.now l.memory;
  goes : Goes (lanes_of l.fn.frame) (lanes_of l.frame) (outer_of l.fn.memory (g.O.Sink.state l.fn.out)) (outer_of l.memory (g.O.Sink.state l.out))
      (sweep l.lane (λ j v. acts (extents l.place.image.now) (regs l.place) l.instr.m j l.operation v));
}
