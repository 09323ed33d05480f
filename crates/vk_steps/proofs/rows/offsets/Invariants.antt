use Rattle.std.proofs.Common.{◌≡◌}
use Rattle.vk_code.specs.Listing.{listing_of}
use Rattle.vk_object.specs.Lane.{number_at}
use Rattle.vk_object.specs.Memory.{moved}
use Rattle.vk_frames.specs.Each.{each}
use Rattle.vk_frames.specs.Frames.{FitsAs, lanes_of}
use Rattle.vk_steps.specs.Locals.{live_as, with_pointer}
use Rattle.vk_steps.proofs.rows.offsets.Given as goal

abbrev pub invariant-loop-lane : goal.invariant-loop-lane
invariant-loop-lane l = record {
  fits : FitsAs l.fn.frame l.frame;
  lanes : lanes_of l.frame ≡ each l.lane (λ j k. live_as l.m k (with_pointer k l.d (moved (k.reg l.a) (number_at (listing_of l.code).routine.regs k l.b)))) (lanes_of l.fn.frame);
}
