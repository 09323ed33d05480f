-- A lane that a loop leaves as it was.
use Rattle.std.proofs.Common.{◌≡◌, ℕ, false, cond, nat_lt, Option, None, ap, sym, ◌∙◌}
use Rattle.vk_types.specs.declared.types.Stop.{Stop}
use Rattle.vk_types.specs.declared.types.Stop.TheVariants.{Turns}
use Rattle.vk_object.specs.Lane.{LaneState, with_stop}
use Rattle.vk_object.specs.Machine.{put}
use Rattle.vk_frames.proofs.Writes.{put_self}
use Rattle.vk_entries.specs.Settled.{settled}

pub left_alone : (lanes : ℕ → LaneState) (asked turns : ℕ) (stop : Option Stop) → stop ≡ None → nat_lt turns asked ≡ false
    → lanes ≡ put lanes 0 (settled asked turns stop (lanes 0))
left_alone lanes asked turns stop none few =
    sym (ap (put lanes 0) (ap (λ s. settled asked turns s (lanes 0)) none ∙ ap (λ b. cond b (with_stop (lanes 0) Turns) (lanes 0)) few) ∙ put_self lanes 0)
