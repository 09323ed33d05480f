-- A lane after a simd loop.
use Rattle.std.specs.Prelude.{ℕ, nat_lt, cond, Option, Some, None}
use Rattle.vk_types.specs.declared.types.Stop.{Stop}
use Rattle.vk_types.specs.declared.types.Stop.TheVariants.{Turns}
use Rattle.vk_object.specs.Lane.{LaneState, with_stop}

-- it stops where a call stopped, or where more iterations were asked for than turns may be made
abbrev pub settled : ℕ → ℕ → Option Stop → LaneState → LaneState
settled asked turns stop l = elim stop as (λ _. LaneState) [ Some x ↦ with_stop l x | None ↦ cond (nat_lt turns asked) (with_stop l Turns) l ]
