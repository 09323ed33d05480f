-- What holds where the words ask nothing.
use Rattle.std.specs.Prelude.{◌≡◌, ⊤, [], IsTrue}
use Rattle.vk_io.specs.Sink.{SinkState, Stays}
use Rattle.vk_io.specs.Store.{Reads, StoreState}
use Rattle.vk_ends.specs.declared.ends.End.{End}
use Rattle.vk_ends.specs.declared.ends.End.TheVariants.{Words, Memory}

-- the words break a rule, or memory ran out
abbrev pub IsUnasked : End → Type 0
IsUnasked (Words fault) = ⊤
IsUnasked Memory = ⊤
IsUnasked _ = ⊥

-- nothing was read and nothing written
pub record UnaskedHolds (store store_now : StoreState) (out out_now : SinkState) (end : End) : Type 0 where
  pub end_is : IsUnasked end
  pub quiet : IsTrue out.tells → out_now.bytes ≡ out.bytes
  pub reads : Reads [] store store_now
  pub stays : Stays out out_now
