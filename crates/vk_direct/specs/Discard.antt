-- What a sink that keeps nothing holds.
use Rattle.std.specs.Prelude.{[], true, false}
use Rattle.vk_io.specs.Sink.{SinkState}
use Rattle.vk_direct.specs.declared.discard.Discard.{Discard}

abbrev pub state_of : Discard → SinkState
state_of sink = record { tells = false; bytes = []; calls = sink.calls; faults = 0; is_lean = true }
