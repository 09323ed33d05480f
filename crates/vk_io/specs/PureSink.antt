-- What a sink in memory without faults holds.
use Rattle.std.specs.Prelude.{true, false}
use Rattle.vk_io.specs.Sink.{SinkState}
use Rattle.vk_io.specs.declared.pure_sink.PureSink.{PureSink}

-- its bytes, which it tells, and its calls; its count of faults is 0
abbrev pub state_of : PureSink → SinkState
state_of sink = record { tells = true; bytes = sink.bytes.items; calls = sink.calls; faults = 0; is_lean = false }
