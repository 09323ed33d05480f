-- What a sink in memory holds.
use Rattle.std.specs.Prelude.{ℕ, List, true, false}
use Rattle.vk_io.specs.Sink.{SinkState}
use Rattle.vk_io.specs.declared.memory_sink.MemSink.{MemSink}

-- its bytes, which it tells, and its counts
abbrev pub state_of : MemSink → SinkState
state_of sink = record { tells = true; bytes = sink.bytes.items; calls = sink.schedule.calls; faults = sink.faults; is_lean = false }

-- the numbers of the calls that are to fail
abbrev pub failing_of : MemSink → List ℕ
failing_of sink = sink.schedule.failing.items
