-- What the command prints that the words ask for, and what holds with each of its answers.
use Rattle.std.specs.Prelude.{◌≡◌, ◌≢◌, ⊤, ℕ, List, Option, None}
use Rattle.vk_types.specs.declared.types.Stop.{Stop}
use Rattle.vk_io.specs.Counts.{IsOneOf}
use Rattle.vk_io.specs.Sink.{SinkState}
use Rattle.vk_io.specs.Store.{StoreState}
use Rattle.vk_ends.specs.declared.ends.End.{End}
use Rattle.vk_requests.specs.Command.{Command, demangle, lanes, mangle}
use Rattle.vk_kinds.specs.declared.kinds.Isa.TheVariants.{S}
use Rattle.vk_cmd_demangle.specs.Demangle.{DemangleHolds, PrintsNames}
use Rattle.vk_cmd_lanes.specs.Lanes.{Asked, LanesHolds, PrintsLanes}
use Rattle.vk_cmd_mangle.specs.Mangle.{MangleHolds, PrintsMangled}
use Rattle.vk_words_units.specs.Lanes.{LanesAsked}

-- a call as its command takes it
abbrev pub called : LanesAsked → Asked
called r = record { isa = r.isa; unit = r.unit; name = r.name; given = record { bits = r.mask; texts = r.arguments }; turns = r.turns }

-- a command for a letter whose vectors have one length
abbrev pub HasFixedLetter : Command → Type 0
HasFixedLetter (lanes r) = r.isa ≡ S → ⊥
HasFixedLetter (demangle name) = ⊤
HasFixedLetter (mangle r) = ⊤

-- over files with these contents the command prints this text, and then it is done, or stops so
abbrev pub CommandPrints : Command → (List ℕ → Option (List ℕ)) → List ℕ → Option Stop → Type 0
CommandPrints (demangle name) file text stop = PrintsNames (file name) text stop
CommandPrints (lanes r) file text stop = PrintsLanes (called r) (file r.unit) text stop
CommandPrints (mangle r) file text stop = PrintsMangled r.target (file r.unit) text stop

-- the record of each command
abbrev pub CommandHolds : Command → (store store_now : StoreState) → (out out_now : SinkState) → End → Type 0
CommandHolds (demangle name) store store_now out out_now end = DemangleHolds name store store_now out out_now end
CommandHolds (lanes r) store store_now out out_now end = LanesHolds (called r) store store_now out out_now end
CommandHolds (mangle r) store store_now out out_now end = MangleHolds r.target r.unit store store_now out out_now end

-- each of these files is there, and reading it has not failed yet
abbrev pub AreThere : List (List ℕ) → StoreState → Type 0
AreThere names store = (q : List ℕ) → IsOneOf names q → (store.file q ≢ None) × (store.reads q ≡ 0)
