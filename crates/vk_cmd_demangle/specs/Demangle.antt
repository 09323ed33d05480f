-- What `demangle` does over a file: what it prints, how it refuses the file, and what holds with each answer.
use Rattle.std.specs.Prelude.{◌≡◌, ⊤, ℕ, ◌-◌, ◌<◌, ◌≤◌, List, [], ◌∷◌, length, Option, None, Some}
use Rattle.std.specs.Str.Lines.{lines}
use Rattle.vk_types.specs.declared.types.Stop.{Stop}
use Rattle.vk_io.specs.Sink.{SinkState}
use Rattle.vk_io.specs.Store.{StoreState}
use Rattle.vk_names.specs.Spelling.{Name}
use Rattle.vk_ends.specs.Holds.{Holds}
use Rattle.vk_ends.specs.declared.ends.Refusal.{Refusal}
use Rattle.vk_ends.specs.declared.ends.Refusal.TheVariants.{Size, Name as Unnamed}
use Rattle.vk_ends.specs.declared.ends.End.{End}
use Rattle.vk_ends.specs.declared.ends.End.TheVariants.{Done, Refused, ReadFault, WriteFault, Memory}
use Rattle.vk_cmd_demangle.specs.Lines.{AreNames, IsFirstRefused, name_lines}

-- a file of at most 1048576 bytes whose every line is a name has the line of each printed, and then it is done
abbrev pub PrintsNames : Option (List ℕ) → List ℕ → Option Stop → Type 0
PrintsNames None text stop = ⊥
PrintsNames (Some bytes) text stop =
    (length bytes ≤ 1048576) × (stop ≡ None) × (ns : List Name) × AreNames ns (lines bytes) × (text ≡ name_lines ns)

-- a longer file is refused, and else the first line that is no name; lines are told from 1 on
abbrev pub RefusesNames : Option (List ℕ) → Refusal → Type 0
RefusesNames None refusal = ⊥
RefusesNames (Some bytes) (Size input) = (input ≡ 0) × (1048576 < length bytes)
RefusesNames (Some bytes) (Unnamed line at rule) = (length bytes ≤ 1048576) × (0 < line) × IsFirstRefused (lines bytes) (line - 1) at rule
RefusesNames (Some bytes) _ = ⊥

-- the ends that it has at all: there is one input, and nothing stops
abbrev pub AllowsNames : End → Type 0
AllowsNames Done = ⊤
AllowsNames (Refused (Size input)) = input ≡ 0
AllowsNames (Refused (Unnamed line at rule)) = ⊤
AllowsNames (ReadFault input) = input ≡ 0
AllowsNames WriteFault = ⊤
AllowsNames Memory = ⊤
AllowsNames _ = ⊥

-- what holds with each answer of `demangle FILE`
abbrev pub DemangleHolds : (file : List ℕ) → (store store_now : StoreState) → (out out_now : SinkState) → End → Type 0
DemangleHolds file store store_now out out_now end =
    Holds (file ∷ []) (PrintsNames (store.file file)) (RefusesNames (store.file file)) AllowsNames store store_now out out_now end
