-- What `mangle` does over a unit: what it prints, how it refuses the unit, and what holds with each answer.
use Rattle.std.specs.Prelude.{◌≡◌, ⊤, ℕ, ◌<◌, ◌≤◌, List, [], ◌∷◌, ◌++◌, length, Option, None, Some}
use Rattle.std.specs.List.{flat_map}
use Rattle.vk_types.specs.declared.types.Stop.{Stop}
use Rattle.vk_io.specs.Sink.{SinkState}
use Rattle.vk_io.specs.Store.{StoreState}
use Rattle.vk_kinds.specs.declared.kinds.Target.{Target}
use Rattle.vk_ends.specs.Holds.{Holds}
use Rattle.vk_ends.specs.declared.ends.Refusal.{Refusal}
use Rattle.vk_ends.specs.declared.ends.Refusal.TheVariants.{Size, Name as Unnamed, Unit as Unfit, NotYet, Call}
use Rattle.vk_ends.specs.declared.ends.End.{End}
use Rattle.vk_ends.specs.declared.ends.End.TheVariants.{Done, Refused, ReadFault, WriteFault, Memory}
use Rattle.vk_rules_book.specs.Rules.{Subject}
use Rattle.vk_rules.specs.UnitNames.{unit_names}
use Rattle.vk_accept.specs.Accepted.{HasSimdLine, IsAccepted, IsUnitRefused}

-- each name, and a newline behind it
abbrev pub name_line : List ℕ → List ℕ
name_line name = name ++ 10 ∷ []

abbrev pub name_lines : List (List ℕ) → List ℕ
name_lines names = flat_map name_line names

-- the bytes are an accepted unit, compiled for this target, which gives these vector names
pub record IsNamed (target : Target) (bytes : List ℕ) (names : List (List ℕ)) : Type 0 where
  pub unit : Subject
  pub accepted : IsAccepted bytes unit
  pub target_is : unit.target ≡ target
  pub names_are : names ≡ unit_names unit

-- of an accepted unit of at most 1048576 bytes each vector name is printed, and then it is done
abbrev pub PrintsMangled : Target → Option (List ℕ) → List ℕ → Option Stop → Type 0
PrintsMangled target None text stop = ⊥
PrintsMangled target (Some bytes) text stop =
    (length bytes ≤ 1048576) × (stop ≡ None) × (names : List (List ℕ)) × IsNamed target bytes names × (text ≡ name_lines names)

-- a longer file is refused, else the first rule that the unit breaks; a unit with a SIMD line is not built yet
abbrev pub RefusesMangled : Target → Option (List ℕ) → Refusal → Type 0
RefusesMangled target None refusal = ⊥
RefusesMangled target (Some bytes) (Size input) = (input ≡ 0) × (1048576 < length bytes)
RefusesMangled target (Some bytes) (Unfit input line directive rule) =
    (length bytes ≤ 1048576) × (input ≡ 0) × IsUnitRefused bytes target line directive rule
RefusesMangled target (Some bytes) (NotYet input) = (length bytes ≤ 1048576) × (input ≡ 0) × HasSimdLine bytes
RefusesMangled target (Some bytes) _ = ⊥

-- the ends that it has at all: there is one input, and nothing stops
abbrev pub AllowsMangled : End → Type 0
AllowsMangled Done = ⊤
AllowsMangled (Refused (Size input)) = input ≡ 0
AllowsMangled (Refused (Unfit input line directive rule)) = input ≡ 0
AllowsMangled (Refused (NotYet input)) = input ≡ 0
AllowsMangled (ReadFault input) = input ≡ 0
AllowsMangled WriteFault = ⊤
AllowsMangled Memory = ⊤
AllowsMangled _ = ⊥

-- what holds with each answer of `mangle --target T UNIT`
abbrev pub MangleHolds : Target → (unit : List ℕ) → (store store_now : StoreState) → (out out_now : SinkState) → End → Type 0
MangleHolds target unit store store_now out out_now end =
    Holds (unit ∷ []) (PrintsMangled target (store.file unit)) (RefusesMangled target (store.file unit)) AllowsMangled store store_now out out_now end
