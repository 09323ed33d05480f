-- What the words of `lanes` with a mask and a limit of turns ask.
use Rattle.std.specs.Prelude.{◌≡◌, ◌⊎◌, ℕ, true, List, [], ◌∷◌, codes, map, option_map, Option, Some}
use Rattle.clap.specs.Words.{App, Text, takes}
use Rattle.vk_words.specs.Tables.{option_rule, place_rule, required, rest_rule, table}
use Rattle.vk_words.specs.Reading.{value_at, values_at}
use Rattle.vk_words.specs.Asked.{IsIsa, IsTurns}
use Rattle.vk_kinds.specs.declared.kinds.Isa.{Isa}
use Rattle.vk_kinds.specs.declared.kinds.Isa.TheVariants.{S}
use Rattle.vk_words_units.specs.declared.lanes.LanesRequest.{LanesRequest}

-- lanes --isa I [--mask BITS] [--turns N] UNIT NAME ARG..
abbrev pub lanes_table : App
lanes_table = table (codes "lanes") (required (option_rule (codes "isa")) ∷ required (place_rule (codes "UNIT"))
    ∷ required (place_rule (codes "NAME")) ∷ rest_rule (codes "ARG") ∷ option_rule (codes "mask") ∷ option_rule (codes "turns") ∷ [])

pub record LanesAsked : Type 0 where
  pub isa : Isa
  pub unit : Text
  pub name : Text
  pub arguments : List Text
  pub mask : Option Text
  pub turns : ℕ

abbrev pub lanes_asked : LanesRequest → LanesAsked
lanes_asked r = record {
  isa = r.isa;
  unit = r.unit.now;
  name = r.name.now;
  arguments = map (λ s. s.now) r.arguments.items;
  mask = option_map (λ s. s.now) r.mask;
  turns = r.turns;
}

-- any letter but `s`, whose vectors have no one length
pub record IsLanes (words : List Text) (r : LanesAsked) : Type 0 where
  pub taken : takes lanes_table words ≡ true
  pub isa : IsIsa (value_at lanes_table (codes "isa") words) r.isa
  pub fixed : r.isa ≡ S → ⊥
  pub unit : value_at lanes_table (codes "UNIT") words ≡ Some r.unit
  pub name : value_at lanes_table (codes "NAME") words ≡ Some r.name
  pub arguments : values_at lanes_table (codes "ARG") words ≡ r.arguments
  pub mask : value_at lanes_table (codes "mask") words ≡ r.mask
  pub turns : IsTurns (value_at lanes_table (codes "turns") words) r.turns

abbrev pub HasUnstatedLanes : List Text → Type 0
HasUnstatedLanes words = ((isa : Isa) → IsIsa (value_at lanes_table (codes "isa") words) isa → isa ≡ S)
    ⊎ ((turns : ℕ) → IsTurns (value_at lanes_table (codes "turns") words) turns → ⊥)

-- P4 of it
pub record IsLanesUnstated (words : List Text) : Type 0 where
  pub taken : takes lanes_table words ≡ true
  pub value : HasUnstatedLanes words
