-- What the words of the commands over units and of the generator ask.
use Rattle.std.specs.Prelude.{◌≡◌, ◌⊎◌, ◌≤◌, ℕ, true, List, ◌∷◌, codes, decimal, length, Option, Some, None}
use Rattle.clap.specs.Words.{Text, takes}
use Rattle.vk_words.specs.Tables.{clone_table, gen_table, units_table}
use Rattle.vk_words.specs.Reading.{value_at, values_at}
use Rattle.vk_words.specs.Asked.{IsIsa, IsTarget, IsTurns, IsVl}
use Rattle.vk_kinds.specs.declared.kinds.Isa.{Isa}
use Rattle.vk_kinds.specs.declared.kinds.Target.{Target}

-- ---- values

-- a number of generated functions, as its text says it
pub record IsFunctionsText (text : Text) (n : ℕ) : Type 0 where
  pub spelled : text ≡ decimal n
  pub least : 1 ≤ n
  pub most : n ≤ 200

abbrev pub IsFunctions : Option Text → ℕ → Type 0
IsFunctions None n = ⊥
IsFunctions (Some text) n = IsFunctionsText text n

-- ---- commands

-- clone --target T -o OBJ UNIT
pub record CloneAsked : Type 0 where
  pub target : Target
  pub object : Text
  pub unit : Text

pub record IsClone (words : List Text) (r : CloneAsked) : Type 0 where
  pub taken : takes clone_table words ≡ true
  pub target : IsTarget (value_at clone_table (codes "target") words) r.target
  pub object : value_at clone_table (codes "o") words ≡ Some r.object
  pub unit : value_at clone_table (codes "UNIT") words ≡ Some r.unit

pub record IsCloneUnstated (words : List Text) : Type 0 where
  pub taken : takes clone_table words ≡ true
  pub target : (target : Target) → IsTarget (value_at clone_table (codes "target") words) target → ⊥

-- read or all --isa I [--vl V] [--turns N] UNIT..
pub record UnitsAsked : Type 0 where
  pub isa : Isa
  pub vl : Option ℕ
  pub turns : ℕ
  pub units : List Text

pub record IsUnits (name : Text) (words : List Text) (r : UnitsAsked) : Type 0 where
  pub taken : takes (units_table name) words ≡ true
  pub isa : IsIsa (value_at (units_table name) (codes "isa") words) r.isa
  pub vl : IsVl (value_at (units_table name) (codes "vl") words) r.vl
  pub turns : IsTurns (value_at (units_table name) (codes "turns") words) r.turns
  pub first : Text
  pub at_first : value_at (units_table name) (codes "UNIT") words ≡ Some first
  pub units : r.units ≡ first ∷ values_at (units_table name) (codes "MORE") words
  pub most : length r.units ≤ 64

abbrev pub HasUnstatedUnits : Text → List Text → Type 0
HasUnstatedUnits name words = ((isa : Isa) → IsIsa (value_at (units_table name) (codes "isa") words) isa → ⊥)
    ⊎ (((vl : Option ℕ) → IsVl (value_at (units_table name) (codes "vl") words) vl → ⊥)
    ⊎ (((turns : ℕ) → IsTurns (value_at (units_table name) (codes "turns") words) turns → ⊥)
    ⊎ (64 ≤ length (values_at (units_table name) (codes "MORE") words))))

pub record IsUnitsUnstated (name : Text) (words : List Text) : Type 0 where
  pub taken : takes (units_table name) words ≡ true
  pub value : HasUnstatedUnits name words

-- gen --isa I [--vl V] N
pub record GenAsked : Type 0 where
  pub isa : Isa
  pub vl : Option ℕ
  pub functions : ℕ

pub record IsGen (words : List Text) (r : GenAsked) : Type 0 where
  pub taken : takes gen_table words ≡ true
  pub isa : IsIsa (value_at gen_table (codes "isa") words) r.isa
  pub vl : IsVl (value_at gen_table (codes "vl") words) r.vl
  pub functions : IsFunctions (value_at gen_table (codes "N") words) r.functions

abbrev pub HasUnstatedGen : List Text → Type 0
HasUnstatedGen words = ((isa : Isa) → IsIsa (value_at gen_table (codes "isa") words) isa → ⊥)
    ⊎ (((vl : Option ℕ) → IsVl (value_at gen_table (codes "vl") words) vl → ⊥)
    ⊎ ((functions : ℕ) → IsFunctions (value_at gen_table (codes "N") words) functions → ⊥))

pub record IsGenUnstated (words : List Text) : Type 0 where
  pub taken : takes gen_table words ≡ true
  pub value : HasUnstatedGen words
