-- What the words of a command ask.
use Rattle.std.specs.Prelude.{◌≡◌, ◌⊎◌, ◌≤◌, ◌<◌, ℕ, Bool, true, List, [], ◌∷◌, codes, decimal, length, map, Option, Some, None}
use Rattle.clap.specs.Words.{App, Text, first_of, matches_of, one_of, takes}
use Rattle.vk_words.specs.Tables.{call_table, demangle_table, link_table, mangle_table, run_table}
use Rattle.vk_words.specs.Reading.{flag_at, value_at, values_at}
use Rattle.vk_kinds.specs.declared.kinds.Isa.{Isa}
use Rattle.vk_kinds.specs.declared.kinds.Isa.TheVariants.{B, C, D, E, N, S}
use Rattle.vk_kinds.specs.declared.kinds.Target.{Target}
use Rattle.vk_kinds.specs.declared.kinds.Target.TheVariants.{X86, Arm}

-- ---- values

-- a number of turns, as its text says it
pub record IsTurnsText (text : Text) (n : ℕ) : Type 0 where
  pub spelled : text ≡ decimal n
  pub least : 1 ≤ n
  pub most : n ≤ 1000000000

-- with no text a million
abbrev pub IsTurns : Option Text → ℕ → Type 0
IsTurns None n = n ≡ 1000000
IsTurns (Some text) n = IsTurnsText text n

-- a letter is its own text
abbrev pub letter_text : Isa → Text
letter_text B = codes "b"
letter_text C = codes "c"
letter_text D = codes "d"
letter_text E = codes "e"
letter_text N = codes "n"
letter_text S = codes "s"

abbrev pub IsIsa : Option Text → Isa → Type 0
IsIsa text isa = text ≡ Some (letter_text isa)

-- a vector length is 128, 256, 512, 1024 or 2048
abbrev pub IsVlText : Text → ℕ → Type 0
IsVlText text n = ((text ≡ codes "128") × (n ≡ 128)) ⊎ (((text ≡ codes "256") × (n ≡ 256)) ⊎ (((text ≡ codes "512") × (n ≡ 512))
    ⊎ (((text ≡ codes "1024") × (n ≡ 1024)) ⊎ ((text ≡ codes "2048") × (n ≡ 2048)))))

-- there may be none
abbrev pub IsVl : Option Text → Option ℕ → Type 0
IsVl None vl = vl ≡ None
IsVl (Some t) None = ⊥
IsVl (Some t) (Some n) = IsVlText t n

abbrev pub target_text : Target → Text
target_text X86 = codes "x86-64"
target_text Arm = codes "aarch64"

abbrev pub IsTarget : Option Text → Target → Type 0
IsTarget text target = text ≡ Some (target_text target)

-- ---- commands

-- mangle --target T UNIT
pub record MangleAsked : Type 0 where
  pub target : Target
  pub unit : Text

pub record IsMangle (words : List Text) (r : MangleAsked) : Type 0 where
  pub taken : takes mangle_table words ≡ true
  pub target : IsTarget (value_at mangle_table (codes "target") words) r.target
  pub unit : value_at mangle_table (codes "UNIT") words ≡ Some r.unit

-- P4 of it
pub record IsMangleUnstated (words : List Text) : Type 0 where
  pub taken : takes mangle_table words ≡ true
  pub target : (target : Target) → IsTarget (value_at mangle_table (codes "target") words) target → ⊥

-- call [--mask BITS] [--turns N] IMG NAME ARG..
pub record CallAsked : Type 0 where
  pub image : Text
  pub name : Text
  pub arguments : List Text
  pub mask : Option Text
  pub turns : ℕ

pub record IsCall (words : List Text) (r : CallAsked) : Type 0 where
  pub taken : takes call_table words ≡ true
  pub image : value_at call_table (codes "IMG") words ≡ Some r.image
  pub name : value_at call_table (codes "NAME") words ≡ Some r.name
  pub arguments : values_at call_table (codes "ARG") words ≡ r.arguments
  pub mask : value_at call_table (codes "mask") words ≡ r.mask
  pub turns : IsTurns (value_at call_table (codes "turns") words) r.turns

-- P4 of it
pub record IsCallUnstated (words : List Text) : Type 0 where
  pub taken : takes call_table words ≡ true
  pub turns : (n : ℕ) → IsTurns (value_at call_table (codes "turns") words) n → ⊥

-- run [--turns N] [--stats] IMG
pub record RunAsked : Type 0 where
  pub image : Text
  pub turns : ℕ
  pub has_stats : Bool

pub record IsRun (words : List Text) (r : RunAsked) : Type 0 where
  pub taken : takes run_table words ≡ true
  pub image : value_at run_table (codes "IMG") words ≡ Some r.image
  pub turns : IsTurns (value_at run_table (codes "turns") words) r.turns
  pub stats : flag_at run_table (codes "stats") words ≡ r.has_stats

pub record IsRunUnstated (words : List Text) : Type 0 where
  pub taken : takes run_table words ≡ true
  pub turns : (n : ℕ) → IsTurns (value_at run_table (codes "turns") words) n → ⊥

-- link --isa I [--vl V] -o IMG OBJ..
pub record LinkAsked : Type 0 where
  pub isa : Isa
  pub vl : Option ℕ
  pub image : Text
  pub objects : List Text

pub record IsLink (words : List Text) (r : LinkAsked) : Type 0 where
  pub taken : takes link_table words ≡ true
  pub isa : IsIsa (value_at link_table (codes "isa") words) r.isa
  pub vl : IsVl (value_at link_table (codes "vl") words) r.vl
  pub image : value_at link_table (codes "o") words ≡ Some r.image
  pub first : Text
  pub at_first : value_at link_table (codes "OBJ") words ≡ Some first
  pub objects : r.objects ≡ first ∷ values_at link_table (codes "MORE") words
  pub most : length r.objects ≤ 64

abbrev pub HasUnstatedLink : List Text → Type 0
HasUnstatedLink words = ((isa : Isa) → IsIsa (value_at link_table (codes "isa") words) isa → ⊥)
    ⊎ (((vl : Option ℕ) → IsVl (value_at link_table (codes "vl") words) vl → ⊥)
    ⊎ (64 ≤ length (values_at link_table (codes "MORE") words)))

pub record IsLinkUnstated (words : List Text) : Type 0 where
  pub taken : takes link_table words ≡ true
  pub value : HasUnstatedLink words

-- demangle FILE
pub record IsDemangle (words : List Text) (name : Text) : Type 0 where
  pub taken : takes demangle_table words ≡ true
  pub file : value_at demangle_table (codes "FILE") words ≡ Some name
