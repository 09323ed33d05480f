-- The arguments of a call on lanes: when they are taken, with which words and mask, and which rule refuses others first.
use Rattle.std.specs.Prelude.{◌≡◌, ℕ, ◌+◌, ◌*◌, ◌<◌, ◌≤◌, ◌⊎◌, Bool, true, false, List, length, map, get_or, Option, option_map, unwrap_or}
use Rattle.std.specs.Borrow.{Bor}
use Rattle.vk_types.specs.declared.types.Word.{Word}
use Rattle.vk_lanes.specs.Words.{word_in}
use Rattle.vk_kinds.specs.declared.heads.CType.{CType}
use Rattle.vk_kinds.specs.declared.kinds.Kind.{Kind}
use Rattle.vk_kinds.specs.declared.kinds.Param.{Param}
use Rattle.vk_kinds.specs.declared.kinds.Kind.TheVariants.{Vector}
use Rattle.vk_meaning.specs.Types.{type_at}
use Rattle.vk_meaning.specs.Lanes.{AreFitting, FitsFrom, IsFirstActive, Words}
use Rattle.vk_ends.specs.declared.ends.CallRule.{CallRule}
use Rattle.vk_ends.specs.declared.ends.CallRule.TheVariants.{A2, A4, A5}
use Rattle.vk_arguments.specs.declared.passed.Callee.{Callee}
use Rattle.vk_arguments.specs.Texts.{IsFaultOfValues, Meaning, is_taken_mask, mask_of, value_of_lane, values_at}

-- what is called: the types and kinds of its parameters, how many lanes it has, and whether lanes may be off
pub record Called : Type 0 where
  pub types : List CType
  pub kinds : List Kind
  pub lanes : ℕ
  pub takes_mask : Bool

abbrev pub kinds_of : List Param → List Kind
kinds_of params = map (λ p. p.kind) params

abbrev pub called : Callee → Called
called c = record { types = c.types.now; kinds = kinds_of c.params.now; lanes = c.lanes; takes_mask = c.takes_mask }

-- what is given: BITS, where there is one, and the ARGs
pub record Given : Type 0 where
  pub bits : Option (List ℕ)
  pub texts : List (List ℕ)

abbrev pub given : Option (Bor (List ℕ)) → List (Bor (List ℕ)) → Given
given bits texts = record { bits = option_map (λ s. s.now) bits; texts = map (λ s. s.now) texts }

-- ---- words

-- the words that the ARGs stand for, by the number of the parameter and that of the lane
abbrev pub words_in : Meaning → List CType → List (List ℕ) → Words
words_in word types texts p lane = (unwrap_or (value_of_lane (values_at word types texts p) lane) (record { 0 = 0 })).0

-- a list of words, one parameter after another
abbrev pub passed : (lanes : ℕ) → List Word → Words
passed n words p lane = word_in words (p * n + lane)

-- ---- faults of an argument, at a parameter and a lane

-- the least pair of a parameter and a lane at which something is so
pub record IsLeastPair (IsAt : (parameter lane : ℕ) → Type 0) (parameter lane : ℕ) : Type 0 where
  pub is : IsAt parameter lane
  pub least : (p l : ℕ) → IsAt p l → (parameter < p) ⊎ ((parameter ≡ p) × (lane ≤ l))

-- a lane of an ARG is wrong, or an ARG is missing or extra
abbrev pub IsWrongAt : Meaning → (lanes : ℕ) → List CType → List (List ℕ) → (parameter lane : ℕ) → Type 0
IsWrongAt word n types texts parameter lane =
    ((parameter < length types) × (parameter < length texts) × IsFaultOfValues n (values_at word types texts parameter) lane)
    ⊎ (((length texts ≤ parameter) × (parameter < length types) × (lane ≡ 0)) ⊎ ((length types ≤ parameter) × (parameter < length texts) × (lane ≡ 0)))

-- an active lane does not fit the first active one by the parameter's kind
pub record IsMisfitAt (types : List CType) (kinds : List Kind) (n : ℕ) (words : Words) (mask : ℕ → Bool) (parameter lane : ℕ) : Type 0 where
  pub parameter_is : parameter < length types
  pub lane_is : lane < n
  pub active : mask lane ≡ true
  pub first : ℕ
  pub first_is : IsFirstActive n mask first
  pub differs : FitsFrom (get_or kinds parameter Vector) (type_at types parameter) types words parameter first lane → ⊥

-- ---- answers

-- BITS is a mask, no ARG is wrong, missing or extra, and the arguments fit their kinds
pub record AreTaken (word : Meaning) (c : Called) (g : Given) : Type 0 where
  pub mask : is_taken_mask c.lanes c.takes_mask g.bits ≡ true
  pub values : (parameter lane : ℕ) → IsWrongAt word c.lanes c.types g.texts parameter lane → ⊥
  pub fitting : AreFitting c.types c.kinds c.lanes (words_in word c.types g.texts) (mask_of c.lanes g.bits)

-- The rule that is broken, with its two numbers: BITS is no mask; else an ARG is wrong, missing or extra; else one does not fit.
abbrev pub IsRefused : Meaning → Called → Given → CallRule → (first second : ℕ) → Type 0
IsRefused word c g A5 first second = (is_taken_mask c.lanes c.takes_mask g.bits ≡ false) × (first ≡ 0) × (second ≡ 0)
IsRefused word c g A4 first second =
    (is_taken_mask c.lanes c.takes_mask g.bits ≡ true) × IsLeastPair (IsWrongAt word c.lanes c.types g.texts) first second
IsRefused word c g A2 first second =
    (is_taken_mask c.lanes c.takes_mask g.bits ≡ true) × ((parameter lane : ℕ) → IsWrongAt word c.lanes c.types g.texts parameter lane → ⊥)
    × IsLeastPair (IsMisfitAt c.types c.kinds c.lanes (words_in word c.types g.texts) (mask_of c.lanes g.bits)) first second
IsRefused word c g _ first second = ⊥
