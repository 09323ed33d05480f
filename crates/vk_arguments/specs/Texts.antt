-- The texts of a call: an ARG is one value for every lane, or one value a lane, separated by commas; BITS is one byte a lane.
use Rattle.std.specs.Prelude.{◌≡◌, ℕ, ◌==◌, ◌<◌, ◌⊎◌, ◌&&◌, ◌||◌, nat_lt, Bool, true, List, [], ◌∷◌, length, map, get_or, Option, Some, None, slice_get, if◌then◌else◌}
use Rattle.std.specs.List.{list_all}
use Rattle.std.specs.Option.{option_flatten}
use Rattle.vk_types.specs.declared.types.Word.{Word}
use Rattle.vk_kinds.specs.declared.heads.CType.{CType}
use Rattle.vk_meaning.specs.Types.{type_at}

-- ---- values

-- the word that the text of one value stands for where a parameter has this type, none where it is no such value
abbrev pub Meaning : Type 0
Meaning = CType → List ℕ → Option Word

-- the parts of a text between its commas
abbrev pub with_front : ℕ → List (List ℕ) → List (List ℕ)
with_front c [] = (c ∷ []) ∷ []
with_front c (p ∷ ps) = (c ∷ p) ∷ ps

abbrev pub parts : List ℕ → List (List ℕ)
parts [] = [] ∷ []
parts (c ∷ cs) = if c == 44 then [] ∷ parts cs else with_front c (parts cs)

-- the values of an ARG, each the word that it stands for or wrong
abbrev pub values_of : Meaning → CType → List ℕ → List (Option Word)
values_of word t text = map (word t) (parts text)

-- the value of a lane: the only one, or the lane's own; none where it is missing or wrong
abbrev pub value_of_lane : List (Option Word) → ℕ → Option Word
value_of_lane [] lane = None
value_of_lane (v ∷ []) lane = v
value_of_lane (v ∷ w ∷ vs) lane = option_flatten (slice_get (v ∷ w ∷ vs) lane)

-- a lane's value is missing or wrong, or there is one too many
abbrev pub IsFaultOfValues : ℕ → List (Option Word) → ℕ → Type 0
IsFaultOfValues n values lane = ((lane < n) × (value_of_lane values lane ≡ None)) ⊎ ((lane ≡ n) × (n < length values))

-- the values of the ARG of a parameter
abbrev pub values_at : Meaning → List CType → List (List ℕ) → ℕ → List (Option Word)
values_at word types texts parameter = values_of word (type_at types parameter) (get_or texts parameter [])

-- ---- masks

-- a lane's byte: `1`, or `0` where lanes may be off
abbrev pub is_bit : (takes_mask : Bool) → ℕ → Bool
is_bit takes_mask c = (c == 49) || (takes_mask && (c == 48))

-- BITS has one of them for each lane
abbrev pub is_mask : (lanes : ℕ) → (takes_mask : Bool) → List ℕ → Bool
is_mask n takes_mask bits = (length bits == n) && list_all (is_bit takes_mask) bits

-- without BITS every lane is active
abbrev pub is_taken_mask : (lanes : ℕ) → (takes_mask : Bool) → Option (List ℕ) → Bool
is_taken_mask n takes_mask None = true
is_taken_mask n takes_mask (Some bits) = is_mask n takes_mask bits

-- a lane is active where its byte, of which lane 0 has the first, is `1`
abbrev pub is_one : Option (List ℕ) → ℕ → Bool
is_one None lane = true
is_one (Some bits) lane = get_or bits lane 48 == 49

abbrev pub mask_of : (lanes : ℕ) → Option (List ℕ) → ℕ → Bool
mask_of n bits lane = nat_lt lane n && is_one bits lane
