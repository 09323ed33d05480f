-- The words of the first ARGs, one parameter after another.
use Rattle.std.specs.Prelude.{◌≡◌, ℕ, ◌+◌, ◌*◌, ◌<◌, List, length, IfSome, Option, Some, slice_index_or}
use Rattle.std.specs.List.{AllByRecursion}
use Rattle.vk_types.specs.declared.types.Word.{Word}
use Rattle.vk_kinds.specs.declared.heads.CType.{CType}
use Rattle.vk_meaning.specs.Types.{type_at}
use Rattle.vk_meaning.specs.World.{Array}
use Rattle.vk_arguments.specs.Texts.{IsFaultOfValues, Meaning, value_of_lane, values_at}
use Rattle.vk_arguments.specs.Typed.{IsValue}

-- the word in a place, 0 where there is none
abbrev pub word_at : List Word → ℕ → Word
word_at words i = slice_index_or words i (record { 0 = 0 })

-- each value that is there is one of the type
abbrev pub AreValues : List Array → CType → List (Option Word) → Type 0
AreValues arrays t values = AllByRecursion (λ v. IfSome v (IsValue arrays t)) values

-- no lane's value is missing or wrong, and the row has their words
pub record IsRow (arrays : List Array) (n : ℕ) (t : CType) (values : List (Option Word)) (row : List Word) : Type 0 where
  pub size : length row ≡ n
  pub right : (lane : ℕ) → IsFaultOfValues n values lane → ⊥
  pub words : (lane : ℕ) → lane < n → value_of_lane values lane ≡ Some (word_at row lane)
  pub typed : (lane : ℕ) → lane < n → IsValue arrays t (word_at row lane)

-- so it is with the first ARGs, whose rows stand one behind another
pub record AreRows (word : Meaning) (arrays : List Array) (n count : ℕ) (types : List CType) (texts : List (List ℕ)) (rows : List Word) : Type 0 where
  pub size : length rows ≡ count * n
  pub right : (p lane : ℕ) → p < count → IsFaultOfValues n (values_at word types texts p) lane → ⊥
  pub words : (p lane : ℕ) → p < count → lane < n → value_of_lane (values_at word types texts p) lane ≡ Some (word_at rows (p * n + lane))
  pub typed : (p lane : ℕ) → p < count → lane < n → IsValue arrays (type_at types p) (word_at rows (p * n + lane))

-- a lane of one of the first ARGs is wrong
pub record IsWrongIn (word : Meaning) (n count : ℕ) (types : List CType) (texts : List (List ℕ)) (parameter lane : ℕ) : Type 0 where
  pub inside : parameter < count
  pub wrong : IsFaultOfValues n (values_at word types texts parameter) lane
