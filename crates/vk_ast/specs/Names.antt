-- Tables of names: lists of different texts, each known by its place.
use Rattle.std.specs.Prelude.{◌≡◌, ℕ, ◌<◌, length, List, [], ◌∷◌, ◌++◌, map, slice_get, Some, ◌⊎◌}
use Rattle.std.specs.Global.{Vec}
use Rattle.indexmap.specs.IndexSet.{IndexSet}

abbrev pub texts_of : {S : Type 0} → IndexSet (Vec ℕ) S → List (List ℕ)
texts_of set = map (λ v. v.items) set.keys

-- a text has one number
abbrev pub AreDistinct : List (List ℕ) → Type 0
AreDistinct texts = (j k : ℕ) (text : List ℕ) → slice_get texts j ≡ Some text → slice_get texts k ≡ Some text → j ≡ k

-- the table after a text was added, and the text's number
pub record IsAdded (old new : List (List ℕ)) (text : List ℕ) (id : ℕ) : Type 0 where
  pub has : slice_get new id ≡ Some text
  pub within : id < length new
  -- all numbers keep their texts
  pub keeps : (k : ℕ) (t : List ℕ) → slice_get old k ≡ Some t → slice_get new k ≡ Some t
  -- at most this text is new
  pub grows : (new ≡ old) ⊎ (new ≡ old ++ text ∷ [])
  pub distinct : AreDistinct new
