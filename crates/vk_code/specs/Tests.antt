-- Tests on lists and options.
use Rattle.std.specs.Prelude.{ℕ, ◌+◌, Bool, true, false, ◌&&◌, cond, List, [], ◌∷◌, Option, Some, None}
use Rattle.std.specs.List.{list_all}
use Rattle.std.specs.Option.{option_map}

-- there is a member, and it passes
abbrev pub holds : {A : Type 0} → (A → Bool) → Option A → Bool
holds p None = false
holds p (Some x) = p x

-- two lists have one length, and their members pass two by two
abbrev pub pairs : {A B : Type 0} → (A → B → Bool) → List A → List B → Bool
pairs p [] [] = true
pairs p [] (y ∷ ys) = false
pairs p (x ∷ xs) [] = false
pairs p (x ∷ xs) (y ∷ ys) = p x y && pairs p xs ys

-- all verdicts are good
abbrev pub all_good : List Bool → Bool
all_good verdicts = list_all (λ good. good) verdicts

-- the place of the first one that is not
abbrev pub first_bad : List Bool → Option ℕ
first_bad [] = None
first_bad (good ∷ rest) = cond good (option_map (λ n. n + 1) (first_bad rest)) (Some 0)
