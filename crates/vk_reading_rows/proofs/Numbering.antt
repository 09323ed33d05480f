-- The numbers of names.
use Rattle.std.proofs.Common.{◌≡◌, ℕ, List, map, Option, position, bytes_eq, unwrap_or, ap, ◌∙◌}
use Rattle.vk_meaning.specs.World.{Array}
use Rattle.vk_meaning.specs.Programs.{array_number}
use Rattle.vk_reading_rows.specs.declared.numbers.ArrayNumbers.{ArrayNumbers}
use Rattle.vk_reading_rows.specs.Numbers.{IsNumbering}
use Rattle.vk_reading_rows.specs.Inner.Noted.{noted}

number_is : (arrays : List Array) (n : ArrayNumbers) → IsNumbering arrays n → (text : List ℕ) → unwrap_or (noted n.by_text text) n.count ≡ array_number arrays text
number_is arrays n is text = ap (λ (o : Option ℕ). unwrap_or o n.count) (is.number text) ∙ ap (λ (k : ℕ). unwrap_or (position (λ a. bytes_eq a.text text) arrays) k) is.count

pub numbers_are : (arrays : List Array) (n : ArrayNumbers) → IsNumbering arrays n → (names : List (List ℕ)) → map (λ t. unwrap_or (noted n.by_text t) n.count) names ≡ map (array_number arrays) names
numbers_are arrays n is names = ap (λ (f : List ℕ → ℕ). map f names) (λ k text. number_is arrays n is text k)
