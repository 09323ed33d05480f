-- The header of an image.
use Rattle.std.proofs.Common.{◌≡◌, ℕ, List, [], ◌∷◌, ◌++◌, Option, Some, None, Result, Ok, Err, take, refl}
use Rattle.std.specs.Prelude.{codes}
use Rattle.vk_format.specs.declared.rules.ObjectFault.{ObjectFault}
use Rattle.vk_format.specs.declared.rules.ObjectRule.{ObjectRule}
use Rattle.vk_format.specs.declared.rules.ObjectRule.TheVariants.{O3, O4, O8}
use Rattle.vk_format.specs.Format.{fault, judge}
use Rattle.vk_image_format.specs.Image.{image_format}
use Rattle.vk_image_format.specs.declared.rows.RawImage.{RawImage}

-- the first fault of the bytes
abbrev refused : List ℕ → Option ObjectFault
refused bytes = fault_of (judge image_format 0 bytes)
  where
    fault_of : Result RawImage ObjectFault → Option ObjectFault
    fault_of (Ok i) = None
    fault_of (Err f) = Some f

abbrev at : ℕ → ObjectRule → Option ObjectFault
at place rule = Some (fault place rule)

-- no array, no code, no entry; target, letter and vector length as told
abbrev nothing : ℕ → ℕ → ℕ → ℕ → List ℕ
nothing target letter low high = codes "VKLINKED" ++ (1 ∷ 0 ∷ target ∷ letter ∷ low ∷ high ∷ 0 ∷ 0 ∷ 0 ∷ 0 ∷ 0 ∷ 0 ∷ 0 ∷ 0 ∷ 0 ∷ 0 ∷ 0 ∷ 0 ∷ 0 ∷ 0 ∷ 0 ∷ 0 ∷ [])

-- the number of `main` is judged once the last field is complete
main_names_none : refused (nothing 0 98 0 0) ≡ at 14 O8
unfolding judge
main_names_none = refl

main_is_judged_late : refused (take 29 (nothing 0 98 0 0)) ≡ at 29 O4
unfolding judge
main_is_judged_late = refl

letter_z : refused (nothing 0 122 0 0) ≡ at 11 O3
unfolding judge
letter_z = refl

letter_of_the_other_target : refused (nothing 1 98 0 0) ≡ at 11 O3
unfolding judge
letter_of_the_other_target = refl

length_without_s : refused (nothing 0 98 128 0) ≡ at 12 O3
unfolding judge
length_without_s = refl

s_without_length : refused (nothing 1 115 0 0) ≡ at 12 O3
unfolding judge
s_without_length = refl

s_256 : refused (nothing 1 115 0 1) ≡ at 14 O8
unfolding judge
s_256 = refl
