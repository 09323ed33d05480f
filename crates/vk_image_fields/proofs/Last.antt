-- The last item of a list.
use Rattle.std.proofs.Common.{◌≡◌, ℕ, suc, ◌-◌, ◌≤◌, List, [], ◌∷◌, length, get_or, Some, refl, ap, sym, ◌∙◌, arith}
use Rattle.vk_code_format.specs.Fields.{last_of}

pub last_at : {A : Type 0} (xs : List A) (d : A) → 1 ≤ length xs → last_of xs ≡ Some (get_or xs (length xs - 1) d)
last_at [] d h = absurd (omega (arith, h))
last_at (x ∷ []) d h = refl
last_at (x ∷ y ∷ ys) d h =
    let later : length (x ∷ y ∷ ys) - 1 ≡ suc (length (y ∷ ys) - 1) = omega arith in
    last_at (y ∷ ys) d (omega arith) ∙ ap (λ (n : ℕ). Some (get_or (x ∷ y ∷ ys) n d)) (sym later)

-- an item that stands at the last place is the last one
pub last_is : {A : Type 0} (xs : List A) (x : A) → 1 ≤ length xs → x ≡ get_or xs (length xs - 1) x → last_of xs ≡ Some x
last_is {A = A} xs x h e = last_at xs x h ∙ ap (λ (y : A). Some y) (sym e)
