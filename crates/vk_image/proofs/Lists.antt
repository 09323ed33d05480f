-- Lists in order, two by two, and mapped.
use Rattle.std.proofs.Common.{◌≡◌, ℕ, zero, suc, ◌+◌, ◌<◌, ◌≤◌, Bool, true, ◌&&◌, List, [], ◌∷◌, length, map, drop, get_or, refl, ap, ap₂, sym, ◌∙◌, add-one, arith}
use Rattle.std.proofs.Math.Seq.{drop-cons}
use Rattle.vk_code.specs.declared.env.FunctionHead.{FunctionHead}
use Rattle.vk_code.specs.declared.env.ObjectHead.{ObjectHead}
use Rattle.vk_code.specs.Tests.{pairs}
use Rattle.vk_code.specs.Valid.{Environment, callee_of}
use Rattle.vk_object.specs.declared.tables.ImageTables.{ImageTables}
use Rattle.vk_object.specs.Images.{names_of, object_of}
use Rattle.vk_object.specs.Tables.{array_list_of, tables_of}
use Rattle.vk_object.specs.Texts.{ascend}

-- ---- lists in order

pub ascend-drop : {A : Type 0} (p : A → A → Bool) (xs : List A) (i : ℕ) (d e : A) → i + 1 < length xs →
    ascend p (drop i xs) ≡ (p (get_or xs i d) (get_or xs (i + 1) e) && ascend p (drop (i + 1) xs))
ascend-drop p xs i d e h =
    let here = drop-cons xs i d (omega (arith, h)) ∙ ap (λ n. get_or xs i d ∷ drop n xs) (sym (add-one i)) in
    let next = drop-cons xs (i + 1) e h in
    ap (ascend p) (here ∙ ap (λ l. get_or xs i d ∷ l) next)
    ∙ ap (λ l. p (get_or xs i d) (get_or xs (i + 1) e) && ascend p l) (sym next)

pub ascend_end : {A : Type 0} (p : A → A → Bool) (xs : List A) (i : ℕ) → length xs ≤ i + 1 → ascend p (drop i xs) ≡ true
ascend_end p [] zero h = refl
ascend_end p [] (suc i) h = refl
ascend_end p (x ∷ []) zero h = refl
ascend_end p (x ∷ y ∷ xs) zero h = absurd (omega (arith, h))
ascend_end p (x ∷ xs) (suc i) h = ascend_end p xs i (omega (arith, h))

pub ascend-map : {A B : Type 0} (p : B → B → Bool) (g : A → B) (xs : List A) → ascend p (map g xs) ≡ ascend (λ a b. p (g a) (g b)) xs
ascend-map p g [] = refl
ascend-map p g (x ∷ []) = refl
ascend-map p g (x ∷ y ∷ xs) = ap (λ b. p (g x) (g y) && b) (ascend-map p g (y ∷ xs))

-- ---- lists two by two

pub pairs-map : {A B C D : Type 0} (p : B → D → Bool) (g : A → B) (h : C → D) (xs : List A) (ys : List C) → pairs p (map g xs) (map h ys) ≡ pairs (λ x y. p (g x) (h y)) xs ys
pairs-map p g h [] [] = refl
pairs-map p g h [] (y ∷ ys) = refl
pairs-map p g h (x ∷ xs) [] = refl
pairs-map p g h (x ∷ xs) (y ∷ ys) = ap (λ b. p (g x) (h y) && b) (pairs-map p g h xs ys)

pub map_map : {A B C : Type 0} (f : B → C) (g : A → B) (xs : List A) → map f (map g xs) ≡ map (λ x. f (g x)) xs
map_map f g [] = refl
map_map f g (x ∷ xs) = ap (λ l. f (g x) ∷ l) (map_map f g xs)

-- ---- what code may name

abbrev names_from : List FunctionHead → List ObjectHead → Environment
names_from functions objects = record { image = true; callees = map callee_of functions; objects = objects }

pub names_made : (t : ImageTables) (functions : List FunctionHead) (objects : List ObjectHead) → functions ≡ [] → objects ≡ map (λ a. object_of (array_list_of a)) t.arrays.items → names_from functions objects ≡ names_of (tables_of t)
names_made t functions objects h k = ap₂ names_from h (k ∙ sym (map_map object_of array_list_of t.arrays.items))
