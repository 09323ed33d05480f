-- Vectors of eight lanes: what is computed of them lane by lane.
use Rattle.std.proofs.Common.{◌≡◌, ℕ, ◌-◌, ◌/◌, ◌^◌, ◌<◌, List, [], ◌∷◌, length, map, Bool, cond, bit_and, ap, sym, ◌∙◌, refl, arith, w64}
use Rattle.std.specs.Simd.Lanes.{zip2}
use Rattle.std.proofs.lemmas.Simd.{length-zip2, tops_compared}
use Rattle.std.proofs.lemmas.Nat.{and_le_r}
use lib.Lanes.{Each1, Each2, sel_l, top}
use Rattle.vk_types.specs.declared.types.Ty.{Ty}
use Rattle.vk_types.specs.declared.types.Ty.TheVariants.{I8, I16, I32, I64, U8, U16, U32, U64}
use Rattle.vk_lanes.specs.Inner.Patterns.{count_of, pattern, wrap_add, wrap_sub}
use Rattle.vk_lanes.specs.declared.patterns.Lanewise.{Lanewise}

-- a list of eight numbers is given by them
pub eight : (P : List ℕ → Type 0) → ((a b c d e f g h : ℕ) → P (a ∷ b ∷ c ∷ d ∷ e ∷ f ∷ g ∷ h ∷ [])) → (xs : List ℕ) → length xs ≡ 8 → P xs
eight P q [] n = absurd (omega arith)
eight P q (a ∷ []) n = absurd (omega arith)
eight P q (a ∷ b ∷ []) n = absurd (omega arith)
eight P q (a ∷ b ∷ c ∷ []) n = absurd (omega arith)
eight P q (a ∷ b ∷ c ∷ d ∷ []) n = absurd (omega arith)
eight P q (a ∷ b ∷ c ∷ d ∷ e ∷ []) n = absurd (omega arith)
eight P q (a ∷ b ∷ c ∷ d ∷ e ∷ f ∷ []) n = absurd (omega arith)
eight P q (a ∷ b ∷ c ∷ d ∷ e ∷ f ∷ g ∷ []) n = absurd (omega arith)
eight P q (a ∷ b ∷ c ∷ d ∷ e ∷ f ∷ g ∷ h ∷ []) n = q a b c d e f g h
eight P q (a ∷ b ∷ c ∷ d ∷ e ∷ f ∷ g ∷ h ∷ x ∷ xs) n = absurd (omega arith)

pub length-zip2_eight : (f : ℕ → ℕ → ℕ) (xs ys : List ℕ) → length xs ≡ 8 → length ys ≡ 8 → length (zip2 f xs ys) ≡ 8
length-zip2_eight f xs ys m n = length-zip2 f xs ys (m ∙ sym n) ∙ m

pub map-zip2 : {A B C D : Type 0} (h : C → D) (f : A → B → C) (xs : List A) (ys : List B) → map h (zip2 f xs ys) ≡ zip2 (λ x y. h (f x y)) xs ys
map-zip2 h f [] ys = refl
map-zip2 h f (x ∷ xs) [] = refl
map-zip2 h f (x ∷ xs) (y ∷ ys) = ap (λ zs. h (f x y) ∷ zs) (map-zip2 h f xs ys)

pub zip2-maps : {A B C D E : Type 0} (h : C → D → E) (f : A → C) (g : B → D) (xs : List A) (ys : List B) → zip2 h (map f xs) (map g ys) ≡ zip2 (λ x y. h (f x) (g y)) xs ys
zip2-maps h f g [] ys = refl
zip2-maps h f g (x ∷ xs) [] = refl
zip2-maps h f g (x ∷ xs) (y ∷ ys) = ap (λ zs. h (f x) (g y) ∷ zs) (zip2-maps h f g xs ys)

pub zip2-map_right : {A B C D : Type 0} (h : A → C → D) (g : B → C) (xs : List A) (ys : List B) → zip2 h xs (map g ys) ≡ zip2 (λ x y. h x (g y)) xs ys
zip2-map_right h g [] ys = refl
zip2-map_right h g (x ∷ xs) [] = refl
zip2-map_right h g (x ∷ xs) (y ∷ ys) = ap (λ zs. h x (g y) ∷ zs) (zip2-map_right h g xs ys)

-- with the first vector once more
pub zip2_of_both : (f g : ℕ → ℕ → ℕ) (xs ys : List ℕ) → zip2 f xs (zip2 g xs ys) ≡ zip2 (λ x y. f x (g x y)) xs ys
zip2_of_both f g [] ys = refl
zip2_of_both f g (x ∷ xs) [] = refl
zip2_of_both f g (x ∷ xs) (y ∷ ys) = ap (λ zs. f x (g x y) ∷ zs) (zip2_of_both f g xs ys)

-- with a constant in each lane
pub with_constant : (f : ℕ → ℕ → ℕ) (k : ℕ) (xs : List ℕ) → length xs ≡ 8 → zip2 f xs (k ∷ k ∷ k ∷ k ∷ k ∷ k ∷ k ∷ k ∷ []) ≡ map (λ x. f x k) xs
with_constant f k xs n = eight (λ xs. zip2 f xs (k ∷ k ∷ k ∷ k ∷ k ∷ k ∷ k ∷ k ∷ []) ≡ map (λ x. f x k) xs) (λ a b c d e f g h. refl) xs n

pub from_constant : (f : ℕ → ℕ → ℕ) (k : ℕ) (xs : List ℕ) → length xs ≡ 8 → zip2 f (k ∷ k ∷ k ∷ k ∷ k ∷ k ∷ k ∷ k ∷ []) xs ≡ map (f k) xs
from_constant f k xs n = eight (λ xs. zip2 f (k ∷ k ∷ k ∷ k ∷ k ∷ k ∷ k ∷ k ∷ []) xs ≡ map (f k) xs) (λ a b c d e f g h. refl) xs n

pub map-map_eight : (f g : ℕ → ℕ) (xs : List ℕ) → map g (map f xs) ≡ map (λ x. g (f x)) xs
map-map_eight f g [] = refl
map-map_eight f g (x ∷ xs) = ap (λ ys. g (f x) ∷ ys) (map-map_eight f g xs)

-- a constant added, another one met, the first taken away again
pub extended_eight : (h m : ℕ) (xs : List ℕ) → length xs ≡ 8 →
    zip2 wrap_sub (zip2 bit_and (zip2 wrap_add xs (h ∷ h ∷ h ∷ h ∷ h ∷ h ∷ h ∷ h ∷ [])) (m ∷ m ∷ m ∷ m ∷ m ∷ m ∷ m ∷ m ∷ [])) (h ∷ h ∷ h ∷ h ∷ h ∷ h ∷ h ∷ h ∷ [])
    ≡ map (λ x. wrap_sub (bit_and (wrap_add x h) m) h) xs
extended_eight h m xs n =
    eight
    (λ xs. zip2 wrap_sub (zip2 bit_and (zip2 wrap_add xs (h ∷ h ∷ h ∷ h ∷ h ∷ h ∷ h ∷ h ∷ [])) (m ∷ m ∷ m ∷ m ∷ m ∷ m ∷ m ∷ m ∷ [])) (h ∷ h ∷ h ∷ h ∷ h ∷ h ∷ h ∷ h ∷ [])
    ≡ map (λ x. wrap_sub (bit_and (wrap_add x h) m) h) xs)
    (λ a b c d e f g h. refl) xs n

-- only the second or the first of two vectors is used
pub zip2_first : (f : ℕ → ℕ) (xs ys : List ℕ) → length xs ≡ 8 → length ys ≡ 8 → map f xs ≡ zip2 (λ x y. f x) xs ys
zip2_first f xs ys m n =
    eight (λ xs. map f xs ≡ zip2 (λ x y. f x) xs ys)
    (λ a b c d e k g h. eight (λ ys. map f (a ∷ b ∷ c ∷ d ∷ e ∷ k ∷ g ∷ h ∷ []) ≡ zip2 (λ x y. f x) (a ∷ b ∷ c ∷ d ∷ e ∷ k ∷ g ∷ h ∷ []) ys) (λ a b c d e f g h. refl) ys n) xs m

pub zip2_left : (xs ys : List ℕ) → length xs ≡ 8 → length ys ≡ 8 → xs ≡ zip2 (λ x y. x) xs ys
zip2_left xs ys m n =
    eight (λ xs. xs ≡ zip2 (λ x y. x) xs ys)
    (λ a b c d e k g h. eight (λ ys. (a ∷ b ∷ c ∷ d ∷ e ∷ k ∷ g ∷ h ∷ []) ≡ zip2 (λ x y. x) (a ∷ b ∷ c ∷ d ∷ e ∷ k ∷ g ∷ h ∷ []) ys) (λ a b c d e f g h. refl) ys n) xs m

-- each lane of a vector is shifted by less than 64
pub counts_fit : (xs ys : List ℕ) → Each1 (λ (k : ℕ). k < 64) ys → Each2 (λ (x k : ℕ). k < 64) xs ys
counts_fit [] ys h = tt
counts_fit (x ∷ xs) [] h = tt
counts_fit (x ∷ xs) (y ∷ ys) h = (h.0, counts_fit xs ys h.1)

pub each-map : (P : ℕ → Type 0) (f : ℕ → ℕ) → ((x : ℕ) → P (f x)) → (xs : List ℕ) → Each1 P (map f xs)
each-map P f q [] = tt
each-map P f q (x ∷ xs) = (q x, each-map P f q xs)

pub count-lt : (t : Ty) (y : ℕ) → count_of t y < 64
count-lt I8 y = omega (arith, and_le_r y 7)
count-lt I16 y = omega (arith, and_le_r y 15)
count-lt I32 y = omega (arith, and_le_r y 31)
count-lt I64 y = omega (arith, and_le_r y 63)
count-lt U8 y = omega (arith, and_le_r y 7)
count-lt U16 y = omega (arith, and_le_r y 15)
count-lt U32 y = omega (arith, and_le_r y 31)
count-lt U64 y = omega (arith, and_le_r y 63)

abbrev shifted_made : (f g : ℕ → ℕ) (k : ℕ) → List ℕ → List ℕ → List ℕ
shifted_made f g k xs ys = zip2 wrap_sub (zip2 (λ x n. x / 2 ^ n) (map f xs) (map g ys)) (zip2 (λ x n. x / 2 ^ n) (k ∷ k ∷ k ∷ k ∷ k ∷ k ∷ k ∷ k ∷ []) (map g ys))

abbrev shifted_wanted : (f g : ℕ → ℕ) (k : ℕ) → List ℕ → List ℕ → List ℕ
shifted_wanted f g k xs ys = zip2 (λ x y. wrap_sub (f x / 2 ^ g y) (k / 2 ^ g y)) xs ys

-- both vectors shifted by the same counts, and the difference
pub shifted_right : (f g : ℕ → ℕ) (k : ℕ) (xs ys : List ℕ) → length xs ≡ 8 → length ys ≡ 8 →
    zip2 wrap_sub (zip2 (λ x n. x / 2 ^ n) (map f xs) (map g ys)) (zip2 (λ x n. x / 2 ^ n) (k ∷ k ∷ k ∷ k ∷ k ∷ k ∷ k ∷ k ∷ []) (map g ys))
    ≡ zip2 (λ x y. wrap_sub (f x / 2 ^ g y) (k / 2 ^ g y)) xs ys
shifted_right f g k xs ys m n =
    eight (λ xs. shifted_made f g k xs ys ≡ shifted_wanted f g k xs ys)
    (λ a b c d e v w h. eight (λ ys. shifted_made f g k (a ∷ b ∷ c ∷ d ∷ e ∷ v ∷ w ∷ h ∷ []) ys ≡ shifted_wanted f g k (a ∷ b ∷ c ∷ d ∷ e ∷ v ∷ w ∷ h ∷ []) ys)
    (λ p q r s t u y z. refl) ys n) xs m

abbrev selected : (ℕ → ℕ → Bool) → List ℕ → List ℕ → List ℕ
selected t xs ys = sel_l {A = ℕ} (zip2 t xs ys) (1 ∷ 1 ∷ 1 ∷ 1 ∷ 1 ∷ 1 ∷ 1 ∷ 1 ∷ []) (0 ∷ 0 ∷ 0 ∷ 0 ∷ 0 ∷ 0 ∷ 0 ∷ 0 ∷ [])

-- 1 where a test holds, else 0
pub truth_eight : (t : ℕ → ℕ → Bool) (xs ys : List ℕ) → length xs ≡ 8 → length ys ≡ 8 →
    sel_l {A = ℕ} (map (top 63) (zip2 (λ x y. cond (t x y) (2 ^ 64 - 1) 0) xs ys)) (1 ∷ 1 ∷ 1 ∷ 1 ∷ 1 ∷ 1 ∷ 1 ∷ 1 ∷ []) (0 ∷ 0 ∷ 0 ∷ 0 ∷ 0 ∷ 0 ∷ 0 ∷ 0 ∷ [])
    ≡ zip2 (λ x y. cond (t x y) 1 0) xs ys
truth_eight t xs ys m n =
    ap (λ (flags : List Bool). sel_l {A = ℕ} flags (1 ∷ 1 ∷ 1 ∷ 1 ∷ 1 ∷ 1 ∷ 1 ∷ 1 ∷ []) (0 ∷ 0 ∷ 0 ∷ 0 ∷ 0 ∷ 0 ∷ 0 ∷ 0 ∷ [])) (tops_compared w64 t xs ys)
    ∙ eight (λ xs. selected t xs ys ≡ zip2 (λ x y. cond (t x y) 1 0) xs ys)
    (λ a b c d e f g h. eight (λ ys. selected t (a ∷ b ∷ c ∷ d ∷ e ∷ f ∷ g ∷ h ∷ []) ys ≡ zip2 (λ x y. cond (t x y) 1 0) (a ∷ b ∷ c ∷ d ∷ e ∷ f ∷ g ∷ h ∷ []) ys)
    (λ p q r s u v y z. refl) ys n) xs m

pub of_op : (op op' : Lanewise) (t : Ty) (x y r : List ℕ) → op ≡ op' → r ≡ zip2 (pattern op' t) x y → r ≡ zip2 (pattern op t) x y
of_op op op' t x y r e h = h ∙ ap (λ op. zip2 (pattern op t) x y) (sym e)

pub ruleset vectors = length-zip2_eight
