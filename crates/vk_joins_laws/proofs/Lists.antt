-- Lists: what stands in them, and the first answer along them.
use Rattle.std.proofs.Common.{◌≡◌, ℕ, zero, suc, ◌<◌, ◌&&◌, Bool, true, false, cond, List, [], ◌∷◌, map, filter, filter_map, slice_get, slice_index_or, Option, Some, None, refl, subst, sym, ap, arith, ◌∙◌, ◌⊎◌, inl, inr, Contains}
use Rattle.std.specs.List.{cons_option}
use Rattle.std.specs.Option.{option_map, option_or}
use Rattle.std.proofs.lemmas.List.{length-map, get_or-map}
use Rattle.std.proofs.lemmas.List.Elements.{Contains-append_cases, Contains-append_right}
use Rattle.std.proofs.lemmas.Option.{slice_get-map}
use Rattle.vk_agree.specs.Units.{first_of}

-- ---- what a list contains

pub here : {X : Type 0} (x : X) (xs : List X) → Contains (x ∷ xs) x
here x xs = (0, omega arith, refl)

pub later : {X : Type 0} (x y : X) (xs : List X) → Contains xs y → Contains (x ∷ xs) y
later x y xs h = Contains-append_right (x ∷ []) xs y h

pub contains_map : {X Y : Type 0} (f : X → Y) (xs : List X) (x : X) → Contains xs x → Contains (map f xs) (f x)
contains_map f xs x h = (h.0, subst (λ n. h.0 < n) (sym (length-map xs f)) h.1, get_or-map f xs h.0 x (f x) h.1 ∙ ap f h.2)

pub one_of : {X : Type 0} (x y : X) → Contains (x ∷ []) y → x ≡ y
one_of x y h = at h.0 h.1 h.2
  where
    at : (k : ℕ) → k < 1 → slice_index_or (x ∷ []) k y ≡ y → x ≡ y
    at zero b e = e
    at (suc k) b e = absurd (omega arith)

-- an element that f makes of one of a list
pub record From {X Y : Type 0} (f : X → Y) (xs : List X) (y : Y) : Type 0 where
  pub of : X
  pub among : Contains xs of
  pub is : f of ≡ y

unmap_at : {X Y : Type 0} (f : X → Y) (x : X) (xs : List X) (y : Y) → Contains (f x ∷ []) y ⊎ Contains (map f xs) y → (Contains (map f xs) y → From f xs y) → From f (x ∷ xs) y
unmap_at f x xs y (inl a) next = record { of = x; among = here x xs; is = one_of (f x) y a }
unmap_at f x xs y (inr b) next = let r = next b in record { of = r.of; among = later x r.of xs r.among; is = r.is }

pub unmap : {X Y : Type 0} (f : X → Y) (xs : List X) (y : Y) → Contains (map f xs) y → From f xs y
unmap f [] y h = absurd (omega (h.1, arith))
unmap f (x ∷ xs) y h = unmap_at f x xs y (Contains-append_cases (f x ∷ []) (map f xs) y h) (λ k. unmap f xs y k)

-- the same, by its place
pub record At {X Y : Type 0} (f : X → Y) (xs : List X) (i : ℕ) (y : Y) : Type 0 where
  pub of : X
  pub at : slice_get xs i ≡ Some of
  pub is : f of ≡ y

get_unmapped : {X Y : Type 0} (f : X → Y) (xs : List X) (i : ℕ) (y : Y) (o : Option X) → slice_get xs i ≡ o → option_map f o ≡ Some y → At f xs i y
get_unmapped f xs i y None e h = cc
get_unmapped f xs i y (Some x) e h = record { of = x; at = e; is = cc }

pub get_unmap : {X Y : Type 0} (f : X → Y) (xs : List X) (i : ℕ) (y : Y) → slice_get (map f xs) i ≡ Some y → At f xs i y
get_unmap f xs i y h = get_unmapped f xs i y (slice_get xs i) refl (sym (slice_get-map f xs i) ∙ h)

-- ---- the first answer

pub record Found {X Y : Type 0} (look : X → Option Y) (xs : List X) (y : Y) : Type 0 where
  pub of : X
  pub among : Contains xs of
  pub is : look of ≡ Some y

found_later : {X Y : Type 0} (look : X → Option Y) (x : X) (xs : List X) (y : Y) → Found look xs y → Found look (x ∷ xs) y
found_later look x xs y h = record { of = h.of; among = later x h.of xs h.among; is = h.is }

found_at : {X Y : Type 0} (look : X → Option Y) (x : X) (xs : List X) (y : Y) (o : Option Y) → look x ≡ o → option_or o (first_of look xs) ≡ Some y →
    (first_of look xs ≡ Some y → Found look xs y) → Found look (x ∷ xs) y
found_at look x xs y None e h next = found_later look x xs y (next h)
found_at look x xs y (Some z) e h next = record { of = x; among = here x xs; is = e ∙ h }

-- it is that of some element
pub found : {X Y : Type 0} (look : X → Option Y) (xs : List X) (y : Y) → first_of look xs ≡ Some y → Found look xs y
found look [] y h = cc
found look (x ∷ xs) y h = found_at look x xs y (look x) refl h (λ k. found look xs y k)

pub first_of_map : {X Z Y : Type 0} (look : Z → Option Y) (f : X → Z) (xs : List X) → first_of look (map f xs) ≡ first_of (λ x. look (f x)) xs
first_of_map look f [] = refl
first_of_map look f (x ∷ xs) = ap (option_or (look (f x))) (first_of_map look f xs)

-- ---- what is kept of a list

pub record Kept {X : Type 0} (p : X → Bool) (xs : List X) (y : X) : Type 0 where
  pub among : Contains xs y
  pub passes : p y ≡ true

kept_at : {X : Type 0} (p : X → Bool) (x : X) (xs : List X) (y : X) (b : Bool) → p x ≡ b → Contains (cond b (x ∷ filter p xs) (filter p xs)) y → (Contains (filter p xs) y → Kept p xs y) → Kept p (x ∷ xs) y
kept_at p x xs y false e h next = let k = next h in record { among = later x y xs k.among; passes = k.passes }
kept_at p x xs y true e h next = either (Contains-append_cases (x ∷ []) (filter p xs) y h)
  where
    either : Contains (x ∷ []) y ⊎ Contains (filter p xs) y → Kept p (x ∷ xs) y
    either (inl a) = let q = one_of x y a in subst (λ (z : _). Kept p (x ∷ xs) z) q (record { among = here x xs; passes = e })
    either (inr a) = let k = next a in record { among = later x y xs k.among; passes = k.passes }

pub kept : {X : Type 0} (p : X → Bool) (xs : List X) (y : X) → Contains (filter p xs) y → Kept p xs y
kept p [] y h = absurd (omega (h.1, arith))
kept p (x ∷ xs) y h = kept_at p x xs y (p x) refl h (λ k. kept p xs y k)

given_at : {X Y : Type 0} (f : X → Option Y) (x : X) (xs : List X) (y : Y) (o : Option Y) → f x ≡ o → Contains (cons_option o (filter_map f xs)) y → (Contains (filter_map f xs) y → Found f xs y) → Found f (x ∷ xs) y
given_at f x xs y None e h next = found_later f x xs y (next h)
given_at f x xs y (Some z) e h next = either (Contains-append_cases (z ∷ []) (filter_map f xs) y h)
  where
    either : Contains (z ∷ []) y ⊎ Contains (filter_map f xs) y → Found f (x ∷ xs) y
    either (inl a) = record { of = x; among = here x xs; is = e ∙ ap Some (one_of z y a) }
    either (inr a) = found_later f x xs y (next a)

pub given : {X Y : Type 0} (f : X → Option Y) (xs : List X) (y : Y) → Contains (filter_map f xs) y → Found f xs y
given f [] y h = absurd (omega (h.1, arith))
given f (x ∷ xs) y h = given_at f x xs y (f x) refl h (λ k. given f xs y k)

-- ---- conjunctions

pub both_first : (a b : Bool) → (a && b) ≡ true → a ≡ true
both_first true b h = refl
both_first false b h = h

pub both_second : (a b : Bool) → (a && b) ≡ true → b ≡ true
both_second true b h = h
both_second false b h = cc
