-- The place of the first verdict that is not good.
use Rattle.std.proofs.Common.{◌≡◌, ℕ, zero, suc, ◌+◌, ◌<◌, Bool, true, false, ◌&&◌, cond, List, [], ◌∷◌, ◌++◌, length, map, take, get_or, Option, Some, None, is_none, refl, ap, sym, ◌∙◌, arith, add-one}
use Rattle.std.proofs.lemmas.Bool.{false≢true}
use Rattle.std.specs.List.{list_all}
use Rattle.std.specs.Option.{option_map}
use Rattle.vk_code.specs.Tests.{all_good, first_bad}

pub and_left : (a b : Bool) → (a && b) ≡ true → a ≡ true
and_left true b h = refl
and_left false b h = h

pub and_right : (a b : Bool) → (a && b) ≡ true → b ≡ true
and_right true b h = h
and_right false true h = refl
and_right false false h = h

none_later : (o : Option ℕ) → is_none (option_map (λ n. n + 1) o) ≡ is_none o
none_later None = refl
none_later (Some n) = refl

-- there is none exactly where all are good
pub none_bad : (bs : List Bool) → is_none (first_bad bs) ≡ all_good bs
none_bad [] = refl
none_bad (true ∷ bs) = none_later (first_bad bs) ∙ none_bad bs
none_bad (false ∷ bs) = refl

pub none_from : (o : Option ℕ) → is_none o ≡ true → o ≡ None
none_from None h = refl
none_from (Some n) h = absurd (false≢true h)

pub nowhere : (bs : List Bool) → all_good bs ≡ true → first_bad bs ≡ None
nowhere bs h = none_from (first_bad bs) (none_bad bs ∙ h)

pub everywhere : (bs : List Bool) → first_bad bs ≡ None → all_good bs ≡ true
everywhere bs h = sym (none_bad bs) ∙ ap is_none h

-- all before place i pass and that at i does not
pub bad_at : {A B : Type 0} (f : B → Bool) (g : A → B) (xs : List A) (i : ℕ) (d : A) → i < length xs → list_all (λ x. f (g x)) (take i xs) ≡ true → f (g (get_or xs i d)) ≡ false → first_bad (map f (map g xs)) ≡ Some i
bad_at f g [] i d p h b = absurd (omega (arith, p))
bad_at f g (x ∷ xs) zero d p h b = ap (λ v. cond v (option_map (λ n. n + 1) (first_bad (map f (map g xs)))) (Some 0)) b
bad_at f g (x ∷ xs) (suc i) d p h b =
    ap (λ v. cond v (option_map (λ n. n + 1) (first_bad (map f (map g xs)))) (Some 0)) (and_left (f (g x)) (list_all (λ x. f (g x)) (take i xs)) h)
    ∙ (ap (option_map (λ n. n + 1)) (bad_at f g xs i d (omega (arith, p)) (and_right (f (g x)) (list_all (λ x. f (g x)) (take i xs)) h) b)
    ∙ ap Some (add-one i))

-- all pass
pub bad_nowhere : {A B : Type 0} (f : B → Bool) (g : A → B) (xs : List A) → list_all (λ x. f (g x)) xs ≡ true → first_bad (map f (map g xs)) ≡ None
bad_nowhere f g [] h = refl
bad_nowhere f g (x ∷ xs) h =
    ap (λ v. cond v (option_map (λ n. n + 1) (first_bad (map f (map g xs)))) (Some 0)) (and_left (f (g x)) (list_all (λ x. f (g x)) xs) h)
    ∙ ap (option_map (λ n. n + 1)) (bad_nowhere f g xs (and_right (f (g x)) (list_all (λ x. f (g x)) xs) h))

-- ---- numbers moved on

pub map_map : (m n : ℕ) (o : Option ℕ) → option_map (λ k. m + k) (option_map (λ k. n + k) o) ≡ option_map (λ k. m + n + k) o
map_map m n None = refl
map_map m n (Some k) = ap Some (omega arith)

pub map_later : (m : ℕ) (o : Option ℕ) → option_map (λ k. m + k) (option_map (λ k. k + 1) o) ≡ option_map (λ k. m + 1 + k) o
map_later m None = refl
map_later m (Some k) = ap Some (omega arith)

pub map_zero : (o : Option ℕ) → option_map (λ k. 0 + k) o ≡ o
map_zero None = refl
map_zero (Some k) = ap Some (omega arith)

later_map : (n : ℕ) (o : Option ℕ) → option_map (λ k. k + 1) (option_map (λ k. n + k) o) ≡ option_map (λ k. suc n + k) o
later_map n None = refl
later_map n (Some k) = ap Some (omega arith)

pub none_of_map : (m : ℕ) (o : Option ℕ) → option_map (λ k. m + k) o ≡ None → o ≡ None
none_of_map m None h = refl
none_of_map m (Some n) h = absurd (false≢true (ap is_none h))

-- ---- in two lists

bad_later : (us bs : List Bool) (k : ℕ) (o : Option ℕ) → ((j : ℕ) → o ≡ Some j → first_bad (us ++ bs) ≡ Some j) → option_map (λ n. n + 1) o ≡ Some k → option_map (λ n. n + 1) (first_bad (us ++ bs)) ≡ Some k
bad_later us bs k None f e = absurd (false≢true (sym (ap is_none e)))
bad_later us bs k (Some j) f e = ap (option_map (λ n. n + 1)) (f j refl) ∙ e

-- in the first one
pub bad_before : (us bs : List Bool) (k : ℕ) → first_bad us ≡ Some k → first_bad (us ++ bs) ≡ Some k
bad_before [] bs k h = absurd (false≢true (sym (ap is_none h)))
bad_before (false ∷ us) bs k h = h
bad_before (true ∷ us) bs k h = bad_later us bs k (first_bad us) (λ j e. bad_before us bs j e) h

-- in the second one
pub bad_behind : (us bs : List Bool) → all_good us ≡ true → first_bad (us ++ bs) ≡ option_map (λ k. length us + k) (first_bad bs)
bad_behind [] bs h = sym (map_zero (first_bad bs))
bad_behind (false ∷ us) bs h = absurd (false≢true h)
bad_behind (true ∷ us) bs h = ap (option_map (λ k. k + 1)) (bad_behind us bs h) ∙ later_map (length us) (first_bad bs)
