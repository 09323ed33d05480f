-- The first place at which a test passes, one element after another.
use Rattle.std.proofs.Common.{◌≡◌, ℕ, suc, ◌+◌, Bool, true, false, cond, not, ◌<◌, List, [], ◌∷◌, ◌++◌, length, take, get_or, map, nat_lt, bytes_eq, Option, Some, None, position, refl, sym, ap, ◌∙◌, arith}
use Rattle.std.proofs.lemmas.List.{take_more, map-append, length-map, length-take-le}
use Rattle.vk_meaning.specs.World.{Array}
use Rattle.std.specs.Option.{option_or, option_map}
use Rattle.std.specs.List.{position_or_len}
use Rattle.std.proofs.lemmas.Grind.{common_steps}

less_one : (k n : ℕ) → nat_lt (1 + k) (suc n) ≡ nat_lt k n
less_one k n = grind (arith, common_steps)

above_zero : (n : ℕ) → nat_lt 0 (suc n) ≡ true
above_zero n = grind (arith, common_steps)

one_more : (k : ℕ) → 1 + k ≡ suc k
one_more k = omega arith

shift : (k n : ℕ) → cond (nat_lt (1 + k) (suc n)) (Some (1 + k)) None ≡ option_map suc (cond (nat_lt k n) (Some k) None)
shift k n = ap (λ (b : Bool). cond b (Some (1 + k)) None) (less_one k n) ∙ ap (λ (j : ℕ). cond (nat_lt k n) (Some j) None) (one_more k) ∙ by (nat_lt k n)
  where
    by : (b : Bool) → cond b (Some (suc k)) None ≡ option_map suc (cond b (Some k) None)
    by true = refl
    by false = refl

module _ {X : Type 0} (p : X → Bool) where
  first_by : (b : Bool) (k n : ℕ) → cond (nat_lt (cond (not b) (1 + k) 0) (suc n)) (Some (cond (not b) (1 + k) 0)) None ≡ cond b (Some 0) (option_map suc (cond (nat_lt k n) (Some k) None))
  first_by true k n = ap (λ (b : Bool). cond b (Some 0) None) (above_zero n)
  first_by false k n = shift k n

  pub position_first : (x : X) (xs : List X) → position p (x ∷ xs) ≡ cond (p x) (Some 0) (option_map suc (position p xs))
  position_first x xs = first_by (p x) (position_or_len p xs) (length xs)

  end_by : (b : Bool) (n : ℕ) → option_map suc (cond b (Some n) None) ≡ cond b (Some (suc n)) None
  end_by true n = refl
  end_by false n = refl

  or_by : (o q : Option ℕ) → option_map suc (option_or o q) ≡ option_or (option_map suc o) (option_map suc q)
  or_by None q = refl
  or_by (Some n) q = refl

  behind_by : (a b : Bool) (o : Option ℕ) (n : ℕ) → cond a (Some 0) (option_map suc (option_or o (cond b (Some n) None))) ≡ option_or (cond a (Some 0) (option_map suc o)) (cond b (Some (suc n)) None)
  behind_by true b o n = refl
  behind_by false b o n = or_by o (cond b (Some n) None) ∙ ap (option_or (option_map suc o)) (end_by b n)

  -- with one element more
  pub position_more : (xs : List X) (x : X) → position p (xs ++ x ∷ []) ≡ option_or (position p xs) (cond (p x) (Some (length xs)) None)
  position_more [] x = position_first x []
  position_more (y ∷ ys) x = position_first y (ys ++ x ∷ []) ∙ ap (λ o. cond (p y) (Some 0) (option_map suc o)) (position_more ys x) ∙ behind_by (p y) (p x) (position p ys) (length ys)
      ∙ sym (ap (λ o. option_or o (cond (p x) (Some (suc (length ys))) None)) (position_first y ys))

-- the first place of a name, with one item more of a list that a loop goes along
pub one_numbered : {X : Type 0} (v : X → Array) (text : List ℕ) (xs : List X) (i : ℕ) (d : X) (k : ℕ) → i < length xs → k ≡ i → (old new : Option ℕ) →
    old ≡ position (λ a. bytes_eq a.text text) (map v (take i xs)) → new ≡ option_or old (cond (bytes_eq (v (get_or xs i d)).text text) (Some k) None) →
    new ≡ position (λ a. bytes_eq a.text text) (map v (take (i + 1) xs))
one_numbered v text xs i d k below same old new e n =
    let p = λ (a : Array). bytes_eq a.text text in
    let x = get_or xs i d in
    let size : length (map v (take i xs)) ≡ i = length-map (take i xs) v ∙ length-take-le i xs (omega arith) in
    n ∙ ap (λ j. option_or old (cond (p (v x)) (Some j) None)) same ∙ ap (λ o. option_or o (cond (p (v x)) (Some i) None)) e
    ∙ ap (λ j. option_or (position p (map v (take i xs))) (cond (p (v x)) (Some j) None)) (sym size)
    ∙ sym (position_more p (map v (take i xs)) (v x))
    ∙ sym (ap (λ l. position p (map v l)) (take_more xs i d below) ∙ ap (position p) (map-append v (take i xs) (x ∷ [])))
