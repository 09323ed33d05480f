-- Lists in ascending order: one that was sorted stably is the one that insertion makes.
use Rattle.std.proofs.Common.{◌≡◌, ℕ, suc, ◌<◌, ◌≤◌, Bool, true, false, cond, ◌&&◌, not, List, [], ◌∷◌, get_or, drop, length, refl, sym, ap, subst, ◌∙◌, true≢false, arith}
use Rattle.std.specs.List.{filter}
use Rattle.std.specs.List.Sorted.{ties, IsSortedBy, IsStableBy}
use Rattle.std.specs.Cmp.{IsStrictWeakOrder}
use Rattle.std.proofs.lemmas.List.Sorted.{sorted_far}

abbrev is_empty : {X : Type 0} → List X → Bool
is_empty [] = true
is_empty (x ∷ xs) = false

no_cons : {X A : Type 0} {x : X} {xs : List X} → x ∷ xs ≡ [] → A
no_cons e = absurd (true≢false (sym (ap is_empty e)))

module _ {X : Type 0} (lt : X → X → Bool) where
  -- no element is below this one
  abbrev NoneBelow : X → List X → Type 0
  NoneBelow x [] = Unit {0}
  NoneBelow x (y ∷ ys) = (lt y x ≡ false) × NoneBelow x ys

  abbrev pub Ascends : List X → Type 0
  Ascends [] = Unit {0}
  Ascends (x ∷ xs) = NoneBelow x xs × Ascends xs

  keeps_first : (p : X → Bool) (x : X) (xs : List X) → p x ≡ true → filter p (x ∷ xs) ≡ x ∷ filter p xs
  keeps_first p x xs h = ap (λ (b : Bool). cond b (x ∷ filter p xs) (filter p xs)) h

  drops_first : (p : X → Bool) (x : X) (xs : List X) → p x ≡ false → filter p (x ∷ xs) ≡ filter p xs
  drops_first p x xs h = ap (λ (b : Bool). cond b (x ∷ filter p xs) (filter p xs)) h

  same_first : {x y : X} {xs ys : List X} → x ∷ xs ≡ y ∷ ys → x ≡ y
  same_first {x = x} e = ap (λ (l : List X). get_or l 0 x) e

  same_rest : {x y : X} {xs ys : List X} → x ∷ xs ≡ y ∷ ys → xs ≡ ys
  same_rest e = ap (λ (l : List X). drop 1 l) e

  kept_not_below : (x w : X) (rest : List X) (y : X) (us : List X) (b : Bool) → lt y x ≡ false → (w ∷ rest ≡ us → lt w x ≡ false) → w ∷ rest ≡ cond b (y ∷ us) us → lt w x ≡ false
  kept_not_below x w rest y us true h k e = subst (λ (v : X). lt v x ≡ false) (sym (same_first e)) h
  kept_not_below x w rest y us false h k e = k e

  first_not_below : (p : X → Bool) (x w : X) (rest ys : List X) → NoneBelow x ys → w ∷ rest ≡ filter p ys → lt w x ≡ false
  first_not_below p x w rest [] h e = no_cons e
  first_not_below p x w rest (y ∷ ys) h e = kept_not_below x w rest y (filter p ys) (p y) h.0 (first_not_below p x w rest ys h.1) e

  -- two tails of which the same elements are kept, behind one element
  same_behind : (b : Bool) (y : X) (us vs : List X) → cond b (y ∷ us) us ≡ cond b (y ∷ vs) vs → us ≡ vs
  same_behind true y us vs e = same_rest e
  same_behind false y us vs e = e

  module _ (o : IsStrictWeakOrder lt) where
    itself_bool : (b : Bool) → (b ≡ true → b ≡ false) → b ≡ false
    itself_bool true h = h refl
    itself_bool false h = refl

    not_itself : (x : X) → lt x x ≡ false
    not_itself x = itself_bool (lt x x) (o.one_way x x)

    ties_both : (x y : X) → lt x y ≡ false → lt y x ≡ false → ties lt x y ≡ true
    ties_both x y h k = ap (λ (b : Bool). not b && not (lt y x)) h ∙ ap not k

    ties_itself : (x : X) → ties lt x x ≡ true
    ties_itself x = ties_both x x (not_itself x) (not_itself x)

    none_below_later : (x y : X) (ys : List X) → lt y x ≡ false → NoneBelow y ys → NoneBelow x ys
    none_below_later x y [] h k = tt
    none_below_later x y (z ∷ zs) h k = (o.chain z y x k.0 h, none_below_later x y zs h k.1)

    -- the first element of one list is not below that of the other
    firsts : (y z : X) (ys zs : List X) → NoneBelow z zs → filter (ties lt y) (z ∷ zs) ≡ filter (ties lt y) (y ∷ ys) → lt y z ≡ false
    firsts y z ys zs h e = first_not_below (ties lt y) z y (filter (ties lt y) ys) (z ∷ zs) (not_itself z, h) (sym (e ∙ keeps_first (ties lt y) y ys (ties_itself y)))

    same_heads : (y z : X) (ys zs : List X) → NoneBelow y ys → NoneBelow z zs → ((x : X) → filter (ties lt x) (z ∷ zs) ≡ filter (ties lt x) (y ∷ ys)) → z ≡ y
    same_heads y z ys zs h k e =
        let a : lt y z ≡ false = firsts y z ys zs k (e y) in
        let b : lt z y ≡ false = firsts z y zs ys h (sym (e z)) in
        same_first (sym (keeps_first (ties lt y) z zs (ties_both y z a b)) ∙ (e y ∙ keeps_first (ties lt y) y ys (ties_itself y)))

    -- lists in order in which the elements that tie stand alike
    pub one_order : (ys zs : List X) → Ascends ys → Ascends zs → IsStableBy lt ys zs → zs ≡ ys
    one_order [] [] h k e = refl
    one_order [] (z ∷ zs) h k e = no_cons (sym (keeps_first (ties lt z) z zs (ties_itself z)) ∙ e z)
    one_order (y ∷ ys) [] h k e = no_cons (sym (e y ∙ keeps_first (ties lt y) y ys (ties_itself y)))
    one_order (y ∷ ys) (z ∷ zs) h k e =
        let s : z ≡ y = same_heads y z ys zs h.0 k.0 e in
        let e' : (x : X) → filter (ties lt x) (y ∷ zs) ≡ filter (ties lt x) (y ∷ ys) = subst (λ (v : X). (x : X) → filter (ties lt x) (v ∷ zs) ≡ filter (ties lt x) (y ∷ ys)) s e in
        ap (λ (v : X). v ∷ zs) s ∙ ap (λ (l : List X). y ∷ l) (one_order ys zs h.1 k.1 (λ x. same_behind (ties lt x y) y _ _ (e' x)))

    -- ---- what is sorted is in order

    none_below_far : (x : X) (xs : List X) → ((j : ℕ) (d : X) → j < length xs → lt (get_or xs j d) x ≡ false) → NoneBelow x xs
    none_below_far x [] h = tt
    none_below_far x (y ∷ ys) h = (h 0 y (omega arith), none_below_far x ys (λ j d b. h (suc j) d (omega arith)))

    far_ascends : (xs : List X) → ((i j : ℕ) (d : X) → i ≤ j → j < length xs → lt (get_or xs j d) (get_or xs i d) ≡ false) → Ascends xs
    far_ascends [] h = tt
    far_ascends (x ∷ xs) h = (none_below_far x xs (λ j d b. h 0 (suc j) d (omega arith) (omega arith)), far_ascends xs (λ i j d a b. h (suc i) (suc j) d (omega arith) (omega arith)))

    pub sorted_ascends : (xs : List X) → IsSortedBy lt xs → Ascends xs
    sorted_ascends xs up = far_ascends xs (sorted_far lt o xs up)

    -- ---- what insertion makes is in order

    module _ (put : X → List X → List X) (put_none : (a : X) → put a [] ≡ a ∷ []) (put_more : (a b : X) (bs : List X) → put a (b ∷ bs) ≡ cond (lt b a) (b ∷ put a bs) (a ∷ b ∷ bs)) where
      either : (P : List X → Type 0) (t : Bool) {us vs : List X} → P us → P vs → P (cond t us vs)
      either P true h k = h
      either P false h k = k

      none_below_put : (x a : X) (bs : List X) → lt a x ≡ false → NoneBelow x bs → NoneBelow x (put a bs)
      none_below_put x a [] h k = subst (λ (l : List X). NoneBelow x l) (sym (put_none a)) (h, tt)
      none_below_put x a (b ∷ bs) h k = subst (λ (l : List X). NoneBelow x l) (sym (put_more a b bs)) (either (NoneBelow x) (lt b a) (k.0, none_below_put x a bs h k.1) (h, k))

      put_by : (a b : X) (bs : List X) (t : Bool) → lt b a ≡ t → Ascends (b ∷ bs) → Ascends (put a bs) → Ascends (cond t (b ∷ put a bs) (a ∷ b ∷ bs))
      put_by a b bs true e h k = (none_below_put b a bs (o.one_way b a e) h.0, k)
      put_by a b bs false e h k = ((e, none_below_later a b bs e h.0), h)

      put_ascends : (a : X) (bs : List X) → Ascends bs → Ascends (put a bs)
      put_ascends a [] h = subst Ascends (sym (put_none a)) (tt, tt)
      put_ascends a (b ∷ bs) h = subst Ascends (sym (put_more a b bs)) (put_by a b bs (lt b a) refl h (put_ascends a bs h.1))

      -- elements that tie stay behind one another
      swapped : (s t : Bool) → (s ≡ true → t ≡ true → ⊥) → (a b : X) (us : List X) → cond t (b ∷ cond s (a ∷ us) us) (cond s (a ∷ us) us) ≡ cond s (a ∷ cond t (b ∷ us) us) (cond t (b ∷ us) us)
      swapped true true h a b us = absurd (h refl refl)
      swapped true false h a b us = refl
      swapped false true h a b us = refl
      swapped false false h a b us = refl

      and_left : (s t : Bool) → (s && t) ≡ true → s ≡ true
      and_left true t e = refl
      and_left false t e = absurd (true≢false (sym e))

      and_right : (s t : Bool) → (s && t) ≡ true → t ≡ true
      and_right true t e = e
      and_right false t e = absurd (true≢false (sym e))

      not_true : (s : Bool) → not s ≡ true → s ≡ false
      not_true true e = absurd (true≢false (sym e))
      not_true false e = refl

      not_both : (x a b : X) → lt b a ≡ true → ties lt x a ≡ true → ties lt x b ≡ true → ⊥
      not_both x a b h s t =
          true≢false (sym h ∙ o.chain b x a (not_true (lt b x) (and_right (not (lt x b)) (not (lt b x)) t)) (not_true (lt x a) (and_left (not (lt x a)) (not (lt a x)) s)))

      stable_by : (x a b : X) (bs : List X) (t : Bool) → lt b a ≡ t → filter (ties lt x) (put a bs) ≡ filter (ties lt x) (a ∷ bs) →
          filter (ties lt x) (cond t (b ∷ put a bs) (a ∷ b ∷ bs)) ≡ filter (ties lt x) (a ∷ b ∷ bs)
      stable_by x a b bs false e h = refl
      stable_by x a b bs true e h = ap (λ (l : List X). cond (ties lt x b) (b ∷ l) l) h ∙ swapped (ties lt x a) (ties lt x b) (not_both x a b e) a b (filter (ties lt x) bs)

      put_stable : (x a : X) (bs : List X) → filter (ties lt x) (put a bs) ≡ filter (ties lt x) (a ∷ bs)
      put_stable x a [] = ap (filter (ties lt x)) (put_none a)
      put_stable x a (b ∷ bs) = ap (filter (ties lt x)) (put_more a b bs) ∙ stable_by x a b bs (lt b a) refl (put_stable x a bs)

      module _ (order : List X → List X) (order_none : order [] ≡ []) (order_more : (a : X) (bs : List X) → order (a ∷ bs) ≡ put a (order bs)) where
        order_ascends : (xs : List X) → Ascends (order xs)
        order_ascends [] = subst Ascends (sym order_none) tt
        order_ascends (x ∷ xs) = subst Ascends (sym (order_more x xs)) (put_ascends x (order xs) (order_ascends xs))

        order_stable : (xs : List X) (x : X) → filter (ties lt x) (order xs) ≡ filter (ties lt x) xs
        order_stable [] x = ap (filter (ties lt x)) order_none
        order_stable (y ∷ ys) x = ap (filter (ties lt x)) (order_more y ys) ∙ (put_stable x y (order ys) ∙ ap (λ (l : List X). cond (ties lt x y) (y ∷ l) l) (order_stable ys x))

        -- a list that was sorted stably is the one that insertion makes
        pub sorted_is : (xs ys : List X) → IsSortedBy lt ys → IsStableBy lt xs ys → ys ≡ order xs
        sorted_is xs ys up same = one_order (order xs) ys (order_ascends xs) (sorted_ascends ys up) (λ x. same x ∙ sym (order_stable xs x))
