-- What fitting members of a list have together.
use Rattle.std.proofs.Common.{◌≡◌, Bool, true, false, not, ◌&&◌, ◌||◌, cond, List, [], ◌∷◌, ◌++◌, map, Some, None, refl, ap, ap₂, subst}
use Rattle.std.specs.List.{list_all, list_any}
use Rattle.std.specs.Option.{option_map}
use Rattle.std.proofs.lemmas.Bool.{false≢true}
use Rattle.vk_code.proofs.Faults.{and_left, and_right}
use Rattle.vk_object.specs.Texts.{ascend}
use Rattle.vk_format.specs.Codec.{Codec, FitAfter, passing}
use Rattle.vk_code_format.specs.Fields.{comes_after, last_of}

pub and_true : (a b : Bool) → a ≡ true → b ≡ true → (a && b) ≡ true
and_true a b h k = ap₂ (λ x y. x && y) h k

passing_by : {A : Type 0} (t : Bool) (a b : A) → cond t (Some a) None ≡ Some b → t ≡ true
passing_by true a b h = refl
passing_by false a b h = absurd cc

-- what passes a test
pub passed : {A : Type 0} (test : A → Bool) (a b : A) → passing test a ≡ Some b → test a ≡ true
passed test a b h = passing_by (test a) a b h

-- each member has what each fitting one has
pub all_fit : {R A B : Type 0} (c : List A → Codec R A) (f : A → B) (p : B → Bool) → ((before : List A) (x : A) → (c before).fits x → p (f x) ≡ true)
    → (before xs : List A) → FitAfter c before xs → list_all p (map f xs) ≡ true
all_fit c f p each before [] h = refl
all_fit c f p each before (x ∷ xs) h = and_true (p (f x)) (list_all p (map f xs)) (each before x h.0) (all_fit c f p each (before ++ x ∷ []) xs h.1)

pub all_fit_here : {R A : Type 0} (c : List A → Codec R A) (p : A → Bool) → ((before : List A) (x : A) → (c before).fits x → p x ≡ true)
    → (before xs : List A) → FitAfter c before xs → list_all p xs ≡ true
all_fit_here c p each before [] h = refl
all_fit_here c p each before (x ∷ xs) h = and_true (p x) (list_all p xs) (each before x h.0) (all_fit_here c p each (before ++ x ∷ []) xs h.1)

-- ---- order

pub last_push : {A : Type 0} (xs : List A) (x : A) → last_of (xs ++ x ∷ []) ≡ Some x
last_push [] x = refl
last_push (y ∷ []) x = refl
last_push (y ∷ z ∷ zs) x = last_push (z ∷ zs) x

-- a key behind the last one is behind the last member's
pub comes_behind : {A K : Type 0} (key : A → K) (rel : K → K → Bool) (before : List A) (y : A) (k : K) → last_of before ≡ Some y
    → comes_after rel (option_map key (last_of before)) k ≡ true → rel (key y) k ≡ true
comes_behind key rel before y k e h = subst (λ o. comes_after rel (option_map key o) k ≡ true) e h

module _ {R A : Type 0} (c : List A → Codec R A) (rel : A → A → Bool) (step : (before : List A) (y x : A) → last_of before ≡ Some y → (c before).fits x → rel y x ≡ true) where
  ascends : (before : List A) (y : A) → last_of before ≡ Some y → (xs : List A) → FitAfter c before xs → ascend rel (y ∷ xs) ≡ true
  ascends before y e [] h = refl
  ascends before y e (x ∷ xs) h = and_true (rel y x) (ascend rel (x ∷ xs)) (step before y x e h.0) (ascends (before ++ x ∷ []) x (last_push before x) xs h.1)

  pub all_ascend : (xs : List A) → FitAfter c [] xs → ascend rel xs ≡ true
  all_ascend [] h = refl
  all_ascend (x ∷ xs) h = ascends (x ∷ []) x refl xs h.1

pub ascend_map : {A B : Type 0} (f : A → B) (rel : B → B → Bool) (xs : List A) → ascend rel (map f xs) ≡ ascend (λ a b. rel (f a) (f b)) xs
ascend_map f rel [] = refl
ascend_map f rel (x ∷ []) = refl
ascend_map f rel (x ∷ y ∷ ys) = ap (λ b. rel (f x) (f y) && b) (ascend_map f rel (y ∷ ys))

-- ---- members that share nothing with earlier ones

not_false : (b : Bool) → not b ≡ true → b ≡ false
not_false true h = absurd (false≢true h)
not_false false h = refl

neither : (a b : Bool) → not a ≡ true → not b ≡ true → not (a || b) ≡ true
neither true b h k = absurd (false≢true h)
neither false b h k = k

list_all-push : {A : Type 0} (p : A → Bool) (xs : List A) (x : A) → list_all p (xs ++ x ∷ []) ≡ true → (list_all p xs ≡ true) × (p x ≡ true)
list_all-push p [] x h = (refl, and_left (p x) true h)
list_all-push p (y ∷ ys) x h =
    let rest = list_all-push p ys x (and_right (p y) (list_all p (ys ++ x ∷ [])) h) in
    (and_true (p y) (list_all p ys) (and_left (p y) (list_all p (ys ++ x ∷ [])) h) rest.0, rest.1)

module _ {A B : Type 0} (f : A → B) (share : B → B → Bool) where
  -- no member shares with a later one
  abbrev pub apart : List B → Bool
  apart [] = true
  apart (x ∷ xs) = not (list_any (share x) xs) && apart xs

  -- none of these shares with one of the others
  pub none_shares : List A → List A → Bool
  none_shares before xs = list_all (λ e. not (list_any (share (f e)) (map f xs))) before

  joined : (x : A) (xs before : List A) → not (list_any (λ e. share (f e) (f x)) before) ≡ true → none_shares before xs ≡ true → none_shares before (x ∷ xs) ≡ true
  unfolding none_shares
  joined x xs [] h k = refl
  joined x xs (e ∷ es) h k =
      let here : not (share (f e) (f x)) ≡ true = first_not (share (f e) (f x)) (list_any (λ e. share (f e) (f x)) es) h in
      let others : not (list_any (λ e. share (f e) (f x)) es) ≡ true = second_not (share (f e) (f x)) (list_any (λ e. share (f e) (f x)) es) h in
      and_true _ _
      (neither (share (f e) (f x)) (list_any (share (f e)) (map f xs)) here (and_left _ (list_all (λ e. not (list_any (share (f e)) (map f xs))) es) k))
      (joined x xs es others (and_right (not (list_any (share (f e)) (map f xs))) _ k))
    where
      first_not : (a b : Bool) → not (a || b) ≡ true → not a ≡ true
      first_not true b h = h
      first_not false b h = refl

      second_not : (a b : Bool) → not (a || b) ≡ true → not b ≡ true
      second_not true b h = absurd (false≢true h)
      second_not false b h = h

  module _ {R : Type 0} (c : List A → Codec R A) (step : (before : List A) (x : A) → (c before).fits x → not (list_any (λ e. share (f e) (f x)) before) ≡ true) where
    pub all_apart : (before xs : List A) → FitAfter c before xs → (none_shares before xs ≡ true) × (apart (map f xs) ≡ true)
    unfolding none_shares
    all_apart before [] h = (nothing before, refl)
      where
        nothing : (es : List A) → list_all (λ e. not (list_any (share (f e)) [])) es ≡ true
        nothing [] = refl
        nothing (e ∷ es) = nothing es
    all_apart before (x ∷ xs) h =
        let rest = all_apart (before ++ x ∷ []) xs h.1 in
        let split = list_all-push (λ e. not (list_any (share (f e)) (map f xs))) before x rest.0 in
        (joined x xs before (step before x h.0) split.0, and_true _ _ split.1 rest.1)
