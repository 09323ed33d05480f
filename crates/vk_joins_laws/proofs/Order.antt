-- Names in ascending order, byte by byte: of the arrays of an image, and of those of units.
use Rattle.std.proofs.Common.{◌≡◌, ◌<◌, ℕ, ◌==◌, nat_lt, ◌&&◌, ◌||◌, Bool, true, false, cond, List, [], ◌∷◌, map, refl, ap, ◌∙◌, arith, bytes_eq, Ordering, Less, Equal, Greater, nat_cmp}
use Rattle.std.specs.Ordering.{is_le, is_lt, is_eq, ordering_reverse, MatchOrdering}
use Rattle.std.specs.Cmp.Lexicographic.{slice_cmp}
use Rattle.std.proofs.lemmas.Bool.Decides.{nat_tests}
use Rattle.std.proofs.lemmas.Cmp.{nat_list_cmp_total, ranked, same_from_slice_cmp}
use Rattle.std.proofs.lemmas.Map.Text.{is_eq-slice_cmp}
use Rattle.std.proofs.lemmas.Slice.Eq.{bytes_eq-Decides}
use Rattle.vk_meaning.specs.World.{Array}
use Rattle.vk_meaning.specs.Programs.{put_in, in_order}
use Rattle.vk_object.specs.Images.{array_before}
use Rattle.vk_object.specs.Tables.{ArrayLists}
use Rattle.vk_object.specs.Texts.{ascend, is_before}
use Rattle.vk_joins.specs.Joins.{array_of_row}
use Rattle.vk_joins_laws.proofs.Lists.{both_first, both_second}

abbrev pub order : List ℕ → List ℕ → Ordering
order a b = slice_cmp nat_cmp a b

abbrev pub is_up_to : List ℕ → List ℕ → Bool
is_up_to a b = is_le (order a b)

pub same_text : (a : List ℕ) → bytes_eq a a ≡ true
same_text a = (bytes_eq-Decides a a).1 refl

pub after_is : (a b : List ℕ) → order a b ≡ Less → order b a ≡ Greater
after_is a b h = nat_list_cmp_total.antisymm b a ∙ ap ordering_reverse h

pub less_is : (o : Ordering) → is_lt o ≡ true → o ≡ Less
less_is Less h = refl
less_is Equal h = cc
less_is Greater h = cc

abbrev pub EachAfter : List ℕ → List Array → Type 0
EachAfter text [] = Unit {0}
EachAfter text (b ∷ bs) = (order text b.text ≡ Less) × EachAfter text bs

-- in strictly ascending order of the names
abbrev pub AreAscending : List Array → Type 0
AreAscending [] = Unit {0}
AreAscending (a ∷ rest) = EachAfter a.text rest × AreAscending rest

after_more : (a b : List ℕ) (xs : List Array) → order a b ≡ Less → EachAfter b xs → EachAfter a xs
after_more a b [] h k = tt
after_more a b (x ∷ xs) h k = (nat_list_cmp_total.trans a b x.text h k.0, after_more a b xs h k.1)

-- ---- an image

before_step : (x y : ℕ) (xs ys : List ℕ) (o : Ordering) → o ≡ nat_cmp x y →
    MatchOrdering o (is_before (x ∷ xs) (y ∷ ys) ≡ is_lt Less) (is_before (x ∷ xs) (y ∷ ys) ≡ is_before xs ys) (is_before (x ∷ xs) (y ∷ ys) ≡ is_lt Greater)
before_step x y xs ys o e = at o (ranked x y o e)
  where
    less : x < y → (nat_lt x y || ((x == y) && is_before xs ys)) ≡ true
    less h = grind (arith, nat_tests)

    same : x ≡ y → (nat_lt x y || ((x == y) && is_before xs ys)) ≡ is_before xs ys
    same h = grind (arith, nat_tests)

    greater : y < x → (nat_lt x y || ((x == y) && is_before xs ys)) ≡ false
    greater h = grind (arith, nat_tests)

    at : (r : Ordering) → MatchOrdering r (x < y) (x ≡ y) (y < x) →
        MatchOrdering r (is_before (x ∷ xs) (y ∷ ys) ≡ is_lt Less) (is_before (x ∷ xs) (y ∷ ys) ≡ is_before xs ys) (is_before (x ∷ xs) (y ∷ ys) ≡ is_lt Greater)
    at Less h = less h
    at Equal h = same h
    at Greater h = greater h

before_is : (a b : List ℕ) → is_lt (order a b) ≡ is_before a b
before_is a b = same_from_slice_cmp nat_cmp is_lt is_before refl (λ y ys. refl) (λ x xs. refl) before_step a b (order a b) refl

-- each array of an image is before the next one, so before all behind it
pub rows_ascend : (rows : List ArrayLists) → ascend array_before rows ≡ true → AreAscending (map array_of_row rows)
rows_ascend [] h = tt
rows_ascend (a ∷ []) h = (tt, tt)
rows_ascend (a ∷ b ∷ rows) h =
    let rest = rows_ascend (b ∷ rows) (both_second (array_before a b) (ascend array_before (b ∷ rows)) h) in
    let first = less_is (order a.text b.text) (before_is a.text b.text ∙ both_first (array_before a b) (ascend array_before (b ∷ rows)) h) in
    ((first, after_more a.text b.text (map array_of_row rows) first rest.0), rest)

-- ---- units

-- the name is none of these
abbrev pub IsNone : List ℕ → List Array → Type 0
IsNone text [] = Unit {0}
IsNone text (b ∷ bs) = (bytes_eq text b.text ≡ false) × IsNone text bs

-- arrays of different names
abbrev pub AreDifferent : List Array → Type 0
AreDifferent [] = Unit {0}
AreDifferent (a ∷ rest) = IsNone a.text rest × AreDifferent rest

up_to_is : (a b : List ℕ) → bytes_eq a b ≡ false → is_up_to a b ≡ true → order a b ≡ Less
up_to_is a b d h = at (order a b) (is_eq-slice_cmp a b ∙ d) h
  where
    at : (o : Ordering) → is_eq o ≡ false → is_le o ≡ true → o ≡ Less
    at Less d h = refl
    at Equal d h = cc
    at Greater d h = cc

past_is : (a b : List ℕ) → is_up_to a b ≡ false → order b a ≡ Less
past_is a b h = nat_list_cmp_total.antisymm b a ∙ at (order a b) h
  where
    at : (o : Ordering) → is_le o ≡ false → ordering_reverse o ≡ Less
    at Less h = cc
    at Equal h = cc
    at Greater h = refl

each_after_put : (t : List ℕ) (a : Array) (bs : List Array) → order t a.text ≡ Less → EachAfter t bs → EachAfter t (put_in a bs)
each_after_put t a [] h k = (h, tt)
each_after_put t a (b ∷ bs) h k = at (is_up_to a.text b.text) (each_after_put t a bs h k.1)
  where
    at : (c : Bool) → EachAfter t (put_in a bs) → EachAfter t (cond c (a ∷ b ∷ bs) (b ∷ put_in a bs))
    at true r = (h, k)
    at false r = (k.0, r)

put_ascends : (a : Array) (bs : List Array) → IsNone a.text bs → AreAscending bs → AreAscending (put_in a bs)
put_ascends a [] n h = (tt, tt)
put_ascends a (b ∷ bs) n h = at (is_up_to a.text b.text) refl (put_ascends a bs n.1 h.1)
  where
    at : (c : Bool) → is_up_to a.text b.text ≡ c → AreAscending (put_in a bs) → AreAscending (cond c (a ∷ b ∷ bs) (b ∷ put_in a bs))
    at true e k = let l = up_to_is a.text b.text n.0 e in ((l, after_more a.text b.text bs l h.0), h)
    at false e k = (each_after_put b.text a bs (past_is a.text b.text e) h.0, k)

none_put : (t : List ℕ) (a : Array) (bs : List Array) → bytes_eq t a.text ≡ false → IsNone t bs → IsNone t (put_in a bs)
none_put t a [] h k = (h, tt)
none_put t a (b ∷ bs) h k = at (is_up_to a.text b.text) (none_put t a bs h k.1)
  where
    at : (c : Bool) → IsNone t (put_in a bs) → IsNone t (cond c (a ∷ b ∷ bs) (b ∷ put_in a bs))
    at true r = (h, k)
    at false r = (k.0, r)

none_in_order : (t : List ℕ) (xs : List Array) → IsNone t xs → IsNone t (in_order xs)
none_in_order t [] h = tt
none_in_order t (x ∷ xs) h = none_put t x (in_order xs) h.0 (none_in_order t xs h.1)

-- arrays of different names, put in order, ascend
pub in_order_ascends : (xs : List Array) → AreDifferent xs → AreAscending (in_order xs)
in_order_ascends [] h = tt
in_order_ascends (x ∷ xs) h = put_ascends x (in_order xs) (none_in_order x.text xs h.0) (in_order_ascends xs h.1)
