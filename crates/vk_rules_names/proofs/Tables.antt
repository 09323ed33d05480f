-- Tables of first declarations.
use Rattle.std.proofs.Common.{◌≡◌, ℕ, zero, suc, ◌+◌, ◌<◌, ◌≤◌, Bool, true, false, cond, List, [], ◌∷◌, ◌++◌, map, length, take, get_or, slice_get, Option, Some, None, refl, sym, ap, ap₂, ◌∙◌, arith}
use Rattle.std.proofs.lemmas.List.{length-take-le, take_all, take_more}
use Rattle.std.specs.List.{position_from}
use Rattle.std.specs.Option.{option_or, option_and_then, option_map}
use Rattle.vk_ast.specs.declared.names.NameId.{NameId}
use Rattle.vk_ast.specs.declared.items.Item.{Item}
use Rattle.vk_ast.specs.Units.{item_of, ItemTree}
use Rattle.vk_rules_book.specs.Scopes.{declares, first_declaration}
use Rattle.vk_rules_names.specs.Seen.{AreFirst, HasFirst, first_item, number_at}

-- ---- numbers of first declarations

or_in : (b : Bool) (i : ℕ) (p q : Option ℕ) → cond b (Some i) (option_or p q) ≡ option_or (cond b (Some i) p) q
or_in true i p q = refl
or_in false i p q = refl

from_push : (test : ItemTree → Bool) (i : ℕ) (xs : List ItemTree) (x : ItemTree)
    → position_from test i (xs ++ x ∷ []) ≡ option_or (position_from test i xs) (cond (test x) (Some (i + length xs)) None)
from_push test i [] x = ap (λ n. cond (test x) (Some n) None) (omega arith)
from_push test i (y ∷ xs) x =
    let on : i + 1 + length xs ≡ i + suc (length xs) = omega arith in
    ap (cond (test y) (Some i)) (from_push test (i + 1) xs x ∙ ap (λ n. option_or (position_from test (i + 1) xs) (cond (test x) (Some n) None)) on)
    ∙ or_in (test y) i (position_from test (i + 1) xs) _

pick : (b : Bool) (f : ℕ → Option ItemTree) (i : ℕ) (p : Option ℕ) (x : ItemTree) (q : Option ItemTree)
    → f i ≡ Some x → option_and_then f p ≡ q → option_and_then f (cond b (Some i) p) ≡ cond b (Some x) q
pick true f i p x q here rest = here
pick false f i p x q here rest = rest

seen : (items : List Item) (id : NameId) (i : ℕ) (xs : List Item) → ((k : ℕ) → k < length xs → slice_get items (i + k) ≡ slice_get xs k)
    → option_and_then (λ n. option_map item_of (slice_get items n)) (position_from (declares id) i (map item_of xs)) ≡ first_declaration (map item_of xs) id
unfolding first_declaration
seen items id i [] same = refl
seen items id i (x ∷ xs) same =
    let here : i + 0 ≡ i = omega arith in
    pick (declares id (item_of x)) (λ n. option_map item_of (slice_get items n)) i _ (item_of x) _
    (ap (option_map item_of) (ap (slice_get items) (sym here) ∙ same 0 (omega arith)))
    (seen items id (i + 1) xs (λ k lt. let on : i + 1 + k ≡ i + suc k = omega arith in ap (slice_get items) on ∙ same (suc k) (omega (arith, lt))))

front : (c : ℕ) (xs : List Item) (k : ℕ) → k < length (take c xs) → slice_get xs k ≡ slice_get (take c xs) k
front zero xs k lt = absurd (omega (arith, lt))
front (suc c) [] k lt = refl
front (suc c) (x ∷ xs) zero lt = refl
front (suc c) (x ∷ xs) (suc k) lt = front c xs k (omega (arith, lt))

-- a table of numbers is one of declarations
pub has_first : (items : List Item) (first : List (Option ℕ)) (count : ℕ) → AreFirst items first count → HasFirst items first count
has_first items first count are id =
    ap (option_and_then (λ n. option_map item_of (slice_get items n))) (are id)
    ∙ seen items id 0 (take count items) (λ k lt. let on : 0 + k ≡ k = omega arith in ap (slice_get items) on ∙ front count items k lt)

map_push : (xs : List Item) (x : Item) → map item_of (xs ++ x ∷ []) ≡ map item_of xs ++ item_of x ∷ []
map_push [] x = refl
map_push (y ∷ xs) x = ap (λ ys. item_of y ∷ ys) (map_push xs x)

map_length : (xs : List Item) → length (map item_of xs) ≡ length xs
map_length [] = refl
map_length (x ∷ xs) = ap suc (map_length xs)

-- the items up to one more
pub grown : (items : List Item) (k : ℕ) (x : Item) → k < length items → x ≡ get_or items k x → map item_of (take (k + 1) items) ≡ map item_of (take k items) ++ item_of x ∷ []
grown items k x lt is = ap (map item_of) (take_more items k x lt ∙ ap (λ y. take k items ++ y ∷ []) (sym is)) ∙ map_push (take k items) x

-- the numbers of one item more
pub next_first : (items : List Item) (old new : List (Option ℕ)) (k : ℕ) (x : Item) → k < length items → x ≡ get_or items k x → AreFirst items old k
    → ((id : NameId) → number_at new id ≡ option_or (number_at old id) (cond (declares id (item_of x)) (Some k) None)) → AreFirst items new (k + 1)
next_first items old new k x lt is before added id =
    let len : 0 + length (map item_of (take k items)) ≡ k = omega (arith, map_length (take k items), length-take-le k items (omega (arith, lt))) in
    added id
    ∙ ap₂ (λ (p : Option ℕ) (n : ℕ). option_or p (cond (declares id (item_of x)) (Some n) None)) (before id) (sym len)
    ∙ sym (ap (position_from (declares id) 0) (grown items k x lt is) ∙ from_push (declares id) 0 (map item_of (take k items)) (item_of x))

-- none before the first item
pub none_first : (items : List Item) (first : List (Option ℕ)) → ((id : NameId) → number_at first id ≡ None) → AreFirst items first 0
none_first items first none id = none id

-- all items
pub all_first : (items : List Item) (first : List (Option ℕ)) (k : ℕ) → length items ≤ k → AreFirst items first k → AreFirst items first (length items)
all_first items first k past are id = are id ∙ ap (λ xs. first_item (map item_of xs) id) (take_all k items past ∙ sym (take_all (length items) items (omega arith)))
