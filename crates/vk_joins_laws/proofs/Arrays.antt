-- The arrays of an image that joins objects are those of the units, in the same order.
use Rattle.std.proofs.Common.{◌≡◌, ℕ, suc, slice_get, is_some, arith, Bool, true, false, cond, List, [], ◌∷◌, ◌++◌, map, flat_map, filter_map, Option, Some, None, refl, subst, sym, ap, ◌∙◌, ◌⊎◌, inl, inr, bytes_eq, Ordering, Less, Equal, Greater}
use Rattle.std.specs.List.{cons_option}
use Rattle.std.specs.Option.{option_and_then, option_map, option_or}
use Rattle.std.specs.Ordering.{is_le, is_eq}
use Rattle.std.proofs.lemmas.List.{append_assoc}
use Rattle.std.proofs.lemmas.Map.Text.{is_eq-slice_cmp}
use Rattle.std.proofs.lemmas.Slice.Eq.{bytes_eq-Decides}
use Rattle.vk_ast.specs.Units.{ItemTree}
use Rattle.vk_rules_book.specs.Rules.{Subject}
use Rattle.vk_meaning.specs.World.{Array}
use Rattle.vk_meaning.specs.Programs.{array_defined, put_in, in_order, arrays_of}
use Rattle.vk_object.specs.Images.{is_image}
use Rattle.vk_object.specs.Objects.{ObjectLists}
use Rattle.vk_object.specs.Tables.{Tables}
use Rattle.vk_agree.specs.Units.{first_of}
use Rattle.vk_joins.specs.Carries.{AreAccepted, Pair, objects_of, units_of, HaveTables, HasArraysOf}
use Rattle.vk_joins.specs.Joins.{Joins, array_defined_in, array_of_row, array_where_defined, defined_array}
use Rattle.vk_joins.specs.Tables.{HasTables, array_if_named, data_by, array_in, array_named, declared_array, object_named, trimmed_array}
use Rattle.vk_joins_laws.proofs.Accepted.{arrays_differ}
use Rattle.vk_joins_laws.proofs.Images.{arrays_ascend}
use Rattle.vk_joins_laws.proofs.Lists.{here, later, first_of_map}
use Rattle.vk_joins_laws.proofs.Order.{AreAscending, AreDifferent, EachAfter, IsNone, after_is, in_order_ascends, is_up_to, order, rows_ascend, same_text}

less_differs : (a b : List ℕ) → order a b ≡ Less → bytes_eq b a ≡ false
less_differs a b h = sym (is_eq-slice_cmp b a) ∙ ap is_eq (after_is a b h)

equal_is : (a b : List ℕ) → bytes_eq a b ≡ true → is_up_to a b ≡ true
equal_is a b h = at (order a b) (is_eq-slice_cmp a b ∙ h)
  where
    at : (o : Ordering) → is_eq o ≡ true → is_le o ≡ true
    at Less k = refl
    at Equal k = refl
    at Greater k = cc

-- the array with this name
abbrev pub look : List ℕ → List Array → Option Array
look t xs = first_of (array_if_named t) xs

look_above : (t : List ℕ) (bs : List Array) → EachAfter t bs → look t bs ≡ None
look_above t [] h = refl
look_above t (b ∷ bs) h = subst (λ (c : Bool). option_or (cond c (Some b) None) (look t bs) ≡ None) (sym (less_differs t b.text h.0)) (look_above t bs h.1)

found_after : (u t : List ℕ) (bs : List Array) (a : Array) → EachAfter u bs → look t bs ≡ Some a → order u a.text ≡ Less
found_after u t [] a h e = cc
found_after u t (b ∷ bs) a h e = at (bytes_eq b.text t) e (λ k. found_after u t bs a h.1 k)
  where
    at : (c : Bool) → option_or (cond c (Some b) None) (look t bs) ≡ Some a → (look t bs ≡ Some a → order u a.text ≡ Less) → order u a.text ≡ Less
    at true k next = subst (λ (x : Array). order u x.text ≡ Less) (some_same k) h.0
      where
        some_same : Some b ≡ Some a → b ≡ a
        some_same x = cc
    at false k next = next k

look_first : (a : Array) (zs : List Array) → look a.text (a ∷ zs) ≡ Some a
look_first a zs = ap (λ (c : Bool). option_or (cond c (Some a) None) (look a.text zs)) (same_text a.text)

-- a is the first, or it stands behind the first
first_or_later : (a b : Array) (bs : List Array) → AreAscending (b ∷ bs) → look a.text (b ∷ bs) ≡ Some a → (b ≡ a) ⊎ (order b.text a.text ≡ Less)
first_or_later a b bs s e = at (bytes_eq b.text a.text) e
  where
    at : (c : Bool) → option_or (cond c (Some b) None) (look a.text bs) ≡ Some a → (b ≡ a) ⊎ (order b.text a.text ≡ Less)
    at true k = inl cc
    at false k = inr (found_after b.text a.text bs a s.0 k)

same_first : (a b : Array) → (b ≡ a) ⊎ (order b.text a.text ≡ Less) → (a ≡ b) ⊎ (order a.text b.text ≡ Less) → a ≡ b
same_first a b (inl e) y = sym e
same_first a b (inr h) (inl e) = e
same_first a b (inr h) (inr k) = absurd (no (sym h ∙ after_is a.text b.text k))
  where
    no : Less ≡ Greater → ⊥
    no x = cc

same_rest : (a : Array) (zs bs : List Array) → AreAscending (a ∷ zs) → AreAscending (a ∷ bs) → ((t : List ℕ) → look t (a ∷ zs) ≡ look t (a ∷ bs)) → (t : List ℕ) → look t zs ≡ look t bs
same_rest a zs bs r s h t = at (bytes_eq a.text t) refl (h t)
  where
    at : (c : Bool) → bytes_eq a.text t ≡ c → option_or (cond c (Some a) None) (look t zs) ≡ option_or (cond c (Some a) None) (look t bs) → look t zs ≡ look t bs
    at true e k = let q = (bytes_eq-Decides a.text t).0 e in subst (λ (u : List ℕ). look u zs ≡ look u bs) q (look_above a.text zs r.0 ∙ sym (look_above a.text bs s.0))
    at false e k = k

-- lists of arrays in strict order in which every name has the same are the same
pub same_sorted : (zs bs : List Array) → AreAscending zs → AreAscending bs → ((t : List ℕ) → look t zs ≡ look t bs) → zs ≡ bs
same_sorted [] [] r s h = refl
same_sorted [] (b ∷ bs) r s h = absurd (none_some (h b.text ∙ look_first b bs))
  where
    none_some : None ≡ Some b → ⊥
    none_some e = cc
same_sorted (a ∷ zs) [] r s h = absurd (none_some (sym (h a.text) ∙ look_first a zs))
  where
    none_some : None ≡ Some a → ⊥
    none_some e = cc
same_sorted (a ∷ zs) (b ∷ bs) r s h =
    let e : a ≡ b = same_first a b (first_or_later a b bs s (sym (h a.text) ∙ look_first a zs)) (first_or_later b a zs r (h b.text ∙ look_first b bs)) in
    let s' : AreAscending (a ∷ bs) = subst (λ (x : Array). AreAscending (x ∷ bs)) (sym e) s in
    let h' : (t : List ℕ) → look t (a ∷ zs) ≡ look t (a ∷ bs) = subst (λ (x : Array). (t : List ℕ) → look t (a ∷ zs) ≡ look t (x ∷ bs)) (sym e) h in
    ap (λ (x : Array). x ∷ zs) e ∙ ap (λ (xs : List Array). b ∷ xs) (same_sorted zs bs r.1 s.1 (same_rest a zs bs r s' h'))

-- ---- the arrays of units, by name

put_at : (t : List ℕ) (a b : Array) (rest : Option Array) (c d : Bool) → bytes_eq a.text t ≡ c → bytes_eq b.text t ≡ d → is_up_to a.text b.text ≡ false →
    option_or (cond d (Some b) None) (option_or (cond c (Some a) None) rest) ≡ option_or (cond c (Some a) None) (option_or (cond d (Some b) None) rest)
put_at t a b rest true true e f h = absurd (no (sym h ∙ equal_is a.text b.text (subst (λ (u : List ℕ). bytes_eq a.text u ≡ true) (sym ((bytes_eq-Decides b.text t).0 f)) e)))
  where
    no : false ≡ true → ⊥
    no x = cc
put_at t a b rest true false e f h = refl
put_at t a b rest false true e f h = refl
put_at t a b rest false false e f h = refl

look_put : (t : List ℕ) (a : Array) (bs : List Array) → look t (put_in a bs) ≡ option_or (array_if_named t a) (look t bs)
look_put t a [] = refl
look_put t a (b ∷ bs) = at (is_up_to a.text b.text) refl (look_put t a bs)
  where
    at : (c : Bool) → is_up_to a.text b.text ≡ c → look t (put_in a bs) ≡ option_or (array_if_named t a) (look t bs) → look t (cond c (a ∷ b ∷ bs) (b ∷ put_in a bs)) ≡ option_or (array_if_named t a) (look t (b ∷ bs))
    at true e k = refl
    at false e k = ap (option_or (array_if_named t b)) k ∙ put_at t a b (look t bs) (bytes_eq a.text t) (bytes_eq b.text t) refl refl e

pub look_order : (t : List ℕ) (xs : List Array) → look t (in_order xs) ≡ look t xs
look_order t [] = refl
look_order t (a ∷ rest) = look_put t a (in_order rest) ∙ ap (option_or (array_if_named t a)) (look_order t rest)

or_assoc : (a b c : Option Array) → option_or (option_or a b) c ≡ option_or a (option_or b c)
or_assoc None b c = refl
or_assoc (Some a) b c = refl

look_append : (t : List ℕ) (xs ys : List Array) → look t (xs ++ ys) ≡ option_or (look t xs) (look t ys)
look_append t [] ys = refl
look_append t (x ∷ xs) ys = ap (option_or (array_if_named t x)) (look_append t xs ys) ∙ sym (or_assoc (array_if_named t x) (look t xs) (look t ys))

look_items : (t : List ℕ) (s : Subject) (items : List ItemTree) → look t (filter_map (array_defined s) items) ≡ first_of (array_named t s) items
look_items t s [] = refl
look_items t s (i ∷ is) = at (array_defined s i) (look_items t s is)
  where
    at : (o : Option Array) → look t (filter_map (array_defined s) is) ≡ first_of (array_named t s) is →
        look t (cons_option o (filter_map (array_defined s) is)) ≡
        option_or (option_and_then (array_if_named t) o) (first_of (array_named t s) is)
    at None k = k
    at (Some a) k = ap (option_or (array_if_named t a)) k

pub look_units : (t : List ℕ) (ss : List Subject) → look t (flat_map (λ (u : Subject). filter_map (array_defined u) u.items) ss) ≡ first_of (array_in t) ss
look_units t [] = refl
look_units t (s ∷ ss) = look_append t (filter_map (array_defined s) s.items) (flat_map (λ (u : Subject). filter_map (array_defined u) u.items) ss) ∙ (λ i. option_or (look_items t s s.items i) (look_units t ss i))

look_trimmed : (t : List ℕ) (xs : List Array) → look t (map trimmed_array xs) ≡ option_map trimmed_array (look t xs)
look_trimmed t [] = refl
look_trimmed t (x ∷ xs) = at (bytes_eq x.text t) (look_trimmed t xs)
  where
    at : (c : Bool) → look t (map trimmed_array xs) ≡ option_map trimmed_array (look t xs) →
        option_or (cond c (Some (trimmed_array x)) None) (look t (map trimmed_array xs)) ≡ option_map trimmed_array (option_or (cond c (Some x) None) (look t xs))
    at true k = refl
    at false k = k

every_trimmed : (u : List ℕ) (xs : List Array) → EachAfter u xs → EachAfter u (map trimmed_array xs)
every_trimmed u [] h = tt
every_trimmed u (x ∷ xs) h = (h.0, every_trimmed u xs h.1)

ascending_trimmed : (xs : List Array) → AreAscending xs → AreAscending (map trimmed_array xs)
ascending_trimmed [] h = tt
ascending_trimmed (x ∷ xs) h = (every_trimmed x.text xs h.0, ascending_trimmed xs h.1)

-- ---- the arrays of objects, by name

defined_data : (a d : Option Array) → option_and_then array_where_defined (data_by a d) ≡ option_map trimmed_array a
defined_data (Some a) d = refl
defined_data None (Some d) = refl
defined_data None None = refl

or_trimmed : (a b : Option Array) → option_or (option_map trimmed_array a) (option_map trimmed_array b) ≡ option_map trimmed_array (option_or a b)
or_trimmed None b = refl
or_trimmed (Some a) b = refl

-- what an object defines is what its unit does
object_defines : (t : List ℕ) (p : Pair) → HasTables p.object p.unit → array_defined_in p.object t ≡ option_map trimmed_array (array_in t p.unit)
object_defines t p h = ap (option_and_then array_where_defined) (h.objects t) ∙ defined_data (array_in t p.unit) (option_map (declared_array p.unit) (first_of (object_named t p.unit) p.unit.items))

look_objects : (t : List ℕ) (ps : List Pair) → HaveTables ps → defined_array (objects_of ps) t ≡ option_map trimmed_array (first_of (array_in t) (units_of ps))
look_objects t [] h = refl
look_objects t (p ∷ ps) h =
    (λ i. option_or (object_defines t p (h p (here p ps)) i) (look_objects t ps (λ q k. h q (later p q ps k)) i)) ∙
    or_trimmed (array_in t p.unit) (first_of (array_in t) (units_of ps))

-- ---- the arrays of accepted units have different names

-- all of these are found among those
abbrev AllFound : (all xs : List Array) → Type 0
AllFound all [] = Unit {0}
AllFound all (x ∷ xs) = (is_some (look x.text all) ≡ true) × AllFound all xs

some_behind : (a : Option Array) (x : Array) → is_some (option_or a (Some x)) ≡ true
some_behind None x = refl
some_behind (Some a) x = refl

found_here : (before xs : List Array) (x : Array) → is_some (look x.text (before ++ x ∷ xs)) ≡ true
found_here before xs x =
    ap is_some (look_append x.text before (x ∷ xs) ∙ ap (option_or (look x.text before)) (look_first x xs)) ∙ some_behind (look x.text before) x

all_found : (before xs : List Array) → AllFound (before ++ xs) xs
all_found before [] = tt
all_found before (x ∷ xs) = (found_here before xs x, subst (λ (all : List Array). AllFound all xs) (append_assoc before (x ∷ []) xs) (all_found (before ++ x ∷ []) xs))

none_look : (t : List ℕ) (xs : List Array) → look t xs ≡ None → IsNone t xs
none_look t [] h = tt
none_look t (x ∷ xs) h = at (bytes_eq x.text t) refl h (λ k. none_look t xs k)
  where
    other : bytes_eq x.text t ≡ false → bytes_eq t x.text ≡ false
    other e = swapped (bytes_eq t x.text) refl
      where
        swapped : (b : Bool) → bytes_eq t x.text ≡ b → b ≡ false
        swapped false k = refl
        swapped true k = sym (same_text x.text) ∙ (subst (λ (u : List ℕ). bytes_eq x.text u ≡ false) ((bytes_eq-Decides t x.text).0 k) e)

    at : (b : Bool) → bytes_eq x.text t ≡ b → option_or (cond b (Some x) None) (look t xs) ≡ None → (look t xs ≡ None → IsNone t xs) → IsNone t (x ∷ xs)
    at true e k next = cc
    at false e k next = (other e, next k)

none_both : (t : List ℕ) (xs ys : List Array) → IsNone t xs → IsNone t ys → IsNone t (xs ++ ys)
none_both t [] ys h k = k
none_both t (x ∷ xs) ys h k = (h.0, none_both t xs ys h.1 k)

differ_both : (all xs ys : List Array) → AreDifferent xs → AreDifferent ys → AllFound all xs → ((t : List ℕ) → is_some (look t all) ≡ true → IsNone t ys) → AreDifferent (xs ++ ys)
differ_both all [] ys h k f other = k
differ_both all (x ∷ xs) ys h k f other = (none_both x.text xs ys h.0 (other x.text f.0), differ_both all xs ys h.1 k f.1 other)

-- each array is defined by one object
abbrev AreOnce : List ObjectLists → Type 0
AreOnce os = (i j : ℕ) (o p : ObjectLists) → slice_get os i ≡ Some o → slice_get os j ≡ Some p → (text : List ℕ) →
    is_some (array_defined_in o text) ≡ true → is_some (array_defined_in p text) ≡ true → i ≡ j

no_array_in : (t : List ℕ) (ps : List Pair) → HaveTables ps → ((k : ℕ) (o : ObjectLists) → slice_get (objects_of ps) k ≡ Some o → is_some (array_defined_in o t) ≡ true → ⊥) → first_of (array_in t) (units_of ps) ≡ None
no_array_in t [] h never = refl
no_array_in t (p ∷ ps) h never =
    at (array_in t p.unit) (ap is_some (object_defines t p (h p (here p ps)))) (no_array_in t ps (λ q k. h q (later p q ps k)) (λ k o e d. never (suc k) o e d))
  where
    at : (a : Option Array) → is_some (array_defined_in p.object t) ≡ is_some (option_map trimmed_array a) → first_of (array_in t) (units_of ps) ≡ None → option_or a (first_of (array_in t) (units_of ps)) ≡ None
    at None e k = k
    at (Some a) e k = absurd (never 0 p.object refl e)

arrays_of_units_differ : (ps : List Pair) → AreAccepted ps → HaveTables ps → AreOnce (objects_of ps) → AreDifferent (flat_map (λ (u : Subject). filter_map (array_defined u) u.items) (units_of ps))
arrays_of_units_differ [] accepted tables once = tt
arrays_of_units_differ (p ∷ ps) accepted tables once =
    differ_both own own (flat_map (λ (u : Subject). filter_map (array_defined u) u.items) (units_of ps)) (arrays_differ p.unit (accepted p (here p ps)))
    (arrays_of_units_differ ps (λ q k. accepted q (later p q ps k)) (λ q k. tables q (later p q ps k)) (λ i j o q a b t c d. less i j (once (suc i) (suc j) o q a b t c d))) (all_found [] own) none
  where
    own : List Array
    own = filter_map (array_defined p.unit) p.unit.items

    less : (i j : ℕ) → suc i ≡ suc j → i ≡ j
    less i j e = omega arith

    defines : (t : List ℕ) → is_some (look t own) ≡ true → is_some (array_defined_in p.object t) ≡ true
    defines t h = ap is_some (object_defines t p (tables p (here p ps))) ∙ some_trimmed (array_in t p.unit) (sym (ap is_some (look_items t p.unit p.unit.items)) ∙ h)
      where
        some_trimmed : (a : Option Array) → is_some a ≡ true → is_some (option_map trimmed_array a) ≡ true
        some_trimmed None k = k
        some_trimmed (Some a) k = refl

    never : (t : List ℕ) → is_some (look t own) ≡ true → (k : ℕ) (o : ObjectLists) → slice_get (objects_of ps) k ≡ Some o → is_some (array_defined_in o t) ≡ true → ⊥
    never t h k o e d = omega (arith, once 0 (suc k) p.object o refl e t (defines t h) d)

    none : (t : List ℕ) → is_some (look t own) ≡ true → IsNone t (flat_map (λ (u : Subject). filter_map (array_defined u) u.items) (units_of ps))
    none t h = none_look t (flat_map (λ (u : Subject). filter_map (array_defined u) u.items) (units_of ps))
        (look_units t (units_of ps) ∙ no_array_in t ps (λ q k. tables q (later p q ps k)) (never t h))

units_ascend : (image : Tables) (ps : List Pair) → AreAccepted ps → HaveTables ps → Joins image (objects_of ps) → AreAscending (arrays_of (units_of ps))
units_ascend image ps accepted tables joins = in_order_ascends (flat_map (λ (u : Subject). filter_map (array_defined u) u.items) (units_of ps)) (arrays_of_units_differ ps accepted tables joins.array_once)

-- THE ARRAYS: an image that joins objects has the arrays of the units
pub arrays_are : (image : Tables) (ps : List Pair) → is_image image ≡ true → AreAccepted ps → HaveTables ps → Joins image (objects_of ps) → HasArraysOf image (units_of ps)
arrays_are image ps valid accepted tables joins =
    same_sorted (map array_of_row image.arrays) (map trimmed_array (arrays_of (units_of ps))) (rows_ascend image.arrays (arrays_ascend image valid))
    (ascending_trimmed (arrays_of (units_of ps)) (units_ascend image ps accepted tables joins)) same
  where
    same : (t : List ℕ) → look t (map array_of_row image.arrays) ≡ look t (map trimmed_array (arrays_of (units_of ps)))
    same t =
        first_of_map (array_if_named t) array_of_row image.arrays ∙ (joins.arrays t ∙ (look_objects t ps tables ∙ sym
        (look_trimmed t (arrays_of (units_of ps)) ∙ ap (option_map trimmed_array)
        (look_order t (flat_map (λ (u : Subject). filter_map (array_defined u) u.items) (units_of ps)) ∙ look_units t (units_of ps)))))
