-- What the items before one declare and define.
use Rattle.std.proofs.Common.{◌≡◌, ℕ, zero, suc, ◌+◌, ◌<◌, Bool, true, false, cond, ◌&&◌, ◌||◌, not, List, [], ◌∷◌, ◌++◌, map, length, take, get_or, slice_get, Option, Some, None, is_some, refl, sym, ap, ap₂, ◌∙◌, arith}
use Rattle.std.proofs.lemmas.Bool.Decides.{nat_tests}
use Rattle.std.specs.List.{list_any, position_from}
use Rattle.std.specs.Option.{option_or, option_map, option_and_then}
use Rattle.vk_ast.specs.declared.names.NameId.{NameId}
use Rattle.vk_ast.specs.declared.items.Item.{Item}
use Rattle.vk_ast.specs.Units.{FunctionTree, ObjectTree, ItemTree, function, object, item_of}
use Rattle.vk_rules_book.specs.Items.{agrees, defines, disagrees, is_wrong_again}
use Rattle.vk_rules_book.specs.Scopes.{declares, file_scope, first_declaration, same_name, is_print, printer, declared_meaning}
use Rattle.vk_rules_names.specs.Seen.{file_seen, item_at, number_at}
use Rattle.vk_rules_names.proofs.Tables.{grown, has_first}
use Rattle.vk_rules_items.specs.declared.survey.Survey.{Survey}
use Rattle.vk_rules_items.specs.declared.seen.Seen.{Seen}
use Rattle.vk_rules_items.specs.Inner.Known.{IsSeen, before_of}

-- ---- first declarations

first_seen : (survey : Survey) (seen : Seen) → IsSeen survey seen → (id : NameId) → item_at survey.items.now seen.first.items id ≡ first_declaration (before_of survey seen) id
first_seen survey seen is = has_first survey.items.now seen.first.items seen.number is.first

-- what names mean at file scope
pub scope_seen : (survey : Survey) (seen : Seen) (texts : List (List ℕ)) → IsSeen survey seen
    → record { file = file_seen texts survey.items.now seen.first.items; inner = []; outer = 0 } ≡ file_scope texts (before_of survey seen)
scope_seen survey seen texts is = λ i. record {
  file = λ id. cond (is_print texts id) (Some printer) (declared_meaning (first_seen survey seen is id i));
  inner = [];
  outer = 0;
}

-- a name is declared where the table has a number for it
pub declared_seen : (survey : Survey) (seen : Seen) → IsSeen survey seen → (id : NameId) → is_some (number_at seen.first.items id) ≡ is_some (first_declaration (before_of survey seen) id)
unfolding first_declaration
declared_seen survey seen is id = ap (λ (n : Option ℕ). is_some n) (is.first id) ∙ some_position (before_of survey seen) 0 id
  where
    pick : (b : Bool) (i : ℕ) (x : ItemTree) (p : Option ℕ) (q : Option ItemTree) → is_some p ≡ is_some q → is_some (cond b (Some i) p) ≡ is_some (cond b (Some x) q)
    pick true i x p q same = refl
    pick false i x p q same = same

    some_position : (xs : List ItemTree) (i : ℕ) (id : NameId) → is_some (position_from (declares id) i xs) ≡ is_some (first_declaration xs id)
    some_position [] i id = refl
    some_position (x ∷ xs) i id = pick (declares id x) i x _ _ (some_position xs (i + 1) id)

-- ---- redeclarations

item_here : (xs : List Item) (k : ℕ) (x : Item) → k < length xs → x ≡ get_or xs k x → slice_get xs k ≡ Some x
item_here [] k x lt is = absurd (omega (arith, lt))
item_here (y ∷ xs) zero x lt is = ap Some (sym is)
item_here (y ∷ xs) (suc k) x lt is = item_here xs k x (omega (arith, lt)) is

-- the item with this number disagrees
pub disagrees_at : (items : List Item) (k : ℕ) (x : Item) (i : ItemTree) (first : Option ℕ) (r : Bool) → first ≡ Some k → k < length items → x ≡ get_or items k x
    → r ≡ agrees (item_of x) i → not r ≡ disagrees (option_and_then (λ n. option_map item_of (slice_get items n)) first) i
disagrees_at items k x i first r some lt is told =
    ap not told
    ∙ sym (ap (λ o. disagrees (option_and_then (λ n. option_map item_of (slice_get items n)) o) i) some ∙ ap (λ o. disagrees (option_map item_of o) i) (item_here items k x lt is))

named : (a : NameId) → same_name a a ≡ true
named a = grind (arith, nat_tests)

pub function_defines : (f : FunctionTree) → is_some f.body ≡ defines f.name (function f)
function_defines f = ap (λ t. t && is_some f.body) (sym (named f.name))

pub object_defines : (o : ObjectTree) → not o.outside ≡ defines o.name (object o)
object_defines o = ap (λ t. t && not o.outside) (sym (named o.name))

pub wrong_again : (survey : Survey) (seen : Seen) (id : NameId) (i : ItemTree) (first defined : Option ℕ) (r d b n : Bool) → IsSeen survey seen
    → first ≡ number_at seen.first.items id → defined ≡ number_at seen.defined.items id → r ≡ (d || (b && n))
    → d ≡ disagrees (option_and_then (λ n. option_map item_of (slice_get survey.items.now n)) first) i → b ≡ defines id i → n ≡ is_some defined
    → r ≡ is_wrong_again (before_of survey seen) id i
wrong_again survey seen id i first defined r d b n is at known told disagreed own again =
    told
    ∙ ap₂ (λ (x y : Bool). x || y)
    (disagreed ∙ ap (λ o. disagrees (option_and_then (λ n. option_map item_of (slice_get survey.items.now n)) o) i) at ∙ ap (λ o. disagrees o i) (first_seen survey seen is id))
    (ap₂ (λ (x y : Bool). x && y) own (again ∙ ap (λ (o : Option ℕ). is_some o) known ∙ is.defined id))

-- ---- definitions

any_push : (test : ItemTree → Bool) (xs : List ItemTree) (x : ItemTree) → list_any test (xs ++ x ∷ []) ≡ (list_any test xs || test x)
any_push test [] x = or_false (test x)
  where
    or_false : (b : Bool) → (b || false) ≡ b
    or_false true = refl
    or_false false = refl
any_push test (y ∷ xs) x = ap (λ b. test y || b) (any_push test xs x) ∙ or_assoc (test y) (list_any test xs) (test x)
  where
    or_assoc : (a b c : Bool) → (a || (b || c)) ≡ ((a || b) || c)
    or_assoc true b c = refl
    or_assoc false b c = refl

some_or : (p : Option ℕ) (t : Bool) (k : ℕ) → is_some (option_or p (cond t (Some k) None)) ≡ (is_some p || t)
some_or None true k = refl
some_or None false k = refl
some_or (Some n) t k = refl

-- which names are defined behind one item more
pub next_defined : (items : List Item) (k m : ℕ) (x : Item) (id : NameId) (old new : Option ℕ) → k < length items → x ≡ get_or items k x
    → is_some old ≡ list_any (defines id) (map item_of (take k items)) → new ≡ option_or old (cond (defines id (item_of x)) (Some m) None)
    → is_some new ≡ list_any (defines id) (map item_of (take (k + 1) items))
next_defined items k m x id old new lt is before more =
    ap (λ (o : Option ℕ). is_some o) more ∙ some_or old (defines id (item_of x)) m ∙ ap (λ b. b || defines id (item_of x)) before
    ∙ sym (ap (list_any (defines id)) (grown items k x lt is) ∙ any_push (defines id) (map item_of (take k items)) (item_of x))
