-- What is visible where a body begins.
use Rattle.std.proofs.Common.{◌≡◌, ℕ, zero, suc, ◌+◌, ◌<◌, Bool, true, false, cond, List, [], ◌∷◌, ◌++◌, length, map, take, slice_index_or, slice_get, Option, Some, None, refl, sym, ap, ap₂, ◌∙◌, arith}
use Rattle.std.proofs.lemmas.List.{take_all, take_more}
use Rattle.std.specs.List.{position_from}
use Rattle.std.specs.Option.{option_and_then, option_map}
use Rattle.vk_ast.specs.declared.names.NameId.{NameId}
use Rattle.vk_ast.specs.declared.items.Item.{Item}
use Rattle.vk_ast.specs.declared.items.ParamDecl.{ParamDecl}
use Rattle.vk_ast.specs.Units.{item_of, ItemTree}
use Rattle.vk_rules_book.specs.declared.contexts.Binding.{Binding}
use Rattle.vk_rules_book.specs.Scopes.{Scope, Meaning, declared_meaning, declares, file_meaning, file_scope, first_declaration, is_print, printer, with_param, with_params}
use Rattle.vk_rules_names.specs.declared.known.Place.{Place}
use Rattle.vk_rules_names.specs.Seen.{AreFirst, file_seen, item_at, number_at, scope_at}

-- ---- parameters

pub params_none : (s : Scope) → s ≡ with_params s []
unfolding with_params
params_none s = refl

params_push : (s : Scope) (ps : List ParamDecl) (p : ParamDecl) → with_params s (ps ++ p ∷ []) ≡ with_param (with_params s ps) p.name p
unfolding with_params
params_push s [] p = refl
params_push s (q ∷ ps) p = params_push (with_param s q.name q) ps p

-- one parameter more
pub one_bound : (s : Scope) (ps : List ParamDecl) (i : ℕ) (d p : ParamDecl) (old new : Scope) → i < length ps → p ≡ slice_index_or ps i d → old ≡ with_params s (take i ps) →
    new ≡ with_param old p.name p → new ≡ with_params s (take (i + 1) ps)
one_bound s ps i d p old new below is e n =
    n ∙ ap (λ u. with_param u p.name p) e
    ∙ sym (ap (with_params s) (take_more ps i d below ∙ ap (λ y. take i ps ++ y ∷ []) (sym is)) ∙ params_push s (take i ps) p)

-- ---- file scope

nothing_at : (test : ItemTree → Bool) (at : ℕ → Option ItemTree) (i : ℕ) (xs : List ItemTree) → ((k : ℕ) → at (i + k) ≡ None) → option_and_then at (position_from test i xs) ≡ None
nothing_at test at i [] h = refl
nothing_at test at i (x ∷ xs) h =
    let here : i + 0 ≡ i = omega arith in
    by (test x) (ap at (sym here) ∙ h 0) (nothing_at test at (i + 1) xs (λ k. let on : i + 1 + k ≡ i + suc k = omega arith in ap at on ∙ h (suc k)))
  where
    by : (b : Bool) → at i ≡ None → option_and_then at (position_from test (i + 1) xs) ≡ None → option_and_then at (cond b (Some i) (position_from test (i + 1) xs)) ≡ None
    by true e f = e
    by false e f = f

found_at : (b : Bool) (at : ℕ → Option ItemTree) (i : ℕ) (x : ItemTree) (o : Option ℕ) (d : Option ItemTree) → at i ≡ Some x → option_and_then at o ≡ d →
    option_and_then at (cond b (Some i) o) ≡ cond b (Some x) d
found_at true at i x o d e f = e
found_at false at i x o d e f = f

-- the first declaration in a front of the items, by its number in all of them
in_front : (id : NameId) (at : ℕ → Option ItemTree) (count i : ℕ) (xs : List Item) → ((k : ℕ) → at (i + k) ≡ option_map item_of (slice_get (take count xs) k)) →
    option_and_then at (position_from (declares id) i (map item_of xs)) ≡ first_declaration (map item_of (take count xs)) id
unfolding first_declaration
in_front id at zero i xs h = nothing_at (declares id) at i (map item_of xs) h
in_front id at (suc count) i [] h = refl
in_front id at (suc count) i (x ∷ xs) h =
    let here : i + 0 ≡ i = omega arith in
    found_at (declares id (item_of x)) at i (item_of x) (position_from (declares id) (i + 1) (map item_of xs)) (first_declaration (map item_of (take count xs)) id)
    (ap at (sym here) ∙ h 0)
    (in_front id at count (i + 1) xs (λ k. let on : i + 1 + k ≡ i + suc k = omega arith in ap at on ∙ h (suc k)))

front_declared : (items : List Item) (first : List (Option ℕ)) (count : ℕ) → AreFirst items first (length items) → (id : NameId) →
    item_at (take count items) first id ≡ first_declaration (map item_of (take count items)) id
front_declared items first count are id =
    let at = λ (n : ℕ). option_map item_of (slice_get (take count items) n) in
    ap (option_and_then at) (are id ∙ ap (λ xs. position_from (declares id) 0 (map item_of xs)) (take_all (length items) items (omega arith)))
    ∙ in_front id at count 0 items (λ k. let on : 0 + k ≡ k = omega arith in ap at on)

front_seen : (count : ℕ) (items : List Item) → map item_of (take count items) ≡ take count (map item_of items)
front_seen zero items = refl
front_seen (suc count) [] = refl
front_seen (suc count) (x ∷ items) = ap (λ xs. item_of x ∷ xs) (front_seen count items)

file_is : (texts : List (List ℕ)) (items : List Item) (first : List (Option ℕ)) (count : ℕ) → AreFirst items first (length items) →
    file_seen texts (take count items) first ≡ file_meaning texts (take count (map item_of items))
file_is texts items first count are =
    let meant : file_seen texts (take count items) first ≡ file_meaning texts (map item_of (take count items)) =
    λ i id. cond (is_print texts id) (Some printer) (declared_meaning (front_declared items first count are id i)) in
    meant ∙ ap (file_meaning texts) (front_seen count items)

-- the point at which the body of a function begins that stands behind so many items
pub first_scope : (texts : List (List ℕ)) (items : List Item) (first : List (Option ℕ)) (count : ℕ) (file : Place) (bindings : List Binding) (decls params : List ParamDecl) →
    AreFirst items first (length items) → file.names.now ≡ texts → file.items.now ≡ take count items → file.first.now ≡ first → decls ≡ params →
    scope_at file bindings 0 ≡ with_params (scope_at file [] 0) decls → scope_at file bindings 0 ≡ with_params (file_scope texts (take count (map item_of items))) params
first_scope texts items first count file bindings decls params are names front same declared e =
    let seen : file_seen file.names.now file.items.now file.first.now ≡ file_seen texts (take count items) first = λ i. file_seen (names i) (front i) (same i) in
    let meant = seen ∙ file_is texts items first count are in
    e ∙ ap (with_params (scope_at file [] 0)) declared ∙ ap (λ (f : NameId → Option Meaning). with_params (record { file = f; inner = []; outer = 0 }) params) meant
