-- The tables of a unit: lengths of items, and nodes of definitions.
use Rattle.std.proofs.Common.{◌≡◌, ℕ, zero, suc, ◌+◌, ◌<◌, ◌≤◌, Bool, true, false, cond, ◌&&◌, List, [], ◌∷◌, ◌++◌, map, length, take, get_or, Option, Some, None, is_some, refl, sym, ap, ap₂, ◌∙◌, arith}
use Rattle.std.proofs.lemmas.List.{map-append, take_all}
use Rattle.std.specs.Option.{option_or, option_map}
use Rattle.vk_ast.specs.declared.names.NameId.{NameId}
use Rattle.vk_ast.specs.declared.items.Item.{Item}
use Rattle.vk_ast.specs.Directives.{DirectiveTree}
use Rattle.vk_ast.specs.Units.{FunctionTree, ObjectTree, ItemTree, function, object, lost_line, item_of}
use Rattle.vk_rules_book.specs.Items.{definition_in}
use Rattle.vk_rules_book.specs.Scopes.{same_name}
use Rattle.vk_rules_names.proofs.Tables.{grown}
use Rattle.vk_rules_items.specs.Inner.Counts.{length_of_item, nodes_told}

pub some_map : {S T : Type 0} (f : S → T) (p : Option S) → is_some (option_map f p) ≡ is_some p
some_map f None = refl
some_map f (Some x) = refl

-- ---- lengths

-- the lengths of one item more
pub next_lengths : (items : List Item) (k : ℕ) (x : Item) (old new : List (Option ℕ)) (n : Option ℕ) → k < length items → x ≡ get_or items k x
    → old ≡ map length_of_item (map item_of (take k items)) → n ≡ length_of_item (item_of x) → new ≡ old ++ n ∷ []
    → new ≡ map length_of_item (map item_of (take (k + 1) items))
next_lengths items k x old new n lt is before told more =
    more ∙ ap₂ (λ (ns : List (Option ℕ)) (m : Option ℕ). ns ++ m ∷ []) before told
    ∙ sym (ap (map length_of_item) (grown items k x lt is) ∙ map-append length_of_item (map item_of (take k items)) (item_of x ∷ []))

pub all_lengths : (items : List Item) (k : ℕ) (ns : List (Option ℕ)) → length items ≤ k → ns ≡ map length_of_item (map item_of (take k items)) → ns ≡ map length_of_item (map item_of items)
all_lengths items k ns past told = told ∙ ap (λ xs. map length_of_item (map item_of xs)) (take_all k items past)

-- what the table has for an item
pub length_at : (items : List Item) (k : ℕ) (x : Item) (n : Option ℕ) (ns : List (Option ℕ)) → k < length items → x ≡ get_or items k x → ns ≡ map length_of_item (map item_of items)
    → n ≡ get_or ns k n → n ≡ length_of_item (item_of x)
length_at items k x n ns lt is told read = read ∙ ap (λ (ms : List (Option ℕ)). get_or ms k n) told ∙ at items k x n lt is
  where
    at : (xs : List Item) (i : ℕ) (y : Item) (d : Option ℕ) → i < length xs → y ≡ get_or xs i y → get_or (map length_of_item (map item_of xs)) i d ≡ length_of_item (item_of y)
    at [] i y d below here = absurd (omega (arith, below))
    at (z ∷ xs) zero y d below here = ap (λ w. length_of_item (item_of w)) (sym here)
    at (z ∷ xs) (suc i) y d below here = at xs i y d (omega (arith, below)) here

-- ---- nodes of definitions

or_none : {T : Type 0} → (p : Option T) → p ≡ option_or p None
or_none None = refl
or_none (Some n) = refl

map_or : (p q : Option FunctionTree) → option_map nodes_told (option_or p q) ≡ option_or (option_map nodes_told p) (option_map nodes_told q)
map_or None q = refl
map_or (Some f) q = refl

or_in : (b : Bool) (f : FunctionTree) (p q : Option FunctionTree) → cond b (Some f) (option_or p q) ≡ option_or (cond b (Some f) p) q
or_in true f p q = refl
or_in false f p q = refl

definition_push : (xs ys : List ItemTree) (id : NameId) → definition_in (xs ++ ys) id ≡ option_or (definition_in xs id) (definition_in ys id)
unfolding definition_in
definition_push [] ys id = refl
definition_push (function f ∷ xs) ys id = ap (cond (same_name f.name id && is_some f.body) (Some f)) (definition_push xs ys id) ∙ or_in (same_name f.name id && is_some f.body) f _ _
definition_push (object o ∷ xs) ys id = definition_push xs ys id
definition_push (lost_line d ∷ xs) ys id = definition_push xs ys id

definition_one : (f : FunctionTree) (id : NameId) → definition_in (function f ∷ []) id ≡ cond (same_name f.name id && is_some f.body) (Some f) None
unfolding definition_in
definition_one f id = refl

pub no_definition : (id : NameId) → definition_in [] id ≡ None
unfolding definition_in
no_definition id = refl

of_object : (o : ObjectTree) (id : NameId) → definition_in (object o ∷ []) id ≡ None
unfolding definition_in
of_object o id = refl

of_line : (d : DirectiveTree) (id : NameId) → definition_in (lost_line d ∷ []) id ≡ None
unfolding definition_in
of_line d id = refl

kept : (s b : Bool) (f : FunctionTree) (n : ℕ) → b ≡ true → n ≡ nodes_told f → cond s (Some n) None ≡ option_map nodes_told (cond (s && b) (Some f) None)
kept true b f n yes_body told = ap Some told ∙ ap (λ c. option_map nodes_told (cond c (Some f) None)) (sym yes_body)
kept false b f n yes_body told = refl

unkept : (s b : Bool) (f : FunctionTree) → b ≡ false → None ≡ option_map nodes_told (cond (s && b) (Some f) None)
unkept true b f no_body = ap (λ c. option_map nodes_told (cond c (Some f) None)) (sym no_body)
unkept false b f no_body = refl

-- a function that is defined adds its nodes
pub adds_nodes : (f : FunctionTree) (id : NameId) (n : ℕ) (old new : Option ℕ) → is_some f.body ≡ true → n ≡ nodes_told f
    → new ≡ option_or old (cond (same_name f.name id) (Some n) None) → new ≡ option_or old (option_map nodes_told (definition_in (function f ∷ []) id))
adds_nodes f id n old new body told is =
    is ∙ ap (option_or old) (kept (same_name f.name id) (is_some f.body) f n body told ∙ sym (ap (option_map nodes_told) (definition_one f id)))

-- another declaration adds none
pub adds_none : (f : FunctionTree) (id : NameId) (old : Option ℕ) → is_some f.body ≡ false → old ≡ option_or old (option_map nodes_told (definition_in (function f ∷ []) id))
adds_none f id old body =
    or_none old ∙ ap (option_or old) (unkept (same_name f.name id) (is_some f.body) f body ∙ sym (ap (option_map nodes_told) (definition_one f id)))

pub object_adds_none : (o : ObjectTree) (i : ItemTree) (id : NameId) (old : Option ℕ) → i ≡ object o → old ≡ option_or old (option_map nodes_told (definition_in (i ∷ []) id))
object_adds_none o i id old is = or_none old ∙ ap (option_or old) (sym (ap (λ x. option_map nodes_told (definition_in (x ∷ []) id)) is ∙ ap (option_map nodes_told) (of_object o id)))

pub line_adds_none : (d : DirectiveTree) (i : ItemTree) (id : NameId) (old : Option ℕ) → i ≡ lost_line d → old ≡ option_or old (option_map nodes_told (definition_in (i ∷ []) id))
line_adds_none d i id old is = or_none old ∙ ap (option_or old) (sym (ap (λ x. option_map nodes_told (definition_in (x ∷ []) id)) is ∙ ap (option_map nodes_told) (of_line d id)))

-- the nodes with one item more
pub next_nodes : (items : List Item) (k : ℕ) (x : Item) (id : NameId) (old new : Option ℕ) → k < length items → x ≡ get_or items k x
    → old ≡ option_map nodes_told (definition_in (map item_of (take k items)) id) → new ≡ option_or old (option_map nodes_told (definition_in (item_of x ∷ []) id))
    → new ≡ option_map nodes_told (definition_in (map item_of (take (k + 1) items)) id)
next_nodes items k x id old new lt is before more =
    more ∙ ap (λ o. option_or o (option_map nodes_told (definition_in (item_of x ∷ []) id))) before
    ∙ sym (ap (λ xs. option_map nodes_told (definition_in xs id)) (grown items k x lt is)
    ∙ ap (option_map nodes_told) (definition_push (map item_of (take k items)) (item_of x ∷ []) id)
    ∙ map_or (definition_in (map item_of (take k items)) id) (definition_in (item_of x ∷ []) id))

pub all_nodes : (items : List Item) (k : ℕ) (id : NameId) (n : Option ℕ) → length items ≤ k → n ≡ option_map nodes_told (definition_in (map item_of (take k items)) id)
    → n ≡ option_map nodes_told (definition_in (map item_of items) id)
all_nodes items k id n past told = told ∙ ap (λ xs. option_map nodes_told (definition_in (map item_of xs) id)) (take_all k items past)
