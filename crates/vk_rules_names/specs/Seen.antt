-- Scopes and meanings of the code as those of the rules.
use Rattle.std.specs.Prelude.{◌≡◌, ℕ, cond, List, map, take, slice_get, Option, Some, None}
use Rattle.std.specs.List.{position_from}
use Rattle.std.specs.Option.{option_map, option_and_then}
use Rattle.vk_ast.specs.declared.names.NameId.{NameId}
use Rattle.vk_ast.specs.declared.items.Item.{Item}
use Rattle.vk_ast.specs.Units.{item_of, ItemTree}
use Rattle.vk_rules_book.specs.declared.contexts.Binding.{Binding}
use Rattle.vk_rules_book.specs.Rules.{Subject}
use Rattle.vk_rules_book.specs.Scopes.{Scope, Meaning, a_variable, an_object, a_function, printer, types_of, declared_meaning, declares, first_declaration, is_print}
use Rattle.vk_rules_names.specs.declared.known.Known.{Known}
use Rattle.vk_rules_names.specs.declared.known.Known.TheVariants.{Unknown, Variable, Object, Function, Print}
use Rattle.vk_rules_names.specs.declared.known.Place.{Place}
use Rattle.vk_rules_names.specs.declared.known.Scopes.{Scopes}

abbrev pub meaning_seen : Known → Option Meaning
meaning_seen Unknown = None
meaning_seen (Variable ctype fixed) = Some (a_variable ctype fixed)
meaning_seen (Object ty is_array fixed) = Some (an_object ty is_array fixed)
meaning_seen (Function result params is_simd) = Some (a_function result (types_of params.now) is_simd)
meaning_seen Print = Some printer

-- the number that the table has for a name
abbrev pub number_at : List (Option ℕ) → NameId → Option ℕ
number_at first id = option_and_then (λ n. n) (slice_get first id.0)

-- the item with the number that the table has for a name
abbrev pub item_at : List Item → List (Option ℕ) → NameId → Option ItemTree
item_at items first id = option_and_then (λ n. option_map item_of (slice_get items n)) (number_at first id)

-- the table has the first declaration of each name among so many of these items
abbrev pub HasFirst : List Item → List (Option ℕ) → ℕ → Type 0
HasFirst items first count = (id : NameId) → item_at items first id ≡ first_declaration (map item_of (take count items)) id

-- the number of the first of these items that declares the name
abbrev pub first_item : List ItemTree → NameId → Option ℕ
first_item items id = position_from (declares id) 0 items

-- the table has the number of the first declaration of each name among so many of these items
abbrev pub AreFirst : List Item → List (Option ℕ) → ℕ → Type 0
AreFirst items first count = (id : NameId) → number_at first id ≡ first_item (map item_of (take count items)) id

-- what names mean at file scope, by such a table
abbrev pub file_seen : List (List ℕ) → List Item → List (Option ℕ) → NameId → Option Meaning
file_seen texts items first id = cond (is_print texts id) (Some printer) (declared_meaning (item_at items first id))

-- the unit that is judged
abbrev pub unit_of : Place → Subject
unit_of p = record { items = map item_of p.items.now; texts = p.names.now; target = p.target }

-- the scope of a place, with these parameters and variables visible
abbrev pub scope_at : Place → List Binding → ℕ → Scope
scope_at p inner outer = record { file = file_seen p.names.now p.items.now p.first.now; inner = inner; outer = outer }

abbrev pub unit_in : Scopes → Subject
unit_in s = record { items = map item_of s.items.now; texts = s.names.now; target = s.target }

abbrev pub scope_of : Scopes → Scope
scope_of s = record { file = file_seen s.names.now s.items.now s.first.now; inner = s.inner.now; outer = s.outer }
