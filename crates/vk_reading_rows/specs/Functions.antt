-- Where the functions of a program are defined.
use Rattle.std.specs.Prelude.{◌≡◌, ℕ, suc, ◌+◌, Bool, false, cond, List, [], ◌∷◌, take, Option, Some, None, is_some, position, slice_get, unwrap_or, bytes_eq}
use Rattle.std.specs.Option.{option_or, option_map}
use Rattle.vk_ast.specs.Units.{ItemTree, function, object, lost_line}
use Rattle.vk_rules_book.specs.Scopes.{text_of}
use Rattle.vk_rules_book.specs.Rules.{Subject}
use Rattle.vk_meaning.specs.Programs.{Definition, with_body}
use Rattle.vk_reading_rows.specs.declared.functions.FunctionPlace.{FunctionPlace}
use Rattle.vk_reading_rows.specs.declared.functions.FunctionPlaces.{FunctionPlaces}
use Rattle.vk_reading_rows.specs.Inner.Noted.{noted}

-- the name of the function that an item defines (C17 6.9.1)
abbrev pub name_defined : List (List ℕ) → ItemTree → Option (List ℕ)
name_defined texts (function f) = cond (is_some f.body) (Some (text_of texts f.name)) None
name_defined texts (object o) = None
name_defined texts (lost_line d) = None

abbrev pub is_text : Option (List ℕ) → (text : List ℕ) → Bool
is_text None text = false
is_text (Some name) text = bytes_eq name text

-- the item defines the function with this name
abbrev pub defines : List (List ℕ) → (text : List ℕ) → ItemTree → Bool
defines texts text i = is_text (name_defined texts i) text

-- the first place among some items of the unit with this number
abbrev pub place_among : (unit : ℕ) → List (List ℕ) → List ItemTree → (text : List ℕ) → Option FunctionPlace
place_among unit texts items text = option_map (λ j. record { unit = unit; item = j }) (position (defines texts text) items)

-- the first place in units that are numbered from one on
abbrev pub first_place : (unit : ℕ) → List Subject → (text : List ℕ) → Option FunctionPlace
first_place unit [] text = None
first_place unit (u ∷ us) text = option_or (place_among unit u.texts u.items text) (first_place (suc unit) us text)

-- where a program defines the function with this name
abbrev pub place_of : List Subject → (text : List ℕ) → Option FunctionPlace
place_of units text = first_place 0 units text

-- under each name the place is noted where the program defines the function
abbrev pub ArePlaces : List Subject → FunctionPlaces → Type 0
ArePlaces units places = (text : List ℕ) → unwrap_or (noted places.by_text text) None ≡ place_of units text

-- ---- what is defined at a place

-- what an item of a unit defines, which is the last of these
abbrev pub defined_as : Subject → (items : List ItemTree) → Option ItemTree → Option Definition
defined_as u items (Some (function f)) = with_body u items f f.body
defined_as u items _ = None

-- what is defined in a unit by the item with this number
abbrev pub defined_in : Option Subject → (item : ℕ) → Option Definition
defined_in None item = None
defined_in (Some u) item = defined_as u (take (item + 1) u.items) (slice_get u.items item)

-- what is defined at a place
abbrev pub defined_at : List Subject → Option FunctionPlace → Option Definition
defined_at units None = None
defined_at units (Some place) = defined_in (slice_get units place.unit) place.item
