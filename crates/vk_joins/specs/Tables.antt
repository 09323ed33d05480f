-- What a unit and an object tell of the names of file scope, and when they tell the same.
use Rattle.std.specs.Prelude.{◌≡◌, ℕ, ◌==◌, Bool, true, false, cond, ◌&&◌, List, [], ◌∷◌, map, is_some, slice_get, unwrap_or, Option, Some, None, bytes_eq, codes}
use Rattle.std.specs.Option.{option_map, option_and_then}
use Rattle.vk_types.specs.declared.types.Word.{Word}
use Rattle.vk_kinds.specs.declared.heads.CType.{CType}
use Rattle.vk_kinds.specs.Sizes.{SignatureTree}
use Rattle.vk_ast.specs.Units.{FunctionTree, ObjectTree, ItemTree, function, object, lost_line}
use Rattle.vk_rules_book.specs.Rules.{Subject}
use Rattle.vk_rules_book.specs.Scopes.{text_of, types_of}
use Rattle.vk_meaning.specs.World.{Array}
use Rattle.vk_meaning.specs.Programs.{array_of_object, array_defined}
use Rattle.vk_object.specs.Objects.{DataLists, FunctionLists, ObjectLists}
use Rattle.vk_agree.specs.Units.{first_of, definition_in, function_in, signatures_in}

-- an object of file scope (C17 6.9.2): an array, a scalar being one of length 1, and whether it is defined here
pub record Data : Type 0 where
  pub array : Array
  pub defined : Bool

-- a function: its types, its directives, and whether it is defined here
pub record Declared : Type 0 where
  pub result : CType
  pub params : List CType
  pub signatures : List SignatureTree
  pub defined : Bool

-- ---- given elements

abbrev pub is_empty : List ℕ → Bool
is_empty [] = true
is_empty (w ∷ ws) = false

abbrev pub with_first : ℕ → List ℕ → List ℕ
with_first w ws = cond ((w == 0) && is_empty ws) [] (w ∷ ws)

-- without the zeros behind the last element that is not 0: other elements begin as 0 (C17 6.7.9)
abbrev pub trimmed : List ℕ → List ℕ
trimmed [] = []
trimmed (w ∷ ws) = with_first w (trimmed ws)

abbrev pub trimmed_array : Array → Array
trimmed_array a = record { text = a.text; ty = a.ty; fixed = a.fixed; length = a.length; given = trimmed a.given }

-- ---- a unit

abbrev pub array_if_named : (text : List ℕ) → Array → Option Array
array_if_named text a = cond (bytes_eq a.text text) (Some a) None

-- the item defines an array under this name
abbrev pub array_named : (text : List ℕ) → Subject → ItemTree → Option Array
array_named text u item = option_and_then (array_if_named text) (array_defined u item)

-- the array that a unit defines under this name
abbrev pub array_in : (text : List ℕ) → Subject → Option Array
array_in text u = first_of (array_named text u) u.items

-- the item declares an object under this name
abbrev pub object_named : (text : List ℕ) → Subject → ItemTree → Option ObjectTree
object_named text u (object o) = cond (bytes_eq (text_of u.texts o.name) text) (Some o) None
object_named text u (function f) = None
object_named text u (lost_line d) = None

-- a declaration tells no elements
abbrev pub declared_array : Subject → ObjectTree → Array
declared_array u o = record { text = text_of u.texts o.name; ty = o.ty; fixed = o.fixed; length = (array_of_object u o).length; given = [] }

abbrev pub data_by : (definition declaration : Option Array) → Option Data
data_by (Some a) declaration = Some (record { array = trimmed_array a; defined = true })
data_by None (Some a) = Some (record { array = a; defined = false })
data_by None None = None

-- what a unit tells of an object: its definition, else its first declaration
abbrev pub data_in_unit : Subject → (text : List ℕ) → Option Data
data_in_unit u text = data_by (array_in text u) (option_map (declared_array u) (first_of (object_named text u) u.items))

abbrev pub declared_as : Subject → (text : List ℕ) → FunctionTree → Declared
declared_as u text f = record {
  result = f.result;
  params = types_of f.params;
  signatures = signatures_in text u;
  defined = is_some (definition_in text u);
}

-- what a unit tells of a function; the built-in `print` is none of its
abbrev pub declared_in_unit : Subject → (text : List ℕ) → Option Declared
declared_in_unit u text = cond (bytes_eq text (codes "print")) None (option_map (declared_as u text) (function_in text u))

-- ---- an object

abbrev pub symbol_of : ObjectLists → (number : ℕ) → List ℕ
symbol_of o n = unwrap_or (slice_get o.symbols n) []

abbrev pub words_of : List Word → List ℕ
words_of ws = map (λ (w : Word). w.0) ws

abbrev pub data_of_row : ObjectLists → DataLists → Data
data_of_row o r = record {
  array = record { text = symbol_of o r.symbol; ty = r.ty; fixed = r.fixed; length = r.length; given = words_of r.elements };
  defined = r.defined;
}

abbrev pub data_if_named : (text : List ℕ) → ObjectLists → DataLists → Option Data
data_if_named text o r = cond (bytes_eq (symbol_of o r.symbol) text) (Some (data_of_row o r)) None

abbrev pub data_in_object : ObjectLists → (text : List ℕ) → Option Data
data_in_object o text = first_of (data_if_named text o) o.objects

abbrev pub declared_of_row : FunctionLists → Declared
declared_of_row r = record { result = r.head.result; params = r.head.params; signatures = r.directives; defined = is_some r.codes }

abbrev pub row_if_named : (text : List ℕ) → ObjectLists → FunctionLists → Option FunctionLists
row_if_named text o r = cond (bytes_eq (symbol_of o r.symbol) text) (Some r) None

-- the function with this name
abbrev pub row_in : ObjectLists → (text : List ℕ) → Option FunctionLists
row_in o text = first_of (row_if_named text o) o.functions

abbrev pub declared_in_object : ObjectLists → (text : List ℕ) → Option Declared
declared_in_object o text = option_map declared_of_row (row_in o text)

-- ---- both

-- a name has one row
abbrev pub HasOneRow : ObjectLists → Type 0
HasOneRow o = (i j : ℕ) (r s : FunctionLists) → slice_get o.functions i ≡ Some r → slice_get o.functions j ≡ Some s →
    symbol_of o r.symbol ≡ symbol_of o s.symbol → i ≡ j

-- The object tells of each name what the unit tells of it. In an object each symbol is used by exactly one row, so its symbols are
-- the names that are declared.
pub record HasTables (o : ObjectLists) (u : Subject) : Type 0 where
  pub target : o.target ≡ u.target
  pub objects : (text : List ℕ) → data_in_object o text ≡ data_in_unit u text
  pub functions : (text : List ℕ) → declared_in_object o text ≡ declared_in_unit u text
  pub one_row : HasOneRow o
