-- Programs: units that are joined by the names of their objects and functions (C17 5.1.1.1, 6.2.2).
use Rattle.std.specs.Prelude.{ℕ, cond, List, [], ◌∷◌, ◌++◌, map, flat_map, filter_map, length, position, Option, Some, None, ℤ, pos, unwrap_or, bytes_eq, true}
use Rattle.std.specs.Option.{option_or}
use Rattle.std.specs.Ordering.{is_le, nat_cmp}
use Rattle.std.specs.Cmp.Lexicographic.{slice_cmp}
use Rattle.vk_types.specs.Numbers.{wrap_number, word_of}
use Rattle.vk_ast.specs.Tree.{Tree}
use Rattle.vk_ast.specs.Statements.{StmtTree}
use Rattle.vk_ast.specs.Units.{FunctionTree, ObjectTree, ItemTree, function, object, lost_line}
use Rattle.vk_numbers.specs.Constants.{constant_of}
use Rattle.vk_rules_book.specs.Scopes.{text_of, with_params, file_scope}
use Rattle.vk_rules_book.specs.Items.{length_of}
use Rattle.vk_rules_book.specs.Rules.{Subject}
use Rattle.vk_meaning.specs.World.{Array}
use Rattle.vk_meaning.specs.Points.{Point}

-- ---- arrays

-- the number of an initialiser, which is a constant (C17 6.6)
abbrev pub initial_number : Tree → ℤ
initial_number e = unwrap_or (constant_of e) (pos 0)

-- the array that an object is (C17 6.7.6.2, 6.7.9); a scalar has one element
abbrev pub array_of_object : Subject → ObjectTree → Array
array_of_object u o = record {
  text = text_of u.texts o.name;
  ty = o.ty;
  fixed = o.fixed;
  length = unwrap_or (length_of o) 1;
  given = map (λ e. word_of (wrap_number o.ty (initial_number e))) (unwrap_or o.init []);
}

-- an object is defined where it is not `extern` (C17 6.9.2)
abbrev pub array_defined : Subject → ItemTree → Option Array
array_defined u (object o) = cond o.outside None (Some (array_of_object u o))
array_defined u (function f) = None
array_defined u (lost_line d) = None

-- an array among others in ascending order of names, byte by byte
abbrev pub put_in : Array → List Array → List Array
put_in a [] = a ∷ []
put_in a (b ∷ bs) = cond (is_le (slice_cmp nat_cmp a.text b.text)) (a ∷ b ∷ bs) (b ∷ put_in a bs)

abbrev pub in_order : List Array → List Array
in_order [] = []
in_order (a ∷ rest) = put_in a (in_order rest)

-- the arrays of the program, in ascending order of names
abbrev pub arrays_of : List Subject → List Array
arrays_of units = in_order (flat_map (λ u. filter_map (array_defined u) u.items) units)

-- the number of the array with this name
abbrev pub array_number : List Array → List ℕ → ℕ
array_number arrays text = unwrap_or (position (λ a. bytes_eq a.text text) arrays) (length arrays)

-- ---- functions

-- a function definition (C17 6.9.1): its unit, the items of the unit up to it, and its body
pub record Definition : Type 0 where
  pub unit : Subject
  pub items : List ItemTree
  pub function : FunctionTree
  pub body : StmtTree

abbrev pub with_body : Subject → (items : List ItemTree) → FunctionTree → Option StmtTree → Option Definition
with_body u items f None = None
with_body u items f (Some body) = Some (record { unit = u; items = items; function = f; body = body })

-- the item, which is the last of these, defines the function with this name
abbrev pub defined_by : (text : List ℕ) → Subject → (items : List ItemTree) → ItemTree → Option Definition
defined_by text u items (function f) = cond (bytes_eq (text_of u.texts f.name) text) (with_body u items f f.body) None
defined_by text u items (object o) = None
defined_by text u items (lost_line d) = None

-- the first definition of the function among some items, which stand behind others
abbrev pub defined_behind : (text : List ℕ) → Subject → (before rest : List ItemTree) → Option Definition
defined_behind text u before [] = None
defined_behind text u before (i ∷ is) = option_or (defined_by text u (before ++ i ∷ []) i) (defined_behind text u (before ++ i ∷ []) is)

-- the definition of the function with this name in a program
abbrev pub definition_of : List Subject → (text : List ℕ) → Option Definition
definition_of [] text = None
definition_of (u ∷ us) text = option_or (defined_behind text u [] u.items) (definition_of us text)

-- the point of a definition's body: the items up to it and its parameters are visible, and its block shares their scope (C17 6.2.1)
abbrev pub first_point : Definition → Point
first_point d = record { scope = with_params (file_scope d.unit.texts d.items) d.function.params; shares = true; loops = 0 }
