-- The functions of a unit, each by its first declaration, in the order of these.
use Rattle.std.specs.Prelude.{ℕ, ◌||◌, cond, length, List, [], ◌∷◌, ◌++◌, is_some, slice_get}
use Rattle.std.specs.Option.{option_map_or}
use Rattle.vk_ast.specs.Units.{FunctionTree, ItemTree, function, object, lost_line}
use Rattle.vk_rules_book.specs.Scopes.{first_declaration, is_print}
use Rattle.vk_rules_book.specs.Rules.{Subject}

-- the function that is declared first by an item behind others; `print` is none
abbrev pub function_at : List (List ℕ) → (before : List ItemTree) → ItemTree → List FunctionTree
function_at texts before (function f) = cond (is_some (first_declaration before f.name) || is_print texts f.name) [] (f ∷ [])
function_at texts before (object o) = []
function_at texts before (lost_line d) = []

unfoldable pub functions_from : List (List ℕ) → (before rest : List ItemTree) → List FunctionTree
functions_from texts before [] = []
functions_from texts before (i ∷ is) = function_at texts before i ++ functions_from texts (before ++ i ∷ []) is

abbrev pub functions_of : Subject → List FunctionTree
functions_of unit = functions_from unit.texts [] unit.items

-- the number of directives of the function with this number
abbrev pub directives_at : Subject → ℕ → ℕ
directives_at unit f = option_map_or (λ (g : FunctionTree). length g.directives) (slice_get (functions_of unit) f) 0
