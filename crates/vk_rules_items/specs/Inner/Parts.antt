-- The visits of an item in two parts: what is judged before it is declared, and behind its declaration.
use Rattle.std.specs.Prelude.{ℕ, List, [], ◌∷◌}
use Rattle.vk_ast.specs.Units.{ItemTree, function, object, lost_line}
use Rattle.vk_rules_book.specs.Scopes.{file_scope}
use Rattle.vk_rules_book.specs.Visits.{Visit, item, length_visits, initialiser_visits}

-- an item, and the length of an array, behind these items
abbrev pub front_part : List (List ℕ) → (before : List ItemTree) → ItemTree → List Visit
front_part texts before (function f) = item before (function f) ∷ []
front_part texts before (object o) = item before (object o) ∷ length_visits (file_scope texts before) o.array
front_part texts before (lost_line d) = item before (lost_line d) ∷ []

-- the initialiser of an object that is the last of these items
abbrev pub back_part : List (List ℕ) → (items : List ItemTree) → ItemTree → List Visit
back_part texts items (function f) = []
back_part texts items (object o) = initialiser_visits (file_scope texts items) o o.init
back_part texts items (lost_line d) = []
