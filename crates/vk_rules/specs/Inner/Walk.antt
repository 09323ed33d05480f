-- The functions of a unit, one item after another.
use Rattle.std.specs.Prelude.{◌≡◌, ⊤, ◌≤◌, length, true, List, Option, ℕ, is_some}
use Rattle.vk_ast.specs.declared.names.NameId.{NameId}
use Rattle.vk_ast.specs.Units.{ItemTree, function, object, lost_line}
use Rattle.vk_rules_book.specs.Directives.{have_signatures}
use Rattle.vk_rules_book.specs.Scopes.{first_declaration}
use Rattle.vk_rules_names.specs.Seen.{number_at}

-- the directives of a function break no rule, and it has no parameter too many
abbrev pub IsSound : ItemTree → Type 0
IsSound (function f) = (have_signatures f ≡ true) × (length f.params ≤ 64)
IsSound (object o) = ⊤
IsSound (lost_line d) = ⊤

-- the table has a number for the names that these items declare
abbrev pub Knows : List (Option ℕ) → List ItemTree → Type 0
Knows first before = (id : NameId) → is_some (number_at first id) ≡ is_some (first_declaration before id)
