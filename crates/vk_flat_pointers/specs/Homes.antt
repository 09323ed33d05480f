-- Where variables are.
use Rattle.std.specs.Prelude.{cond, List, [], ◌∷◌, Option, Some, None}
use Rattle.std.specs.Option.{option_or}
use Rattle.vk_ast.specs.declared.names.NameId.{NameId}
use Rattle.vk_rules_book.specs.Scopes.{same_name}
use Rattle.vk_flat_pointers.specs.declared.homes.Home.{Home}
use Rattle.vk_flat_pointers.specs.declared.homes.Named.{Named}

-- the home of the last one with this name
abbrev pub home_named : List Named → NameId → Option Home
home_named [] id = None
home_named (x ∷ xs) id = option_or (home_named xs id) (cond (same_name x.name id) (Some x.home) None)
