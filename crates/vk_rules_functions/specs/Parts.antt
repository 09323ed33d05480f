-- What is declared at a place in a unit.
use Rattle.std.specs.Prelude.{◌≡◌, List}
use Rattle.vk_ast.specs.declared.names.NameId.{NameId}
use Rattle.vk_ast.specs.Units.{ItemTree}
use Rattle.vk_rules_book.specs.Scopes.{first_declaration}
use Rattle.vk_rules_names.specs.declared.known.Place.{Place}
use Rattle.vk_rules_names.specs.Seen.{item_at}

-- what is declared at the place is what these items declare
abbrev pub Declares : Place → List ItemTree → Type 0
Declares place items = (id : NameId) → item_at place.items.now place.first.now id ≡ first_declaration items id
