-- What the tables say between functions.
use Rattle.std.specs.Prelude.{◌≡◌, None}
use Rattle.vk_ast.specs.declared.names.NameId.{NameId}
use Rattle.vk_rules_directives.specs.declared.items.Tables.{Tables}
use Rattle.vk_rules_directives.specs.Inner.Marks.{AreEmpty}
use Rattle.vk_rules_directives.specs.Inner.Tables.{type_at}

pub record IsReady (tables : Tables) : Type 0 where
  pub types : (id : NameId) → type_at tables.types.items id ≡ None
  pub marks : AreEmpty tables.marks
