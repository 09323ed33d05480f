-- The parameters that have names.
use Rattle.std.specs.Prelude.{List, [], ◌∷◌, Option, Some, None}
use Rattle.vk_ast.specs.declared.names.NameId.{NameId}
use Rattle.vk_ast.specs.declared.items.ParamDecl.{ParamDecl}
use Rattle.vk_rules_book.specs.declared.contexts.Binding.{Binding}

abbrev pub named : Option NameId → ParamDecl → List Binding
named None p = []
named (Some id) p = record { name = id; ctype = p.ctype; fixed = p.fixed } ∷ []

-- what a parameter makes visible
abbrev pub bindings_of : ParamDecl → List Binding
bindings_of p = named p.name p
