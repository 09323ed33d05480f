-- The shape of one argument.
use Rattle.vk_kinds.specs.declared.heads.CType.{CType}
use Rattle.vk_ast.specs.Tree.{Tree}
use Rattle.vk_rules_book.specs.Scopes.{Scope}
use Rattle.vk_rules_book.specs.Typings.{number_type, typing_of}
use Rattle.vk_code.specs.declared.code.Shape.{Shape}
use Rattle.vk_sites.specs.Shapes.{View, as_parameter, is_loop_variable, shape_of}

-- of an argument for a parameter of this type
abbrev pub argument_shape : View → Scope → CType → Tree → Shape
argument_shape v scope to e = as_parameter (number_type (typing_of scope e)) to (is_loop_variable v scope e) (shape_of v scope e)
