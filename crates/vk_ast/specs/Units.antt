-- Units as trees without pointers.
use Rattle.std.specs.Prelude.{ℕ, ◌+◌, Bool, List, map, length, Option, Some, None}
use Rattle.std.specs.Option.{option_map}
use Rattle.vk_types.specs.declared.types.Ty.{Ty}
use Rattle.vk_kinds.specs.declared.heads.CType.{CType}
use Rattle.vk_ast.specs.declared.names.NameId.{NameId}
use Rattle.vk_ast.specs.declared.items.Function.{Function}
use Rattle.vk_ast.specs.declared.items.ParamDecl.{ParamDecl}
use Rattle.vk_ast.specs.declared.items.Object.{Object}
use Rattle.vk_ast.specs.declared.items.Unit.{Unit as UnitOfNames}
use Rattle.vk_ast.specs.declared.items.Item.{Item}
use Rattle.vk_ast.specs.declared.items.Item.TheVariants.{Function as AFunction, Object as AnObject, Lost}
use Rattle.vk_ast.specs.Tree.{Tree, expr_of}
use Rattle.vk_ast.specs.Statements.{StmtTree, stmt_of, stmt_nodes}
use Rattle.vk_ast.specs.Directives.{DirectiveTree, directive_of}

pub record FunctionTree : Type 0 where
  pub line : ℕ
  pub token : ℕ
  pub name : NameId
  pub directives : List DirectiveTree
  pub result : CType
  pub params : List ParamDecl
  pub body : Option StmtTree

pub record ObjectTree : Type 0 where
  pub line : ℕ
  pub token : ℕ
  pub name : NameId
  pub ty : Ty
  pub fixed : Bool
  pub outside : Bool
  -- for an array, its length where one is given
  pub array : Option (Option Tree)
  pub init : Option (List Tree)
  pub braced : Bool
  pub init_line : ℕ
  pub init_token : ℕ

pub data ItemTree : Type 0 where
  function : FunctionTree → ItemTree
  object : ObjectTree → ItemTree
  lost_line : DirectiveTree → ItemTree

abbrev pub function_of : Function → FunctionTree
function_of f = record {
  line = f.line;
  token = f.token;
  name = f.name;
  directives = map directive_of f.directives.items;
  result = f.result;
  params = f.params.items;
  body = option_map stmt_of f.body;
}

abbrev pub object_of : Object → ObjectTree
object_of o = record {
  line = o.line;
  token = o.token;
  name = o.name;
  ty = o.ty;
  fixed = o.fixed;
  outside = o.outside;
  array = option_map (option_map expr_of) o.array;
  init = option_map (λ es. map expr_of es.items) o.init;
  braced = o.braced;
  init_line = o.init_line;
  init_token = o.init_token;
}

abbrev pub item_of : Item → ItemTree
item_of (AFunction f) = function (function_of f)
item_of (AnObject o) = object (object_of o)
item_of (Lost d) = lost_line (directive_of d)

abbrev pub items_of : UnitOfNames → List ItemTree
items_of u = map item_of u.items.items

-- the nodes of a body, where there is one
abbrev pub body_nodes : Option StmtTree → ℕ
body_nodes None = 0
body_nodes (Some body) = stmt_nodes body

-- how many nodes a function has: its parameters and what stands in its body
abbrev pub function_nodes : FunctionTree → ℕ
function_nodes f = length f.params + body_nodes f.body
