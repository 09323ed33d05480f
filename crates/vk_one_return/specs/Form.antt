-- Units that are one function of one `return`.
use Rattle.std.specs.Prelude.{◌≡◌, ◌≤◌, Bool, true, false, ◌&&◌, List, [], ◌∷◌, length, Option, Some, None, is_some}
use Rattle.std.specs.List.{list_all, list_any}
use Rattle.std.specs.Option.{option_and_then}
use Rattle.vk_types.specs.declared.types.Ty.{Ty}
use Rattle.vk_kinds.specs.declared.heads.CType.TheVariants.{Int}
use Rattle.vk_kinds.specs.Types.{integer_of}
use Rattle.vk_ast.specs.declared.names.NameId.{NameId}
use Rattle.vk_ast.specs.declared.items.ParamDecl.{ParamDecl}
use Rattle.vk_ast.specs.Tree.{Tree, int, name, index, deref, addr, unary, binary, choice, cast, call}
use Rattle.vk_ast.specs.Statements.{StmtTree, StmtTrees, block, return_value, no_stmts, more_stmts}
use Rattle.vk_ast.specs.Units.{FunctionTree, function, function_nodes}
use Rattle.vk_rules_book.specs.Scopes.{has_directives, same_name}
use Rattle.vk_rules_book.specs.Rules.{Subject}

-- ---- parameters

-- a parameter with a name, and of an integer type
abbrev pub is_integer : ParamDecl → Bool
is_integer p = is_some p.name && is_some (integer_of p.ctype)

abbrev pub is_name : Option NameId → NameId → Bool
is_name None id = false
is_name (Some n) id = same_name n id

-- one of the parameters has the name
abbrev pub is_param : List ParamDecl → NameId → Bool
is_param params id = list_any (λ p. is_name p.name id) params

-- ---- expressions

-- an expression of literals, parameters, casts, operators on numbers and `?:`
abbrev pub is_plain : List ParamDecl → Tree → Bool
is_plain params (int l k t n) = true
is_plain params (name l k id) = is_param params id
is_plain params (cast l k t e) = is_plain params e
is_plain params (unary l k op e) = is_plain params e
is_plain params (binary l k op a b) = is_plain params a && is_plain params b
is_plain params (choice l k c a b) = is_plain params c && is_plain params a && is_plain params b
is_plain params (index l k a b) = false
is_plain params (deref l k e) = false
is_plain params (addr l k e) = false
is_plain params (call l k id es) = false

-- ---- bodies

abbrev pub returned_by : StmtTree → Option Tree
returned_by (return_value l k e) = e
returned_by s = None

abbrev pub returned_alone : StmtTrees → Option Tree
returned_alone no_stmts = None
returned_alone (more_stmts s no_stmts) = returned_by s
returned_alone (more_stmts s (more_stmts t ss)) = None

-- what a body returns that is one `return` of an expression
abbrev pub returned_in : StmtTree → Option Tree
returned_in (block l k ss) = returned_alone ss
returned_in s = None

-- ---- units

-- The function has integers as its parameters and its result, and its body returns a plain expression.
pub record IsReturn (f : FunctionTree) (e : Tree) (t : Ty) : Type 0 where
  pub result : f.result ≡ Int t
  pub params : list_all is_integer f.params ≡ true
  pub body : option_and_then returned_in f.body ≡ Some e
  pub plain : is_plain f.params e ≡ true

-- the unit is one definition of such a function, with directives
pub record IsForm (unit : Subject) (f : FunctionTree) (e : Tree) (t : Ty) : Type 0 where
  pub items : unit.items ≡ function f ∷ []
  pub directives : has_directives f.directives ≡ true
  pub returns : IsReturn f e t

-- the function is as small as rules of units ask
pub record IsSmall (f : FunctionTree) : Type 0 where
  pub params : length f.params ≤ 64
  pub nodes : function_nodes f ≤ 2000
