-- Items as the grammar makes them, and what it asks of them.
use Rattle.std.specs.Prelude.{ℕ, max, Bool, true, false, List, [], ◌∷◌, Option, Some, None, not, ◌&&◌, map}
use Rattle.vk_types.specs.declared.types.Ty.{Ty}
use Rattle.vk_kinds.specs.declared.heads.CType.{CType}
use Rattle.vk_kinds.specs.declared.heads.CType.TheVariants as ctype
use Rattle.vk_ast.specs.declared.names.NameId.{NameId}
use Rattle.vk_ast.specs.declared.items.ParamDecl.{ParamDecl}
use Rattle.vk_ast.specs.Tree.{Tree}
use Rattle.vk_ast.specs.Statements.{StmtTree}
use Rattle.vk_ast.specs.Directives.{DirectiveTree}
use Rattle.vk_ast.specs.Units.{ItemTree}
use Rattle.vk_grammar_expr.specs.declared.symbols.SymKind.{SymKind}
use Rattle.vk_grammar_expr.specs.declared.symbols.SymKind.TheVariants as kind
use Rattle.vk_grammar_expr.specs.declared.symbols.Keyword.TheVariants as keyword
use Rattle.vk_grammar_stmt.specs.Trees.{levels_of}

-- a name, with the line and the number of its token
pub record Named : Type 0 where
  pub line : ℕ
  pub token : ℕ
  pub name : NameId

-- ---- tests of a token

-- `const` or `restrict`
unfoldable pub is_qualifier : Option SymKind → Bool
is_qualifier (Some (kind.Keyword keyword.Const)) = true
is_qualifier (Some (kind.Keyword keyword.Restrict)) = true
is_qualifier _ = false

-- a line of `declare simd`: the directive's number
unfoldable pub line_at : Option SymKind → Option ℕ
line_at (Some (kind.Simdfn n)) = Some n
line_at _ = None

abbrev pub is_line : Option ℕ → Bool
is_line (Some n) = true
is_line None = false

abbrev pub is_end : Option SymKind → Bool
is_end None = true
is_end (Some k) = false

-- ---- parameters

-- A parameter that is a pointer reads alone where the type behind it is `const`.
abbrev pub pointer_to : Ty → (fixed : Bool) → CType
pointer_to ty fixed = ctype.Ptr ty (not fixed)

abbrev pub with_name : Named → CType → (fixed : Bool) → ParamDecl
with_name n c fixed = record { line = n.line; token = n.token; name = Some n.name; ctype = c; fixed = fixed }

abbrev pub without_name : (line token : ℕ) → CType → (fixed : Bool) → ParamDecl
without_name l k c fixed = record { line = l; token = k; name = None; ctype = c; fixed = fixed }

abbrev pub has_name : Option NameId → Bool
has_name (Some id) = true
has_name None = false

abbrev pub all_named : List ParamDecl → Bool
all_named [] = true
all_named (p ∷ ps) = has_name p.name && all_named ps

-- ---- functions and objects

abbrev pub function_tree : Named → List DirectiveTree → CType → List ParamDecl → Option StmtTree → ItemTree
function_tree n lines result params body =
    ItemTree.function (record { line = n.line; token = n.token; name = n.name; directives = lines; result = result; params = params; body = body })

-- the type in front of the objects of a declaration
pub record ObjectType : Type 0 where
  pub ty : Ty
  pub fixed : Bool
  pub outside : Bool

-- an initialiser, with the line and the number of its first token
pub record Initial : Type 0 where
  pub items : Option (List Tree)
  pub braced : Bool
  pub line : ℕ
  pub token : ℕ

abbrev pub no_initial : Initial
no_initial = record { items = None; braced = false; line = 0; token = 0 }

abbrev pub object_tree : ObjectType → Named → Option (Option Tree) → Initial → ItemTree
object_tree t n array init = ItemTree.object (record {
  line = n.line;
  token = n.token;
  name = n.name;
  ty = t.ty;
  fixed = t.fixed;
  outside = t.outside;
  array = array;
  init = init.items;
  braced = init.braced;
  init_line = init.line;
  init_token = init.token;
})

abbrev pub lost_lines : List DirectiveTree → List ItemTree
lost_lines lines = map ItemTree.lost_line lines

-- ---- limits

abbrev pub body_levels : Option StmtTree → ℕ
body_levels None = 0
body_levels (Some s) = levels_of s

abbrev pub item_levels : ItemTree → ℕ
item_levels (ItemTree.function f) = body_levels f.body
item_levels (ItemTree.object o) = 0
item_levels (ItemTree.lost_line d) = 0

-- how many statements stand one in the other, at most, in all functions
abbrev pub unit_levels : List ItemTree → ℕ
unit_levels [] = 0
unit_levels (i ∷ rest) = max (item_levels i) (unit_levels rest)
