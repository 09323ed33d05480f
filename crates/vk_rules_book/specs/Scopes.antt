-- What names mean (C17 6.2.1): parameters and local variables, which hide the declarations of file scope.
use Rattle.std.specs.Prelude.{ℕ, ◌==◌, Bool, true, false, cond, List, [], ◌∷◌, ◌++◌, map, drop, codes, nat_lt, length, Option, Some, None, is_some, slice_get, unwrap_or}
use Rattle.std.specs.Str.{bytes_eq}
use Rattle.std.specs.List.{list_any}
use Rattle.std.specs.Option.{option_or}
use Rattle.vk_types.specs.declared.types.Ty.{Ty}
use Rattle.vk_types.specs.declared.types.Ty.TheVariants.{I64}
use Rattle.vk_kinds.specs.declared.heads.CType.{CType}
use Rattle.vk_kinds.specs.declared.heads.CType.TheVariants.{Void, Int}
use Rattle.vk_ast.specs.declared.names.NameId.{NameId}
use Rattle.vk_ast.specs.declared.items.ParamDecl.{ParamDecl}
use Rattle.vk_ast.specs.Directives.{DirectiveTree}
use Rattle.vk_ast.specs.Units.{ItemTree, function, object, lost_line}
use Rattle.vk_rules_book.specs.declared.contexts.Binding.{Binding}

abbrev pub same_name : NameId → NameId → Bool
same_name a b = a.0 == b.0

-- ---- texts of names

-- the text of a name, empty where the table has none
abbrev pub text_of : List (List ℕ) → NameId → List ℕ
text_of texts id = unwrap_or (slice_get texts id.0) []

abbrev pub is_print : List (List ℕ) → NameId → Bool
is_print texts id = bytes_eq (text_of texts id) (codes "print")

abbrev pub is_main : List (List ℕ) → NameId → Bool
is_main texts id = bytes_eq (text_of texts id) (codes "main")

-- an identifier above 1024 bytes
abbrev pub is_long : List (List ℕ) → NameId → Bool
is_long texts id = nat_lt 1024 (length (text_of texts id))

-- ---- what a name means

pub data Meaning : Type 0 where
  -- a parameter or a local variable, and whether it is `const`
  a_variable : CType → (fixed : Bool) → Meaning
  -- an object of file scope, and whether it is `const`
  an_object : Ty → (is_array fixed : Bool) → Meaning
  -- a function: its result, the types of its parameters, and whether its first declaration has directives
  a_function : (result : CType) → (params : List CType) → (is_simd : Bool) → Meaning

-- the built-in `void print(long)`
abbrev pub printer : Meaning
printer = a_function Void (Int I64 ∷ []) false

-- ---- file scope

-- the item declares the name
abbrev pub declares : NameId → ItemTree → Bool
declares id (function f) = same_name f.name id
declares id (object o) = same_name o.name id
declares id (lost_line d) = false

-- the first declaration of a name
unfoldable pub first_declaration : List ItemTree → NameId → Option ItemTree
first_declaration [] id = None
first_declaration (item ∷ items) id = cond (declares id item) (Some item) (first_declaration items id)

abbrev pub types_of : List ParamDecl → List CType
types_of params = map (λ p. p.ctype) params

abbrev pub has_directives : List DirectiveTree → Bool
has_directives [] = false
has_directives (d ∷ ds) = true

abbrev pub declared_meaning : Option ItemTree → Option Meaning
declared_meaning None = None
declared_meaning (Some (function f)) = Some (a_function f.result (types_of f.params) (has_directives f.directives))
declared_meaning (Some (object o)) = Some (an_object o.ty (is_some o.array) o.fixed)
declared_meaning (Some (lost_line d)) = None

-- the meaning of a name behind these items: `print` is built in, others mean what their first declaration says
abbrev pub file_meaning : List (List ℕ) → List ItemTree → NameId → Option Meaning
file_meaning texts items id = cond (is_print texts id) (Some printer) (declared_meaning (first_declaration items id))

-- ---- scopes

-- What is declared at a place of a unit: the meanings of names at file scope, the parameters and local variables that are
-- visible, in their order, and how many of them stand around the innermost block.
pub record Scope : Type 0 where
  pub file : NameId → Option Meaning
  pub inner : List Binding
  pub outer : ℕ

-- the last declaration of a name among parameters and local variables
unfoldable pub last_binding : List Binding → NameId → Option Binding
last_binding [] id = None
last_binding (b ∷ bs) id = option_or (last_binding bs id) (cond (same_name b.name id) (Some b) None)

abbrev pub inner_or : Option Binding → Option Meaning → Option Meaning
inner_or None outer = outer
inner_or (Some b) outer = Some (a_variable b.ctype b.fixed)

-- the meaning of a name, none where it is not declared
unfoldable pub meaning_of : Scope → NameId → Option Meaning
meaning_of scope id = inner_or (last_binding scope.inner id) (scope.file id)

-- the innermost block has declared the name already
unfoldable pub is_taken : Scope → NameId → Bool
is_taken scope id = list_any (λ b. same_name b.name id) (drop scope.outer scope.inner)

-- with one parameter or variable more
abbrev pub with_binding : Scope → NameId → CType → (fixed : Bool) → Scope
with_binding scope id ctype fixed =
    record scope { inner = scope.inner ++ record { name = id; ctype = ctype; fixed = fixed } ∷ [] }

-- with a parameter, where it has a name
abbrev pub with_param : Scope → Option NameId → ParamDecl → Scope
with_param scope None p = scope
with_param scope (Some id) p = with_binding scope id p.ctype p.fixed

unfoldable pub with_params : Scope → List ParamDecl → Scope
with_params scope [] = scope
with_params scope (p ∷ ps) = with_params (with_param scope p.name p) ps

-- a block inside
abbrev pub inside : Scope → Scope
inside scope = record scope { outer = length scope.inner }

-- the scope behind these items, at file scope
abbrev pub file_scope : List (List ℕ) → List ItemTree → Scope
file_scope texts items = record { file = file_meaning texts items; inner = []; outer = 0 }
