-- What tables by the numbers of names say.
use Rattle.std.specs.Prelude.{◌≡◌, Bool, false, cond, ◌&&◌, not, List, Option, None, slice_get, unwrap_or}
use Rattle.std.specs.Option.{option_map}
use Rattle.std.specs.List.{list_any}
use Rattle.vk_kinds.specs.declared.heads.CType.{CType}
use Rattle.vk_ast.specs.declared.names.NameId.{NameId}
use Rattle.vk_ast.specs.declared.items.ParamDecl.{ParamDecl}
use Rattle.vk_ast.specs.declared.directives.PlacedName.{PlacedName}
use Rattle.vk_rules_book.specs.declared.lists.Entry.{Entry}
use Rattle.vk_rules_book.specs.declared.lists.Listed.{Listed}
use Rattle.vk_rules_book.specs.Directives.{is_aligned, is_uniform_list}
use Rattle.vk_rules_book.specs.Scopes.{same_name}
use Rattle.vk_rules_book.specs.Signatures.{param_of}
use Rattle.vk_rules_directives.specs.declared.names.NameSet.{NameSet}

-- the set has the name
abbrev pub has : NameSet → NameId → Bool
has set id = unwrap_or (slice_get set.marks.items id.0) false

-- the set has exactly the names of this test
abbrev pub Holds : NameSet → (NameId → Bool) → Type 0
Holds set test = (id : NameId) → has set id ≡ test id

abbrev pub nothing : NameId → Bool
nothing id = false

-- the type that the table has for a name
abbrev pub type_at : List (Option CType) → NameId → Option CType
type_at types id = unwrap_or (slice_get types id.0) None

-- the type of the first of these parameters with this name
abbrev pub type_of_param : List ParamDecl → NameId → Option CType
type_of_param params id = option_map (λ (p : ParamDecl). p.ctype) (param_of params id)

-- the table has the type of each parameter
abbrev pub AreTypes : List (Option CType) → List ParamDecl → Type 0
AreTypes types params = (id : NameId) → type_at types id ≡ type_of_param params id

-- a name that such a list has
abbrev pub entry_of : Listed → PlacedName → Entry
entry_of listed n = record { token = n.token; name = n.name; listed = listed }

-- the entry lists the name by `aligned`, or by `uniform` or `linear`
abbrev pub lists_as : (by_aligned : Bool) → Entry → NameId → Bool
lists_as by_aligned e id = same_name e.name id && cond by_aligned (is_aligned e.listed) (not (is_aligned e.listed))

-- one of the entries is this name
abbrev pub names_one : List Entry → NameId → Bool
names_one entries id = list_any (λ e. same_name e.name id) entries

-- these entries list the name as uniform
abbrev pub lists_uniform : List Entry → NameId → Bool
lists_uniform entries id = list_any (λ e. is_uniform_list e.listed && same_name e.name id) entries
