-- Code of an expression's tree.
use Rattle.std.specs.Prelude.{◌≡◌, ℕ, ◌*◌, ◌<◌, List, map, length, Some}
use Rattle.vk_types.specs.declared.types.Ty.{Ty}
use Rattle.vk_kinds.specs.declared.heads.CType.{CType}
use Rattle.vk_kinds.specs.declared.heads.CType.TheVariants.{Int}
use Rattle.vk_ast.specs.declared.names.NameId.{NameId}
use Rattle.vk_ast.specs.Tree.{Tree, nodes_of}
use Rattle.vk_rules_book.specs.Scopes.{Scope}
use Rattle.vk_rules_book.specs.Typings.{number_type, typing_of}
use Rattle.vk_meaning.specs.Types.{type_at}
use Rattle.vk_meaning.specs.Points.{Variable, variable_named}
use Rattle.vk_meaning.specs.Expressions.{value_of}
use Rattle.vk_construct.specs.Computes.{Table}
use Rattle.vk_construct.specs.Adds.{AddsValue, Written}

-- the expression gives a number of this type
abbrev pub HasNumber : Scope → Tree → Ty → Type 0
HasNumber scope e t = number_type (typing_of scope e) ≡ Some t

-- the table has the variables of the scope, by their numbers
pub record AreVariables (scope : Scope) (tb : Table) : Type 0 where
  pub there : (id : NameId) (v : Variable) → variable_named scope id ≡ Some v → v.number < tb.count
  pub typed : (id : NameId) (v : Variable) → variable_named scope id ≡ Some v → tb.ty v.number ≡ v.ctype

-- the types of what is declared in a scope, in order
abbrev pub types_in : Scope → List CType
types_in scope = map (λ b. b.ctype) scope.inner

-- the table of a scope's variables, in these registers
abbrev pub table_of : (register : ℕ → ℕ) → Scope → Table
table_of register scope = record { count = length scope.inner; reg = register; ty = λ v. type_at (types_in scope) v }

-- that of parameters, which are the first registers
abbrev pub param_table : Scope → Table
param_table scope = table_of (λ v. v) scope

-- Under mask m the expression's value comes into register r, of type t, and the registers so far are kept; masks from f on are free.
-- There are at most eight instructions a node.
abbrev pub AddsTree : (old new : Written) → Scope → Table → Tree → Ty → (r m f : ℕ) → Type 0
AddsTree old new scope tb e t r m f = AddsValue old new tb (λ c vs. value_of c scope vs e) (Int t) r m (length old.regs) f (8 * nodes_of e)
