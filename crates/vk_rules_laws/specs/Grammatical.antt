-- What the grammar gives of the functions of a unit.
use Rattle.std.specs.Prelude.{◌≡◌, ◌≢◌, Bool, true, false, List, Contains, is_some}
use Rattle.vk_kinds.specs.declared.heads.CType.{CType}
use Rattle.vk_kinds.specs.declared.heads.CType.TheVariants.{Ptr}
use Rattle.vk_ast.specs.declared.items.ParamDecl.{ParamDecl}
use Rattle.vk_ast.specs.Directives.{DirectiveTree}
use Rattle.vk_ast.specs.Units.{FunctionTree, ItemTree, function}
use Rattle.vk_rules_book.specs.Statements.{is_void}

abbrev pub is_pointer_type : CType → Bool
is_pointer_type (Ptr to written) = true
is_pointer_type _ = false

-- no parameter is of type void (C17 6.7.6.3), and no function returns a pointer, which this language has not
pub record HasGrammarTypes (items : List ItemTree) : Type 0 where
  pub params : (f : FunctionTree) → Contains items (function f) → (p : ParamDecl) → Contains f.params p → is_void p.ctype ≡ false
  pub results : (f : FunctionTree) → Contains items (function f) → is_pointer_type f.result ≡ false

-- these types, a name for each parameter of a definition (C17 6.9.1), and directives numbered from 1
pub record AreGrammatical (items : List ItemTree) : Type 0 where
  pub types : HasGrammarTypes items
  pub names : (f : FunctionTree) → Contains items (function f) → is_some f.body ≡ true → (p : ParamDecl) → Contains f.params p → is_some p.name ≡ true
  pub numbers : (f : FunctionTree) → Contains items (function f) → (d : DirectiveTree) → Contains f.directives d → d.number ≢ 0
