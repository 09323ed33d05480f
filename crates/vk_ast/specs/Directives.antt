-- Directives without pointers.
use Rattle.std.specs.Prelude.{ℕ, List, map, Option}
use Rattle.std.specs.Option.{option_map}
use Rattle.vk_ast.specs.declared.directives.Directive.{Directive}
use Rattle.vk_ast.specs.declared.directives.Clause.{Clause}
use Rattle.vk_ast.specs.declared.directives.PlacedName.{PlacedName}
use Rattle.vk_ast.specs.declared.directives.Modifier.{Modifier}
use Rattle.vk_ast.specs.declared.directives.ClauseKind.{ClauseKind}
use Rattle.vk_ast.specs.declared.directives.ClauseKind.TheVariants.{Simdlen, Uniform, Aligned, Linear, Inside, Outside, Other}
use Rattle.vk_ast.specs.Tree.{Tree, expr_of}

-- what a clause says
pub data Says : Type 0 where
  simdlen : Tree → Says
  uniform : List PlacedName → Says
  aligned : List PlacedName → Option Tree → Says
  linear : List PlacedName → Option Modifier → Option Tree → Says
  inside : Says
  outside : Says
  other : Says

-- a clause, with the line and the number of its first token, and each identifier in it where it is not `other`
pub record ClauseTree : Type 0 where
  pub line : ℕ
  pub token : ℕ
  pub says : Says
  pub names : List PlacedName

-- a directive, with its line, its first token and its number in the unit
pub record DirectiveTree : Type 0 where
  pub line : ℕ
  pub token : ℕ
  pub number : ℕ
  pub clauses : List ClauseTree

abbrev pub says_of : ClauseKind → Says
says_of (Simdlen e) = simdlen (expr_of e)
says_of (Uniform listed) = uniform listed.items
says_of (Aligned listed e) = aligned listed.items (option_map expr_of e)
says_of (Linear listed modifier e) = linear listed.items modifier (option_map expr_of e)
says_of Inside = inside
says_of Outside = outside
says_of Other = other

abbrev pub clause_of : Clause → ClauseTree
clause_of c = record { line = c.line; token = c.token; says = says_of c.kind; names = c.names.items }

abbrev pub directive_of : Directive → DirectiveTree
directive_of d = record { line = d.line; token = d.token; number = d.number; clauses = map clause_of d.clauses.items }
