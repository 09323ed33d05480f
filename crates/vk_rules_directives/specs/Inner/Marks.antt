-- What the sets of names say between directives, and what is visited of one directive.
use Rattle.std.specs.Prelude.{Bool, true, false, ◌&&◌, List, [], ◌∷◌, ◌++◌}
use Rattle.vk_ast.specs.Directives.{DirectiveTree}
use Rattle.vk_ast.specs.Units.{FunctionTree}
use Rattle.vk_rules_book.specs.declared.lists.Entry.{Entry}
use Rattle.vk_rules_book.specs.Directives.{all_entry_faults, all_said_faults, is_empty, is_listed}
use Rattle.vk_rules_book.specs.Visits.{Visit, clause_visits, directive, entries_of, entry_visits}
use Rattle.vk_rules_directives.specs.declared.directives.Marks.{Marks}
use Rattle.vk_rules_directives.specs.Inner.Tables.{Holds, lists_uniform, nothing}

pub record AreEmpty (marks : Marks) : Type 0 where
  pub uniform : Holds marks.uniform nothing
  pub shaped : Holds marks.shaped nothing
  pub aligned : Holds marks.aligned nothing

-- the sets have the names of these entries
pub record AreRead (marks : Marks) (entries : List Entry) : Type 0 where
  pub uniform : Holds marks.uniform (lists_uniform entries)
  pub shaped : Holds marks.shaped (is_listed false entries)
  pub aligned : Holds marks.aligned (is_listed true entries)

-- the clauses of a directive, then the names that they list
abbrev pub form_visits : FunctionTree → DirectiveTree → List Visit
form_visits f d = clause_visits f d [] d.clauses ++ entry_visits f d [] (entries_of d.clauses)

-- they break none of D1 to D14
abbrev pub is_sound : FunctionTree → DirectiveTree → Bool
is_sound f d = is_empty (all_said_faults f d [] d.clauses) && is_empty (all_entry_faults f d [] (entries_of d.clauses))

-- what is visited of one directive
abbrev pub own_visits : FunctionTree → List DirectiveTree → DirectiveTree → List Visit
own_visits f earlier d = directive f earlier d ∷ form_visits f d
