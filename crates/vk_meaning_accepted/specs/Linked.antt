-- Units of a program that are accepted one by one, and what they have to agree on.
use Rattle.std.specs.Prelude.{◌≡◌, ◌<◌, ℕ, Bool, true, List, [], length, Contains, Some}
use Rattle.vk_ast.specs.declared.names.NameId.{NameId}
use Rattle.vk_ast.specs.Units.{FunctionTree, ObjectTree, function, object}
use Rattle.vk_rules_book.specs.Rules.{Subject, faults_of}
use Rattle.vk_rules_book.specs.Scopes.{first_declaration, has_directives, text_of, types_of}
use Rattle.vk_rules_laws.specs.Grammatical.{AreGrammatical}
use Rattle.vk_meaning.specs.World.{array_at}
use Rattle.vk_meaning.specs.Programs.{Definition, arrays_of, array_number, definition_of}
use Rattle.vk_meaning_laws.specs.Tame.{IsLaneFunction}

-- each unit is as the grammar gives it, and breaks no rule
pub record AreAccepted (units : List Subject) : Type 0 where
  pub grammatical : (u : Subject) → Contains units u → AreGrammatical u.items
  pub sound : (u : Subject) → Contains units u → faults_of u ≡ []

-- What units declare of functions is what is defined, and `lane` tells which functions have directives: it holds of what is declared
-- with directives anywhere, and of no function that is defined without them.
pub record AgreeOnFunctions (units : List Subject) (lane : List ℕ → Bool) : Type 0 where
  pub types : (u : Subject) → Contains units u → (id : NameId) (g : FunctionTree) → first_declaration u.items id ≡ Some (function g) →
      (d : Definition) → definition_of units (text_of u.texts id) ≡ Some d → types_of g.params ≡ types_of d.function.params
  pub declared : (u : Subject) → Contains units u → (id : NameId) (g : FunctionTree) → first_declaration u.items id ≡ Some (function g) →
      has_directives g.directives ≡ true → lane (text_of u.texts id) ≡ true
  pub defined : (text : List ℕ) (d : Definition) → IsLaneFunction units lane text d →
      (g : FunctionTree) → first_declaration d.unit.items d.function.name ≡ Some (function g) → has_directives g.directives ≡ true

-- what a unit declares as a `const` object is `const` where it is defined
pub record AgreeOnConsts (units : List Subject) : Type 0 where
  pub fixed : (u : Subject) → Contains units u → (id : NameId) (o : ObjectTree) → first_declaration u.items id ≡ Some (object o) → o.fixed ≡ true →
      array_number (arrays_of units) (text_of u.texts id) < length (arrays_of units) →
      (array_at (arrays_of units) (array_number (arrays_of units) (text_of u.texts id))).fixed ≡ true
