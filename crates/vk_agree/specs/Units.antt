-- Accepted units, and what they define.
use Rattle.std.specs.Prelude.{◌≡◌, true, Contains, ℕ, cond, List, [], ◌∷◌, map, Option, Some, None, bytes_eq}
use Rattle.std.specs.Option.{option_or}
use Rattle.vk_kinds.specs.declared.heads.CType.{CType}
use Rattle.vk_kinds.specs.declared.kinds.Kind.{Kind}
use Rattle.vk_kinds.specs.declared.kinds.Param.{Param}
use Rattle.vk_kinds.specs.Sizes.{SignatureTree}
use Rattle.vk_ast.specs.declared.names.NameId.{NameId}
use Rattle.vk_ast.specs.Units.{FunctionTree, ItemTree, function, object, lost_line}
use Rattle.vk_rules_book.specs.Directives.{signatures}
use Rattle.vk_rules_book.specs.Rules.{Subject, faults_of}
use Rattle.vk_rules_book.specs.Scopes.{declares, same_name, text_of, types_of}
use Rattle.vk_rules_laws.specs.Grammatical.{AreGrammatical}
use Rattle.vk_meaning.specs.Programs.{Definition, defined_behind}

-- a unit as the grammar gives it, that breaks no rule, and of which each text of a declared name is that of one name
pub record IsAccepted (u : Subject) : Type 0 where
  pub grammatical : AreGrammatical u.items
  pub sound : faults_of u ≡ []
  pub one_name : (i j : ItemTree) → Contains u.items i → Contains u.items j → (a b : NameId) → declares a i ≡ true → declares b j ≡ true →
      text_of u.texts a ≡ text_of u.texts b → same_name a b ≡ true

-- the first answer along a list
abbrev pub first_of : {X Y : Type 0} → (X → Option Y) → List X → Option Y
first_of look [] = None
first_of look (x ∷ xs) = option_or (look x) (first_of look xs)

-- ---- functions

-- what a unit defines under this name
abbrev pub definition_in : (text : List ℕ) → Subject → Option Definition
definition_in text u = defined_behind text u [] u.items

abbrev pub param_types : Definition → List CType
param_types d = types_of d.function.params

-- the item declares a function with this name
abbrev pub function_named : (text : List ℕ) → Subject → ItemTree → Option FunctionTree
function_named text u (function f) = cond (bytes_eq (text_of u.texts f.name) text) (Some f) None
function_named text u (object o) = None
function_named text u (lost_line d) = None

-- the first declaration of the function in the unit
abbrev pub function_in : (text : List ℕ) → Subject → Option FunctionTree
function_in text u = first_of (function_named text u) u.items

abbrev pub signatures_where_declared : Option FunctionTree → List SignatureTree
signatures_where_declared None = []
signatures_where_declared (Some f) = signatures f

-- the directives of a function are those of its first declaration in the unit (OpenMP 5.2, 7.7)
abbrev pub signatures_in : (text : List ℕ) → Subject → List SignatureTree
signatures_in text u = signatures_where_declared (function_in text u)

-- the kinds of the parameters
abbrev pub kinds_of : SignatureTree → List Kind
kinds_of s = map (λ (p : Param). p.kind) s.params
