-- Everything in a unit that rules speak of, each with what is around it: one visit for each expression, statement, parameter,
-- directive, clause, listed name and item. A rule is a test on one visit.
use Rattle.std.specs.Prelude.{ℕ, ◌+◌, ◌==◌, Bool, true, false, cond, ◌&&◌, not, List, [], ◌∷◌, ◌++◌, map, flat_map, Option, Some, None}
use Rattle.vk_kinds.specs.declared.heads.CType.{CType}
use Rattle.vk_kinds.specs.declared.heads.CType.TheVariants.{Void, Int}
use Rattle.vk_ast.specs.declared.names.NameId.{NameId}
use Rattle.vk_ast.specs.declared.items.ParamDecl.{ParamDecl}
use Rattle.vk_ast.specs.Tree.{Tree, Trees, int, name, index, deref, addr, unary, binary, choice, cast, call, no_trees, more_trees}
use Rattle.vk_ast.specs.Statements.{StmtTree, StmtTrees, empty, block, local, assign, value, if_only, if_else, while_loop, do_loop, for_loop, break_loop, continue_loop, return_value, simd, lost, no_stmts, more_stmts}
use Rattle.vk_ast.specs.Directives.{Says, simdlen, uniform, aligned, linear, inside as inbranch, outside as notinbranch, other, ClauseTree, DirectiveTree}
use Rattle.vk_ast.specs.Units.{FunctionTree, ObjectTree, ItemTree, function, object, lost_line}
use Rattle.vk_rules_book.specs.declared.contexts.Around.{Around}
use Rattle.vk_rules_book.specs.declared.contexts.Role.{Role}
use Rattle.vk_rules_book.specs.declared.contexts.Role.TheVariants as role
use Rattle.vk_rules_book.specs.declared.lists.Entry.{Entry}
use Rattle.vk_rules_book.specs.declared.lists.Listed.TheVariants as listed
use Rattle.vk_rules_book.specs.Scopes.{Scope, first_declaration, meaning_of, with_binding, with_param, with_params, inside, file_scope}
use Rattle.vk_rules_book.specs.Typings.{left_role, right_role, wanted_types, typing_of}

pub data Visit : Type 0 where
  expression : Around → Scope → Role → Tree → Visit
  -- a call's function and its arguments
  called : Around → Scope → (line token : ℕ) → NameId → Trees → Visit
  statement : Around → Scope → StmtTree → Visit
  -- a parameter, its number from 0, and the scope before it
  parameter : Scope → (number : ℕ) → ParamDecl → Visit
  -- all directives of a function, behind other items
  directives : (before : List ItemTree) → FunctionTree → Visit
  -- a directive of a function, behind others of the same declaration
  directive : FunctionTree → (earlier : List DirectiveTree) → DirectiveTree → Visit
  -- a clause, and a listed name, behind others of the same directive
  clause : FunctionTree → DirectiveTree → (earlier : List ClauseTree) → ClauseTree → Visit
  entry : FunctionTree → DirectiveTree → (earlier : List Entry) → Entry → Visit
  -- an item of the unit, behind others
  item : (before : List ItemTree) → ItemTree → Visit
  -- an expression of an object's initialiser, with its number from 0
  initial : ObjectTree → (number : ℕ) → Tree → Visit

-- ---- scopes of statements

-- the scope of a block's statements
abbrev pub block_scope : (shares : Bool) → Scope → Scope
block_scope shares scope = cond shares scope (inside scope)

abbrev mutual
  -- The scope behind a statement: a local variable is visible to the end of its block. Behind a block that shares the scope around
  -- it all of its variables are.
  pub after : (shares : Bool) → Scope → StmtTree → Scope
  after shares scope (local l k t fixed id init) = with_binding scope id (Int t) fixed
  after true scope (block l k ss) = after_all scope ss
  after shares scope _ = scope

  pub after_all : Scope → StmtTrees → Scope
  after_all scope no_stmts = scope
  after_all scope (more_stmts s ss) = after_all (after false scope s) ss

-- in a loop's body
abbrev pub in_loop : Around → Around
in_loop around = record around { in_loop = true }

-- ---- expressions

-- a literal 0, of any type
abbrev pub is_zero : Tree → Bool
is_zero (int l k t n) = n == 0
is_zero _ = false

module _ (around : Around) (scope : Scope) where
  -- an expression in this role, behind what was visited in it
  abbrev pub with_role : Role → Tree → (parts : List Visit) → List Visit
  with_role r e parts = parts ++ expression around scope r e ∷ []

  abbrev mutual
    -- What stands in an expression, each in its role: in the operand of `&` (`addressed`) no `*p` or `p[0]` is direct.
    pub parts_of : (addressed : Bool) → Tree → List Visit
    parts_of addressed (int l k t n) = []
    parts_of addressed (name l k id) = []
    parts_of addressed (index l k base subscript) =
        with_role (role.Base (not addressed && is_zero subscript)) base (parts_of false base) ++ with_role role.Value subscript (parts_of false subscript)
    parts_of addressed (deref l k operand) = with_role (role.Base (not addressed)) operand (parts_of false operand)
    parts_of addressed (addr l k operand) = with_role role.Address operand (parts_of true operand)
    parts_of addressed (unary l k op operand) = with_role role.Value operand (parts_of false operand)
    parts_of addressed (binary l k op left right) =
        parts_of false left
        ++ (parts_of false right
        ++ (expression around scope (left_role op (typing_of scope left) (typing_of scope right)) left
        ∷ (expression around scope (right_role op (typing_of scope left) (typing_of scope right)) right
        ∷ [])))
    parts_of addressed (choice l k condition first second) =
        with_role role.Value condition (parts_of false condition)
        ++ (with_role role.Value first (parts_of false first) ++ with_role role.Value second (parts_of false second))
    parts_of addressed (cast l k t operand) = with_role role.Value operand (parts_of false operand)
    parts_of addressed (call l k id arguments) =
        argument_visits (wanted_types (meaning_of scope id)) arguments ++ called around scope l k id arguments ∷ []

    pub argument_visits : List CType → Trees → List Visit
    argument_visits wanted no_trees = []
    argument_visits [] (more_trees e es) = with_role (role.Argument None) e (parts_of false e) ++ argument_visits [] es
    argument_visits (w ∷ ws) (more_trees e es) = with_role (role.Argument (Some w)) e (parts_of false e) ++ argument_visits ws es

  -- an expression in this role, and all in it
  abbrev pub visits_of : Role → Tree → List Visit
  visits_of r e = with_role r e (parts_of false e)

  abbrev pub optional_visits : Option Tree → List Visit
  optional_visits None = []
  optional_visits (Some e) = visits_of role.Value e

-- ---- statements

abbrev mutual
  -- A statement and all in it. A block is a scope of its own, unless it shares the scope around it, as a function's block shares
  -- that of the parameters, and several variables in the head of a `for` that of the `for`. A branch and a loop's body are
  -- scopes of their own, and so is a `for`. A variable is visible in its own initialiser.
  pub stmt_visits : Around → Scope → (shares : Bool) → StmtTree → List Visit
  stmt_visits a s shares (empty l k) = statement a s (empty l k) ∷ []
  stmt_visits a s shares (block l k ss) = statement a s (block l k ss) ∷ all_visits a (block_scope shares s) ss
  stmt_visits a s shares (local l k t fixed id init) =
      statement a s (local l k t fixed id init) ∷ optional_visits a (with_binding s id (Int t) fixed) init
  stmt_visits a s shares (assign l k op place operand) =
      statement a s (assign l k op place operand) ∷ (visits_of a s role.Place place ++ visits_of a s role.Value operand)
  stmt_visits a s shares (value l k e) = statement a s (value l k e) ∷ visits_of a s role.Whole e
  stmt_visits a s shares (if_only l k c first) =
      statement a s (if_only l k c first) ∷ (visits_of a s role.Value c ++ stmt_visits a (inside s) false first)
  stmt_visits a s shares (if_else l k c first second) = statement a s (if_else l k c first second)
      ∷ (visits_of a s role.Value c ++ (stmt_visits a (inside s) false first ++ stmt_visits a (inside s) false second))
  stmt_visits a s shares (while_loop l k c body) =
      statement a s (while_loop l k c body) ∷ (visits_of a s role.Value c ++ stmt_visits (in_loop a) (inside s) false body)
  stmt_visits a s shares (do_loop l k body c) =
      statement a s (do_loop l k body c) ∷ (stmt_visits (in_loop a) (inside s) false body ++ visits_of a s role.Value c)
  stmt_visits a s shares (for_loop l k first c third body) = statement a s (for_loop l k first c third body)
      ∷ (stmt_visits a (inside s) true first
      ++ (optional_visits a (after true (inside s) first) c
      ++ (stmt_visits a (after true (inside s) first) false third
      ++ stmt_visits (in_loop a) (inside (after true (inside s) first)) false body)))
  stmt_visits a s shares (break_loop l k) = statement a s (break_loop l k) ∷ []
  stmt_visits a s shares (continue_loop l k) = statement a s (continue_loop l k) ∷ []
  stmt_visits a s shares (return_value l k e) = statement a s (return_value l k e) ∷ optional_visits a s e
  stmt_visits a s shares (simd l k d body) = statement a s (simd l k d body) ∷ stmt_visits a (inside s) false body
  stmt_visits a s shares (lost l k d) = statement a s (lost l k d) ∷ []

  -- statements one after another in one block
  pub all_visits : Around → Scope → StmtTrees → List Visit
  all_visits a s no_stmts = []
  all_visits a s (more_stmts t ts) = stmt_visits a s false t ++ all_visits a (after false s t) ts

abbrev pub body_visits : Around → Scope → Option StmtTree → List Visit
body_visits a s None = []
body_visits a s (Some body) = stmt_visits a s true body

-- ---- functions

abbrev pub parameter_visits : Scope → (number : ℕ) → List ParamDecl → List Visit
parameter_visits scope n [] = []
parameter_visits scope n (p ∷ ps) = parameter scope n p ∷ parameter_visits (with_param scope p.name p) (n + 1) ps

-- the names that clauses list, in their order
abbrev pub entries_said : Says → List Entry
entries_said (simdlen e) = []
entries_said (uniform names) = map (λ n. record { token = n.token; name = n.name; listed = listed.Uniform }) names
entries_said (aligned names e) = map (λ n. record { token = n.token; name = n.name; listed = listed.Aligned }) names
entries_said (linear names modifier e) = map (λ n. record { token = n.token; name = n.name; listed = listed.Linear }) names
entries_said inbranch = []
entries_said notinbranch = []
entries_said other = []

abbrev pub entries_of : List ClauseTree → List Entry
entries_of cs = flat_map (λ c. entries_said c.says) cs

abbrev pub entry_visits : FunctionTree → DirectiveTree → (earlier rest : List Entry) → List Visit
entry_visits f d earlier [] = []
entry_visits f d earlier (e ∷ es) = entry f d earlier e ∷ entry_visits f d (earlier ++ e ∷ []) es

abbrev pub clause_visits : FunctionTree → DirectiveTree → (earlier rest : List ClauseTree) → List Visit
clause_visits f d earlier [] = []
clause_visits f d earlier (c ∷ cs) = clause f d earlier c ∷ clause_visits f d (earlier ++ c ∷ []) cs

abbrev pub directive_visits : FunctionTree → (earlier rest : List DirectiveTree) → List Visit
directive_visits f earlier [] = []
directive_visits f earlier (d ∷ ds) = directive f earlier d
    ∷ (clause_visits f d [] d.clauses ++ (entry_visits f d [] (entries_of d.clauses) ++ directive_visits f (earlier ++ d ∷ []) ds))

-- the number of the first directive, 0 where there is none
abbrev pub first_number : List DirectiveTree → ℕ
first_number [] = 0
first_number (d ∷ ds) = d.number

abbrev pub number_of_item : Option ItemTree → ℕ
number_of_item (Some (function f)) = first_number f.directives
number_of_item _ = 0

-- around the body of a function that is one of these items: a declaration without directives takes those of the first declaration
abbrev pub around_body : List ItemTree → FunctionTree → Around
around_body items f = record { directive = number_of_item (first_declaration items f.name); result = f.result; in_loop = false }

-- ---- items

abbrev pub at_file_scope : Around
at_file_scope = record { directive = 0; result = Void; in_loop = false }

abbrev pub length_visits : Scope → Option (Option Tree) → List Visit
length_visits scope None = []
length_visits scope (Some e) = optional_visits at_file_scope scope e

abbrev pub initial_visits : Scope → ObjectTree → (number : ℕ) → List Tree → List Visit
initial_visits scope o n [] = []
initial_visits scope o n (e ∷ es) = initial o n e ∷ (visits_of at_file_scope scope role.Value e ++ initial_visits scope o (n + 1) es)

abbrev pub initialiser_visits : Scope → ObjectTree → Option (List Tree) → List Visit
initialiser_visits scope o None = []
initialiser_visits scope o (Some es) = initial_visits scope o 0 es

-- ---- units, in three parts for each item

-- an item behind others, and what stands in an object's declaration; an object is visible in its initialiser
abbrev pub item_part : List (List ℕ) → (before : List ItemTree) → ItemTree → List Visit
item_part texts before (function f) = item before (function f) ∷ []
item_part texts before (object o) = item before (object o)
    ∷ (length_visits (file_scope texts before) o.array ++ initialiser_visits (file_scope texts (before ++ object o ∷ [])) o o.init)
item_part texts before (lost_line d) = item before (lost_line d) ∷ []

-- the directives of a function
abbrev pub directives_part : (before : List ItemTree) → ItemTree → List Visit
directives_part before (function f) = directives before f ∷ directive_visits f [] f.directives
directives_part before (object o) = []
directives_part before (lost_line d) = []

-- the parameters of a function, then its body; a function is visible in itself
abbrev pub function_part : List (List ℕ) → (before : List ItemTree) → ItemTree → List Visit
function_part texts before (function f) =
    parameter_visits (file_scope texts (before ++ function f ∷ [])) 0 f.params
    ++ body_visits (around_body (before ++ function f ∷ []) f) (with_params (file_scope texts (before ++ function f ∷ [])) f.params) f.body
function_part texts before (object o) = []
function_part texts before (lost_line d) = []

-- a part of each item, one after another, behind other items
abbrev pub along : ((before : List ItemTree) → ItemTree → List Visit) → (before rest : List ItemTree) → List Visit
along part before [] = []
along part before (i ∷ is) = part before i ++ along part (before ++ i ∷ []) is

abbrev pub item_visits : List (List ℕ) → (before : List ItemTree) → ItemTree → List Visit
item_visits texts before i = item_part texts before i ++ (directives_part before i ++ function_part texts before i)

abbrev pub unit_visits : List (List ℕ) → List ItemTree → List Visit
unit_visits texts items = along (item_visits texts) [] items
