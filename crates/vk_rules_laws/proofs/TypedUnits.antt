-- Each expression that is visited in a unit that breaks no rule has a type: statements and items.
use Rattle.std.proofs.Common.{◌≡◌, ℕ, ◌+◌, Bool, true, false, List, [], ◌∷◌, ◌++◌, Option, Some, None, refl}
use Rattle.std.specs.List.{AllByRecursion}
use Rattle.vk_kinds.specs.declared.heads.CType.TheVariants.{Int}
use Rattle.vk_ast.specs.declared.items.ParamDecl.{ParamDecl}
use Rattle.vk_ast.specs.Directives.{ClauseTree, DirectiveTree}
use Rattle.vk_ast.specs.Tree.{Tree}
use Rattle.vk_ast.specs.Statements.{StmtTree, StmtTrees, empty, block, local, assign, value, if_only, if_else, while_loop, do_loop, for_loop, break_loop, continue_loop, return_value, simd, lost, no_stmts, more_stmts}
use Rattle.vk_ast.specs.Units.{FunctionTree, ObjectTree, ItemTree, function, object, lost_line}
use Rattle.vk_rules_book.specs.declared.contexts.Around.{Around}
use Rattle.vk_rules_book.specs.declared.contexts.Role.TheVariants as role
use Rattle.vk_rules_book.specs.declared.lists.Entry.{Entry}
use Rattle.vk_rules_book.specs.Rules.{Subject, faults_of}
use Rattle.vk_rules_book.specs.Scopes.{Scope, file_scope, inside, with_binding, with_param, with_params}
use Rattle.vk_rules_book.specs.Visits.{Visit, after, all_visits, along, around_body, at_file_scope, block_scope, body_visits, clause_visits, directive_visits, entries_of, entry_visits, in_loop, initial_visits, initialiser_visits, item, item_visits, length_visits, optional_visits, parameter_visits, stmt_visits, unit_visits, visits_of}
use Rattle.vk_rules_laws.specs.Grammatical.{HasGrammarTypes}
use Rattle.vk_rules_laws.proofs.Each.{IsQuiet, back, both, front, unit_quiet}
use Rattle.vk_rules_laws.proofs.Fitting.{AreFitting, IsFittingItem, after_fits, block_fits, file_fits, inside_fits, items_fit, more_fits, params_fit}
use Rattle.vk_rules_laws.proofs.Typed.{HasType, optional_typed, visits_typed}

module _ (unit : Subject) where
  abbrev AreQuiet : List Visit → Type 0
  AreQuiet vs = AllByRecursion (IsQuiet unit) vs

  abbrev HaveTypes : List Visit → Type 0
  HaveTypes vs = AllByRecursion HasType vs

  -- two pieces of visits, one after another
  piecewise : (x y : List Visit) → (AreQuiet x → HaveTypes x) → (AreQuiet y → HaveTypes y) → AreQuiet (x ++ y) → HaveTypes (x ++ y)
  piecewise x y h k q = both HasType x y (h (front (IsQuiet unit) x y q)) (k (back (IsQuiet unit) x y q))

  mutual
    stmt_typed : (a : Around) (s : Scope) (shares : Bool) (t : StmtTree) → AreFitting s → AreQuiet (stmt_visits a s shares t) → HaveTypes (stmt_visits a s shares t)
    stmt_typed a s shares (empty l k) f q = (tt, tt)
    stmt_typed a s shares (block l k ss) f q = (tt, all_typed a (block_scope shares s) ss (block_fits shares s f) q.1)
    stmt_typed a s shares (local l k t fixed id init) f q = (tt, optional_typed unit a (with_binding s id (Int t) fixed) (more_fits s id (Int t) fixed f refl) init q.1)
    stmt_typed a s shares (assign l k op place operand) f q =
        (tt, piecewise (visits_of a s role.Place place) (visits_of a s role.Value operand) (visits_typed unit a s f role.Place place) (visits_typed unit a s f role.Value operand) q.1)
    stmt_typed a s shares (value l k e) f q = (tt, visits_typed unit a s f role.Whole e q.1)
    stmt_typed a s shares (if_only l k c first) f q =
        (tt, piecewise (visits_of a s role.Value c) (stmt_visits a (inside s) false first) (visits_typed unit a s f role.Value c) (stmt_typed a (inside s) false first (inside_fits s f)) q.1)
    stmt_typed a s shares (if_else l k c first second) f q = (
      tt,
      piecewise (visits_of a s role.Value c) (stmt_visits a (inside s) false first ++ stmt_visits a (inside s) false second) (visits_typed unit a s f role.Value c)
          (piecewise (stmt_visits a (inside s) false first) (stmt_visits a (inside s) false second)
          (stmt_typed a (inside s) false first (inside_fits s f)) (stmt_typed a (inside s) false second (inside_fits s f))) q.1,
    )
    stmt_typed a s shares (while_loop l k c body) f q =
        (tt, piecewise (visits_of a s role.Value c) (stmt_visits (in_loop a) (inside s) false body) (visits_typed unit a s f role.Value c) (stmt_typed (in_loop a) (inside s) false body (inside_fits s f)) q.1)
    stmt_typed a s shares (do_loop l k body c) f q =
        (tt, piecewise (stmt_visits (in_loop a) (inside s) false body) (visits_of a s role.Value c) (stmt_typed (in_loop a) (inside s) false body (inside_fits s f)) (visits_typed unit a s f role.Value c) q.1)
    stmt_typed a s shares (for_loop l k first c third body) f q =
        let head = after true (inside s) first in
        let fh = after_fits true (inside s) first (inside_fits s f) in
        let v1 = stmt_visits a (inside s) true first in
        let v2 = optional_visits a head c in
        let v3 = stmt_visits a head false third in
        let v4 = stmt_visits (in_loop a) (inside head) false body in (
          tt,
          piecewise v1 (v2 ++ (v3 ++ v4)) (stmt_typed a (inside s) true first (inside_fits s f))
              (piecewise v2 (v3 ++ v4) (optional_typed unit a head fh c)
              (piecewise v3 v4 (stmt_typed a head false third fh) (stmt_typed (in_loop a) (inside head) false body (inside_fits head fh)))) q.1,
        )
    stmt_typed a s shares (break_loop l k) f q = (tt, tt)
    stmt_typed a s shares (continue_loop l k) f q = (tt, tt)
    stmt_typed a s shares (return_value l k e) f q = (tt, optional_typed unit a s f e q.1)
    stmt_typed a s shares (simd l k d body) f q = (tt, stmt_typed a (inside s) false body (inside_fits s f) q.1)
    stmt_typed a s shares (lost l k d) f q = (tt, tt)

    all_typed : (a : Around) (s : Scope) (ts : StmtTrees) → AreFitting s → AreQuiet (all_visits a s ts) → HaveTypes (all_visits a s ts)
    all_typed a s no_stmts f q = tt
    all_typed a s (more_stmts t ts) f q =
        piecewise (stmt_visits a s false t) (all_visits a (after false s t) ts) (stmt_typed a s false t f) (all_typed a (after false s t) ts (after_fits false s t f)) q

  body_typed : (a : Around) (s : Scope) (body : Option StmtTree) → AreFitting s → AreQuiet (body_visits a s body) → HaveTypes (body_visits a s body)
  body_typed a s None f q = tt
  body_typed a s (Some body) f q = stmt_typed a s true body f q

  -- ---- items

  parameters_typed : (s : Scope) (n : ℕ) (ps : List ParamDecl) → HaveTypes (parameter_visits s n ps)
  parameters_typed s n [] = tt
  parameters_typed s n (p ∷ ps) = (tt, parameters_typed (with_param s p.name p) (n + 1) ps)

  clauses_typed : (g : FunctionTree) (d : DirectiveTree) (earlier cs : List ClauseTree) → HaveTypes (clause_visits g d earlier cs)
  clauses_typed g d earlier [] = tt
  clauses_typed g d earlier (c ∷ cs) = (tt, clauses_typed g d (earlier ++ c ∷ []) cs)

  entries_typed : (g : FunctionTree) (d : DirectiveTree) (earlier es : List Entry) → HaveTypes (entry_visits g d earlier es)
  entries_typed g d earlier [] = tt
  entries_typed g d earlier (e ∷ es) = (tt, entries_typed g d (earlier ++ e ∷ []) es)

  directives_typed : (g : FunctionTree) (earlier ds : List DirectiveTree) → HaveTypes (directive_visits g earlier ds)
  directives_typed g earlier [] = tt
  directives_typed g earlier (d ∷ ds) =
      let clauses = clause_visits g d [] d.clauses in
      let entries = entry_visits g d [] (entries_of d.clauses) in
      let more = directive_visits g (earlier ++ d ∷ []) ds in
      (tt, both HasType clauses (entries ++ more) (clauses_typed g d [] d.clauses) (both HasType entries more (entries_typed g d [] (entries_of d.clauses)) (directives_typed g (earlier ++ d ∷ []) ds)))

  length_typed : (s : Scope) (array : Option (Option Tree)) → AreFitting s → AreQuiet (length_visits s array) → HaveTypes (length_visits s array)
  length_typed s None f q = tt
  length_typed s (Some e) f q = optional_typed unit at_file_scope s f e q

  initials_typed : (s : Scope) (o : ObjectTree) (n : ℕ) (es : List Tree) → AreFitting s → AreQuiet (initial_visits s o n es) → HaveTypes (initial_visits s o n es)
  initials_typed s o n [] f q = tt
  initials_typed s o n (e ∷ es) f q =
      (tt, piecewise (visits_of at_file_scope s role.Value e) (initial_visits s o (n + 1) es) (visits_typed unit at_file_scope s f role.Value e) (initials_typed s o (n + 1) es f) q.1)

  initialiser_typed : (s : Scope) (o : ObjectTree) (es : Option (List Tree)) → AreFitting s → AreQuiet (initialiser_visits s o es) → HaveTypes (initialiser_visits s o es)
  initialiser_typed s o None f q = tt
  initialiser_typed s o (Some es) f q = initials_typed s o 0 es f q

  item_typed : (before : List ItemTree) (i : ItemTree) → AllByRecursion IsFittingItem before → IsFittingItem i
      → AreQuiet (item_visits unit.texts before i) → HaveTypes (item_visits unit.texts before i)
  item_typed before (lost_line d) fb fi q = (tt, tt)
  item_typed before (object o) fb fi q =
      let here = file_scope unit.texts before in
      let behind = file_scope unit.texts (before ++ object o ∷ []) in
      let v = length_visits here o.array in
      let w = initialiser_visits behind o o.init in
      piecewise (item before (object o) ∷ (v ++ w)) []
      (λ q. (
        tt,
        piecewise v w (length_typed here o.array (file_fits unit.texts before fb))
            (initialiser_typed behind o o.init (file_fits unit.texts (before ++ object o ∷ []) (both IsFittingItem before (object o ∷ []) fb (tt, tt)))) q.1,
      ))
      (λ q. tt) q
  item_typed before (function g) fb fi q =
      let items = before ++ function g ∷ [] in
      let scope = file_scope unit.texts items in
      let fits = file_fits unit.texts items (both IsFittingItem before (function g ∷ []) fb (fi, tt)) in
      let v = directive_visits g [] g.directives in
      let ps = parameter_visits scope 0 g.params in
      let body = body_visits (around_body items g) (with_params scope g.params) g.body in (
        tt,
        (
          tt,
          piecewise v (ps ++ body) (λ q. directives_typed g [] g.directives)
              (piecewise ps body (λ q. parameters_typed scope 0 g.params) (body_typed (around_body items g) (with_params scope g.params) g.body (params_fit scope g.params fits fi.0))) q.1.1,
        ),
      )

  items_typed : (before rest : List ItemTree) → AllByRecursion IsFittingItem before → AllByRecursion IsFittingItem rest
      → AreQuiet (along (item_visits unit.texts) before rest) → HaveTypes (along (item_visits unit.texts) before rest)
  items_typed before [] fb fr q = tt
  items_typed before (i ∷ rest) fb fr q =
      piecewise (item_visits unit.texts before i) (along (item_visits unit.texts) (before ++ i ∷ []) rest)
      (item_typed before i fb fr.0) (items_typed (before ++ i ∷ []) rest (both IsFittingItem before (i ∷ []) fb (fr.0, tt)) fr.1) q

  pub unit_typed : HasGrammarTypes unit.items → faults_of unit ≡ [] → HaveTypes (unit_visits unit.texts unit.items)
  unit_typed types quiet = items_typed [] unit.items tt (items_fit unit.items types) (unit_quiet unit quiet)
