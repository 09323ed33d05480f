-- In an accepted unit each called name means a function where it is called.
use Rattle.std.proofs.Common.{◌≡◌, ℕ, ◌+◌, Bool, true, false, not, ◌&&◌, cond, List, [], ◌∷◌, ◌++◌, length, Contains, Option, Some, None, refl, sym, subst}
use Rattle.std.specs.List.{AllByRecursion}
use Rattle.std.proofs.lemmas.List.{append-nil, append_assoc}
use Rattle.vk_kinds.specs.declared.heads.CType.{CType}
use Rattle.vk_kinds.specs.declared.heads.CType.TheVariants.{Int}
use Rattle.vk_ast.specs.Tree.{Tree, Trees, int, name, index, deref, addr, unary, binary, choice, cast, call, no_trees, more_trees}
use Rattle.vk_ast.specs.Statements.{StmtTree, StmtTrees, empty, block, local, assign, value, if_only, if_else, while_loop, do_loop, for_loop, break_loop, continue_loop, return_value, simd, lost, no_stmts, more_stmts}
use Rattle.vk_rules_book.specs.declared.contexts.Around.{Around}
use Rattle.vk_rules_book.specs.declared.contexts.Role.TheVariants as role
use Rattle.vk_rules_book.specs.declared.contexts.Role.{Role}
use Rattle.vk_rules_book.specs.declared.typings.Typing.{Typing}
use Rattle.vk_rules_book.specs.declared.typings.Typing.TheVariants.{Untyped}
use Rattle.vk_rules_book.specs.Scopes.{Meaning, Scope, file_scope, with_params, a_function, a_variable, an_object, inside, meaning_of, with_binding}
use Rattle.vk_rules_book.specs.Typings.{are_arguments, call_typing, called_typing, is_callable, is_typed, left_role, right_role, typing_of, typings_of, wanted_types}
use Rattle.vk_rules_book.specs.Visits.{Visit, after, all_visits, along, argument_visits, around_body, block_scope, body_visits, called, directives_part, expression, function_part, in_loop, item_visits, parameter_visits, unit_visits, is_zero, optional_visits, parts_of, stmt_visits, visits_of, with_role}
use Rattle.vk_rules_laws.proofs.Each.{at_all, back, front}
use Rattle.vk_meaning.specs.Points.{Point, past, branch_point, head_point, behind, loops_in}
use Rattle.vk_meaning_laws.specs.Tame.{is_function}
use Rattle.vk_meaning.specs.Programs.{Definition, first_point}
use Rattle.vk_ast.specs.Units.{ItemTree, function}
use Rattle.vk_rules_book.specs.Rules.{Subject}
use Rattle.vk_agree.specs.Units.{definition_in}
use Rattle.vk_joins.specs.Links.{body_calls}
use Rattle.vk_settings.proofs.Heads.{IsDefinedIn, defined_in_unit}
use Rattle.vk_sites.specs.Calls.{CallText, calls_in, calls_in_all, calls_in_optional, calls_of, calls_of_all, calls_of_simd, goes_on, skips}
use Rattle.vk_compose.proofs.Chains.{Every}

abbrev pub IsFunctionCall : CallText → Type 0
IsFunctionCall c = is_function (meaning_of c.scope c.callee) ≡ true

both : (xs ys : List CallText) → Every IsFunctionCall xs → Every IsFunctionCall ys → Every IsFunctionCall (xs ++ ys)
both [] ys h k = k
both (x ∷ xs) ys h k = (h.0, both xs ys h.1 k)

-- an expression that is visited has a type
abbrev pub IsTypedVisit : Visit → Type 0
IsTypedVisit (expression a scope r e) = is_typed (typing_of scope e) ≡ true
IsTypedVisit _ = Unit {0}

-- a call has a type only where it is of a function
called_if : (m : Option Meaning) (n : ℕ) (b : Bool) → is_typed (cond (b && is_callable m n) (called_typing m) Untyped) ≡ true → is_function m ≡ true
called_if (Some (a_function result params lane)) n b h = refl
called_if (Some (a_variable t fixed)) n true h = cc
called_if (Some (a_variable t fixed)) n false h = cc
called_if (Some (an_object t is_array fixed)) n true h = cc
called_if (Some (an_object t is_array fixed)) n false h = cc
called_if None n true h = cc
called_if None n false h = cc

called_is : (m : Option Meaning) (ts : List Typing) → is_typed (call_typing m ts) ≡ true → is_function m ≡ true
called_is m ts h = called_if m (length ts) (are_arguments (wanted_types m) ts) h

abbrev All : List Visit → Type 0
All vs = AllByRecursion IsTypedVisit vs

left : (xs ys : List Visit) → All (xs ++ ys) → All xs
left xs ys h = front IsTypedVisit xs ys h

right : (xs ys : List Visit) → All (xs ++ ys) → All ys
right xs ys h = back IsTypedVisit xs ys h

-- what stands in an expression that has a role
inner : (a : Around) (scope : Scope) (r : Role) (e : Tree) (parts : List Visit) → All (with_role a scope r e parts) → All parts
inner a scope r e parts h = left parts (expression a scope r e ∷ []) h

own : (a : Around) (scope : Scope) (r : Role) (e : Tree) (parts : List Visit) → All (with_role a scope r e parts) → is_typed (typing_of scope e) ≡ true
own a scope r e parts h = (right parts (expression a scope r e ∷ []) h).0

mutual
  in_tree : (a : Around) (scope : Scope) (b addressed : Bool) (e : Tree) → is_typed (typing_of scope e) ≡ true → All (parts_of a scope addressed e) → Every IsFunctionCall (calls_in scope b e)
  in_tree a scope b addressed (int l k ty n) t h = tt
  in_tree a scope b addressed (name l k id) t h = tt
  in_tree a scope b addressed (index l k base subscript) t h =
      let x = with_role a scope (role.Base (not addressed && is_zero subscript)) base (parts_of a scope false base) in
      let y = with_role a scope role.Value subscript (parts_of a scope false subscript) in
      both (calls_in scope b base) (calls_in scope b subscript)
      (in_tree a scope b false base (own a scope (role.Base (not addressed && is_zero subscript)) base (parts_of a scope false base) (left x y h)) (inner a scope (role.Base (not addressed && is_zero subscript)) base (parts_of a scope false base) (left x y h)))
      (in_tree a scope b false subscript (own a scope role.Value subscript (parts_of a scope false subscript) (right x y h)) (inner a scope role.Value subscript (parts_of a scope false subscript) (right x y h)))
  in_tree a scope b addressed (deref l k operand) t h = in_tree a scope b false operand (own a scope (role.Base (not addressed)) operand (parts_of a scope false operand) h) (inner a scope (role.Base (not addressed)) operand (parts_of a scope false operand) h)
  in_tree a scope b addressed (addr l k operand) t h = in_tree a scope b true operand (own a scope role.Address operand (parts_of a scope true operand) h) (inner a scope role.Address operand (parts_of a scope true operand) h)
  in_tree a scope b addressed (unary l k op operand) t h = in_tree a scope b false operand (own a scope role.Value operand (parts_of a scope false operand) h) (inner a scope role.Value operand (parts_of a scope false operand) h)
  in_tree a scope b addressed (binary l k op l_ r_) t h =
      let roles = expression a scope (left_role op (typing_of scope l_) (typing_of scope r_)) l_ ∷ expression a scope (right_role op (typing_of scope l_) (typing_of scope r_)) r_ ∷ [] in
      both (calls_in scope b l_) (calls_in scope (b && not (skips op)) r_)
      (in_tree a scope b false l_ (right (parts_of a scope false r_) roles (right (parts_of a scope false l_) (parts_of a scope false r_ ++ roles) h)).0 (left (parts_of a scope false l_) (parts_of a scope false r_ ++ roles) h))
      (in_tree a scope (b && not (skips op)) false r_ (right (parts_of a scope false r_) roles (right (parts_of a scope false l_) (parts_of a scope false r_ ++ roles) h)).1.0 (left (parts_of a scope false r_) roles (right (parts_of a scope false l_) (parts_of a scope false r_ ++ roles) h)))
  in_tree a scope b addressed (choice l k condition first second) t h =
      let x = with_role a scope role.Value condition (parts_of a scope false condition) in
      let y = with_role a scope role.Value first (parts_of a scope false first) in
      let z = with_role a scope role.Value second (parts_of a scope false second) in
      both (calls_in scope b condition) (calls_in scope false first ++ calls_in scope false second)
      (in_tree a scope b false condition (own a scope role.Value condition (parts_of a scope false condition) (left x (y ++ z) h)) (inner a scope role.Value condition (parts_of a scope false condition) (left x (y ++ z) h)))
      (both (calls_in scope false first) (calls_in scope false second)
      (in_tree a scope false false first (own a scope role.Value first (parts_of a scope false first) (left y z (right x (y ++ z) h))) (inner a scope role.Value first (parts_of a scope false first) (left y z (right x (y ++ z) h))))
      (in_tree a scope false false second (own a scope role.Value second (parts_of a scope false second) (right y z (right x (y ++ z) h))) (inner a scope role.Value second (parts_of a scope false second) (right y z (right x (y ++ z) h)))))
  in_tree a scope b addressed (cast l k ty operand) t h = in_tree a scope b false operand (own a scope role.Value operand (parts_of a scope false operand) h) (inner a scope role.Value operand (parts_of a scope false operand) h)
  in_tree a scope b addressed (call l k id arguments) t h =
      let x = argument_visits a scope (wanted_types (meaning_of scope id)) arguments in
      let y = called a scope l k id arguments ∷ [] in
      (called_is (meaning_of scope id) (typings_of scope arguments) t, in_trees a scope b (wanted_types (meaning_of scope id)) arguments (left x y h))

  in_trees : (a : Around) (scope : Scope) (b : Bool) (ts : List CType) (es : Trees) → All (argument_visits a scope ts es) → Every IsFunctionCall (calls_in_all scope b es)
  in_trees a scope b ts no_trees h = tt
  in_trees a scope b [] (more_trees e es) h =
      let x = with_role a scope (role.Argument None) e (parts_of a scope false e) in
      both (calls_in scope b e) (calls_in_all scope b es) (in_tree a scope b false e (own a scope (role.Argument None) e (parts_of a scope false e) (left x (argument_visits a scope [] es) h)) (inner a scope (role.Argument None) e (parts_of a scope false e) (left x (argument_visits a scope [] es) h)))
      (in_trees a scope b [] es (right x (argument_visits a scope [] es) h))
  in_trees a scope b (t ∷ ts) (more_trees e es) h =
      let x = with_role a scope (role.Argument (Some t)) e (parts_of a scope false e) in
      both (calls_in scope b e) (calls_in_all scope b es) (in_tree a scope b false e (own a scope (role.Argument (Some t)) e (parts_of a scope false e) (left x (argument_visits a scope ts es) h)) (inner a scope (role.Argument (Some t)) e (parts_of a scope false e) (left x (argument_visits a scope ts es) h)))
      (in_trees a scope b ts es (right x (argument_visits a scope ts es) h))

in_role : (a : Around) (scope : Scope) (b : Bool) (r : Role) (e : Tree) → All (visits_of a scope r e) → Every IsFunctionCall (calls_in scope b e)
in_role a scope b r e h = in_tree a scope b false e (own a scope r e (parts_of a scope false e) h) (inner a scope r e (parts_of a scope false e) h)

in_optional : (a : Around) (scope : Scope) (b : Bool) (e : Option Tree) → All (optional_visits a scope e) → Every IsFunctionCall (calls_in_optional scope b e)
in_optional a scope b None h = tt
in_optional a scope b (Some e) h = in_role a scope b role.Value e h

mutual
  pub in_stmt : (a : Around) (p : Point) (b : Bool) (s : StmtTree) → All (stmt_visits a p.scope p.shares s) → Every IsFunctionCall (calls_of p b s)
  in_stmt a p b (empty l k) h = tt
  in_stmt a p b (block l k ss) h = in_stmts a (block_scope p.shares p.scope) p.loops b ss h.1
  in_stmt a p b (local l k t fixed id init) h = in_optional a (with_binding p.scope id (Int t) fixed) b init h.1
  in_stmt a p b (assign l k op place e) h =
      let x = visits_of a p.scope role.Place place in
      let y = visits_of a p.scope role.Value e in
      both (calls_in p.scope b place) (calls_in p.scope b e) (in_role a p.scope b role.Place place (left x y h.1)) (in_role a p.scope b role.Value e (right x y h.1))
  in_stmt a p b (value l k e) h = in_role a p.scope b role.Whole e h.1
  in_stmt a p b (if_only l k test first) h =
      let x = visits_of a p.scope role.Value test in
      let y = stmt_visits a (inside p.scope) false first in
      both (calls_in p.scope b test) (calls_of (branch_point p) false first) (in_role a p.scope b role.Value test (left x y h.1)) (in_stmt a (branch_point p) false first (right x y h.1))
  in_stmt a p b (if_else l k test first second) h =
      let x = visits_of a p.scope role.Value test in
      let y = stmt_visits a (inside p.scope) false first in
      let z = stmt_visits a (inside p.scope) false second in
      both (calls_in p.scope b test) (calls_of (branch_point p) false first ++ calls_of (branch_point (past (loops_in first) p)) false second) (in_role a p.scope b role.Value test (left x (y ++ z) h.1))
      (both (calls_of (branch_point p) false first) (calls_of (branch_point (past (loops_in first) p)) false second)
      (in_stmt a (branch_point p) false first (left y z (right x (y ++ z) h.1))) (in_stmt a (branch_point (past (loops_in first) p)) false second (right y z (right x (y ++ z) h.1))))
  in_stmt a p b (while_loop l k test body) h =
      let x = visits_of a p.scope role.Value test in
      let y = stmt_visits (in_loop a) (inside p.scope) false body in
      both (calls_in p.scope false test) (calls_of (branch_point p) false body) (in_role a p.scope false role.Value test (left x y h.1)) (in_stmt (in_loop a) (branch_point p) false body (right x y h.1))
  in_stmt a p b (do_loop l k body test) h =
      let x = stmt_visits (in_loop a) (inside p.scope) false body in
      let y = visits_of a p.scope role.Value test in
      both (calls_of (branch_point p) false body) (calls_in p.scope false test) (in_stmt (in_loop a) (branch_point p) false body (left x y h.1)) (in_role a p.scope false role.Value test (right x y h.1))
  in_stmt a p b (for_loop l k first test third body) h =
      let q : Point = head_point p in
      let n : Point = behind q first in
      let x = stmt_visits a (inside p.scope) true first in
      let y = optional_visits a (after true (inside p.scope) first) test in
      let z = stmt_visits a (after true (inside p.scope) first) false third in
      let w = stmt_visits (in_loop a) (inside (after true (inside p.scope) first)) false body in
      both (calls_of q false first) (calls_in_optional n.scope false test ++ (calls_of n false third ++ calls_of (branch_point n) false body)) (in_stmt a q false first (left x (y ++ (z ++ w)) h.1))
      (both (calls_in_optional n.scope false test) (calls_of n false third ++ calls_of (branch_point n) false body) (in_optional a n.scope false test (left y (z ++ w) (right x (y ++ (z ++ w)) h.1)))
      (both (calls_of n false third) (calls_of (branch_point n) false body) (in_stmt a n false third (left z w (right y (z ++ w) (right x (y ++ (z ++ w)) h.1))))
      (in_stmt (in_loop a) (branch_point n) false body (right z w (right y (z ++ w) (right x (y ++ (z ++ w)) h.1))))))
  in_stmt a p b (break_loop l k) h = tt
  in_stmt a p b (continue_loop l k) h = tt
  in_stmt a p b (return_value l k e) h = in_optional a p.scope b e h.1
  in_stmt a p b (simd l k d body) h = in_simd a (branch_point (past 1 p)) body h.1
  in_stmt a p b (lost l k d) h = tt

  in_stmts : (a : Around) (scope : Scope) (n : ℕ) (b : Bool) (ss : StmtTrees) → All (all_visits a scope ss) → Every IsFunctionCall (calls_of_all (record { scope = scope; shares = false; loops = n }) b ss)
  in_stmts a scope n b no_stmts h = tt
  in_stmts a scope n b (more_stmts s ss) h =
      let p : Point = record { scope = scope; shares = false; loops = n } in
      let x = stmt_visits a scope false s in
      let y = all_visits a (after false scope s) ss in
      both (calls_of p b s) (calls_of_all (behind p s) (goes_on b s) ss) (in_stmt a p b s (left x y h)) (in_stmts a (after false scope s) (n + loops_in s) (goes_on b s) ss (right x y h))

  in_simd : (a : Around) (p : Point) (s : StmtTree) → All (stmt_visits a p.scope false s) → Every IsFunctionCall (calls_of_simd p s)
  in_simd a p (for_loop l k first test third body) h =
      let q : Point = head_point p in
      let n : Point = behind q first in
      let x = stmt_visits a (inside p.scope) true first in
      let y = optional_visits a (after true (inside p.scope) first) test in
      let z = stmt_visits a (after true (inside p.scope) first) false third in
      let w = stmt_visits (in_loop a) (inside (after true (inside p.scope) first)) false body in
      both (calls_of q false first) (calls_in_optional n.scope false test ++ calls_of n false third) (in_stmt a q false first (left x (y ++ (z ++ w)) h.1))
      (both (calls_in_optional n.scope false test) (calls_of n false third) (in_optional a n.scope false test (left y (z ++ w) (right x (y ++ (z ++ w)) h.1)))
      (in_stmt a n false third (left z w (right y (z ++ w) (right x (y ++ (z ++ w)) h.1)))))
  in_simd a p _ h = tt

-- ---- the body of a definition

-- each expression that the rules visit in the unit has a type
abbrev pub AreTyped : Subject → Type 0
AreTyped v = (a : Around) (scope : Scope) (r : Role) (e : Tree) → Contains (unit_visits v.texts v.items) (expression a scope r e) → is_typed (typing_of scope e) ≡ true

typed_visit : (v : Subject) → AreTyped v → (x : Visit) → Contains (unit_visits v.texts v.items) x → IsTypedVisit x
typed_visit v typed (expression a scope r e) h = typed a scope r e h
typed_visit v typed _ h = tt

at_item : (part : List ItemTree → ItemTree → List Visit) (outer xs : List ItemTree) (x : ItemTree) (ys : List ItemTree) → All (along part outer (xs ++ x ∷ ys)) → All (part (outer ++ xs) x)
at_item part outer [] x ys q = subst (λ (zs : List ItemTree). All (part zs x)) (sym (append-nil outer)) (left (part outer x) (along part (outer ++ x ∷ []) ys) q)
at_item part outer (y ∷ xs) x ys q =
    subst (λ (zs : List ItemTree). All (part zs x)) (append_assoc outer (y ∷ []) xs)
    (at_item part (outer ++ y ∷ []) xs x ys (right (part outer y) (along part (outer ++ y ∷ []) (xs ++ x ∷ ys)) q))

-- THE CALLS: each called name in a body means a function where it is called
pub calls_mean_functions : (v : Subject) → AreTyped v → (text : List ℕ) (d : Definition) → definition_in text v ≡ Some d → Every IsFunctionCall (body_calls d)
calls_mean_functions v typed text d e = in_stmt (around_body (f.before ++ function d.function ∷ []) d.function) (first_point d) true d.body body
  where
    f : IsDefinedIn text v d
    f = defined_in_unit text v d e

    visits : All (item_visits v.texts f.before (function d.function))
    visits = at_item (item_visits v.texts) [] f.before (function d.function) f.behind
        (subst (λ (xs : List ItemTree). All (along (item_visits v.texts) [] xs)) f.split (at_all IsTypedVisit (unit_visits v.texts v.items) (typed_visit v typed)))

    of_function : All (function_part v.texts f.before (function d.function))
    of_function = right (directives_part f.before (function d.function)) (function_part v.texts f.before (function d.function)) visits.1

    of_body : All (body_visits (around_body (f.before ++ function d.function ∷ []) d.function) (with_params (file_scope v.texts (f.before ++ function d.function ∷ [])) d.function.params) d.function.body)
    of_body = right (parameter_visits (file_scope v.texts (f.before ++ function d.function ∷ [])) 0 d.function.params) _ of_function

    body : All (stmt_visits (around_body (f.before ++ function d.function ∷ []) d.function) (first_point d).scope true d.body)
    body =
        subst (λ (u : Subject). All (stmt_visits (around_body (f.before ++ function d.function ∷ []) d.function) (with_params (file_scope u.texts d.items) d.function.params) true d.body)) (sym f.unit_is)
        (subst (λ (xs : List ItemTree). All (stmt_visits (around_body (f.before ++ function d.function ∷ []) d.function) (with_params (file_scope v.texts xs) d.function.params) true d.body)) (sym f.items_are)
        (subst (λ (b : Option StmtTree). All (body_visits (around_body (f.before ++ function d.function ∷ []) d.function) (with_params (file_scope v.texts (f.before ++ function d.function ∷ [])) d.function.params) b)) f.body_is of_body))
