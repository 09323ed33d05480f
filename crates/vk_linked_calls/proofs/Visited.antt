-- What the visits of calls say of all calls in a text.
use Rattle.std.proofs.Common.{◌≡◌, ℕ, ◌+◌, Bool, true, false, not, ◌&&◌, List, [], ◌∷◌, ◌++◌, Option, Some, None}
use Rattle.std.specs.List.{AllByRecursion}
use Rattle.vk_kinds.specs.declared.heads.CType.{CType}
use Rattle.vk_kinds.specs.declared.heads.CType.TheVariants.{Int}
use Rattle.vk_ast.specs.Tree.{Tree, Trees, int, name, index, deref, addr, unary, binary, choice, cast, call, no_trees, more_trees}
use Rattle.vk_ast.specs.Statements.{StmtTree, StmtTrees, empty, block, local, assign, value, if_only, if_else, while_loop, do_loop, for_loop, break_loop, continue_loop, return_value, simd, lost, no_stmts, more_stmts}
use Rattle.vk_rules_book.specs.declared.contexts.Around.{Around}
use Rattle.vk_rules_book.specs.declared.contexts.Role.TheVariants as role
use Rattle.vk_rules_book.specs.declared.contexts.Role.{Role}
use Rattle.vk_rules_book.specs.Scopes.{Scope, inside, meaning_of, with_binding}
use Rattle.vk_rules_book.specs.Typings.{left_role, right_role, typing_of, wanted_types}
use Rattle.vk_rules_book.specs.Visits.{Visit, after, all_visits, argument_visits, block_scope, called, expression, in_loop, is_zero, optional_visits, parts_of, stmt_visits, visits_of, with_role}
use Rattle.vk_rules_laws.proofs.Each.{back, front}
use Rattle.vk_meaning.specs.Points.{Point, past, branch_point, head_point, behind, loops_in}
use Rattle.vk_sites.specs.Calls.{CallText, calls_in, calls_in_all, calls_in_optional, calls_of, calls_of_all, calls_of_simd, goes_on, skips}
use Rattle.vk_compose.proofs.Chains.{Every}
use Rattle.vk_ast.specs.declared.names.NameId.{NameId}
use Rattle.vk_rules_book.specs.Expressions.{is_simd}

-- What a visit says of each call, where the expressions and statements of a function with directives are visited.
module _ (IsFine : Visit → Type 0) (IsRight : CallText → Type 0)
    (at_call : (a : Around) → is_simd a ≡ true → (scope : Scope) (b : Bool) (l k : ℕ) (id : NameId) (es : Trees) → IsFine (called a scope l k id es) → IsRight (record { scope = scope; always = b; callee = id; arguments = es })) where
  both : (xs ys : List CallText) → Every IsRight xs → Every IsRight ys → Every IsRight (xs ++ ys)
  both [] ys h k = k
  both (x ∷ xs) ys h k = (h.0, both xs ys h.1 k)

  abbrev All : List Visit → Type 0
  All vs = AllByRecursion IsFine vs

  left : (xs ys : List Visit) → All (xs ++ ys) → All xs
  left xs ys h = front IsFine xs ys h

  right : (xs ys : List Visit) → All (xs ++ ys) → All ys
  right xs ys h = back IsFine xs ys h

  inner : (a : Around) (scope : Scope) (r : Role) (e : Tree) (parts : List Visit) → All (with_role a scope r e parts) → All parts
  inner a scope r e parts h = left parts (expression a scope r e ∷ []) h

  mutual
    in_tree : (a : Around) (lined : is_simd a ≡ true) (scope : Scope) (b addressed : Bool) (e : Tree) → All (parts_of a scope addressed e) → Every IsRight (calls_in scope b e)
    in_tree a lined scope b addressed (int l k ty n) h = tt
    in_tree a lined scope b addressed (name l k id) h = tt
    in_tree a lined scope b addressed (index l k base subscript) h =
        let x = with_role a scope (role.Base (not addressed && is_zero subscript)) base (parts_of a scope false base) in
        let y = with_role a scope role.Value subscript (parts_of a scope false subscript) in
        both (calls_in scope b base) (calls_in scope b subscript)
        (in_tree a lined scope b false base (inner a scope (role.Base (not addressed && is_zero subscript)) base (parts_of a scope false base) (left x y h)))
        (in_tree a lined scope b false subscript (inner a scope role.Value subscript (parts_of a scope false subscript) (right x y h)))
    in_tree a lined scope b addressed (deref l k operand) h = in_tree a lined scope b false operand (inner a scope (role.Base (not addressed)) operand (parts_of a scope false operand) h)
    in_tree a lined scope b addressed (addr l k operand) h = in_tree a lined scope b true operand (inner a scope role.Address operand (parts_of a scope true operand) h)
    in_tree a lined scope b addressed (unary l k op operand) h = in_tree a lined scope b false operand (inner a scope role.Value operand (parts_of a scope false operand) h)
    in_tree a lined scope b addressed (binary l k op l_ r_) h =
        let roles = expression a scope (left_role op (typing_of scope l_) (typing_of scope r_)) l_ ∷ expression a scope (right_role op (typing_of scope l_) (typing_of scope r_)) r_ ∷ [] in
        both (calls_in scope b l_) (calls_in scope (b && not (skips op)) r_)
        (in_tree a lined scope b false l_ (left (parts_of a scope false l_) (parts_of a scope false r_ ++ roles) h))
        (in_tree a lined scope (b && not (skips op)) false r_ (left (parts_of a scope false r_) roles (right (parts_of a scope false l_) (parts_of a scope false r_ ++ roles) h)))
    in_tree a lined scope b addressed (choice l k condition first second) h =
        let x = with_role a scope role.Value condition (parts_of a scope false condition) in
        let y = with_role a scope role.Value first (parts_of a scope false first) in
        let z = with_role a scope role.Value second (parts_of a scope false second) in
        both (calls_in scope b condition) (calls_in scope false first ++ calls_in scope false second)
        (in_tree a lined scope b false condition (inner a scope role.Value condition (parts_of a scope false condition) (left x (y ++ z) h)))
        (both (calls_in scope false first) (calls_in scope false second)
        (in_tree a lined scope false false first (inner a scope role.Value first (parts_of a scope false first) (left y z (right x (y ++ z) h))))
        (in_tree a lined scope false false second (inner a scope role.Value second (parts_of a scope false second) (right y z (right x (y ++ z) h)))))
    in_tree a lined scope b addressed (cast l k ty operand) h = in_tree a lined scope b false operand (inner a scope role.Value operand (parts_of a scope false operand) h)
    in_tree a lined scope b addressed (call l k id arguments) h =
        let x = argument_visits a scope (wanted_types (meaning_of scope id)) arguments in
        let y = called a scope l k id arguments ∷ [] in
        (at_call a lined scope b l k id arguments (right x y h).0, in_trees a lined scope b (wanted_types (meaning_of scope id)) arguments (left x y h))

    in_trees : (a : Around) (lined : is_simd a ≡ true) (scope : Scope) (b : Bool) (ts : List CType) (es : Trees) → All (argument_visits a scope ts es) → Every IsRight (calls_in_all scope b es)
    in_trees a lined scope b ts no_trees h = tt
    in_trees a lined scope b [] (more_trees e es) h =
        let x = with_role a scope (role.Argument None) e (parts_of a scope false e) in
        both (calls_in scope b e) (calls_in_all scope b es) (in_tree a lined scope b false e (inner a scope (role.Argument None) e (parts_of a scope false e) (left x (argument_visits a scope [] es) h)))
        (in_trees a lined scope b [] es (right x (argument_visits a scope [] es) h))
    in_trees a lined scope b (t ∷ ts) (more_trees e es) h =
        let x = with_role a scope (role.Argument (Some t)) e (parts_of a scope false e) in
        both (calls_in scope b e) (calls_in_all scope b es) (in_tree a lined scope b false e (inner a scope (role.Argument (Some t)) e (parts_of a scope false e) (left x (argument_visits a scope ts es) h)))
        (in_trees a lined scope b ts es (right x (argument_visits a scope ts es) h))

  in_role : (a : Around) (lined : is_simd a ≡ true) (scope : Scope) (b : Bool) (r : Role) (e : Tree) → All (visits_of a scope r e) → Every IsRight (calls_in scope b e)
  in_role a lined scope b r e h = in_tree a lined scope b false e (inner a scope r e (parts_of a scope false e) h)

  in_optional : (a : Around) (lined : is_simd a ≡ true) (scope : Scope) (b : Bool) (e : Option Tree) → All (optional_visits a scope e) → Every IsRight (calls_in_optional scope b e)
  in_optional a lined scope b None h = tt
  in_optional a lined scope b (Some e) h = in_role a lined scope b role.Value e h

  mutual
    pub in_stmt : (a : Around) (lined : is_simd a ≡ true) (p : Point) (b : Bool) (s : StmtTree) → All (stmt_visits a p.scope p.shares s) → Every IsRight (calls_of p b s)
    in_stmt a lined p b (empty l k) h = tt
    in_stmt a lined p b (block l k ss) h = in_stmts a lined (block_scope p.shares p.scope) p.loops b ss h.1
    in_stmt a lined p b (local l k t fixed id init) h = in_optional a lined (with_binding p.scope id (Int t) fixed) b init h.1
    in_stmt a lined p b (assign l k op place e) h =
        let x = visits_of a p.scope role.Place place in
        let y = visits_of a p.scope role.Value e in
        both (calls_in p.scope b place) (calls_in p.scope b e) (in_role a lined p.scope b role.Place place (left x y h.1)) (in_role a lined p.scope b role.Value e (right x y h.1))
    in_stmt a lined p b (value l k e) h = in_role a lined p.scope b role.Whole e h.1
    in_stmt a lined p b (if_only l k test first) h =
        let x = visits_of a p.scope role.Value test in
        let y = stmt_visits a (inside p.scope) false first in
        both (calls_in p.scope b test) (calls_of (branch_point p) false first) (in_role a lined p.scope b role.Value test (left x y h.1)) (in_stmt a lined (branch_point p) false first (right x y h.1))
    in_stmt a lined p b (if_else l k test first second) h =
        let x = visits_of a p.scope role.Value test in
        let y = stmt_visits a (inside p.scope) false first in
        let z = stmt_visits a (inside p.scope) false second in
        both (calls_in p.scope b test) (calls_of (branch_point p) false first ++ calls_of (branch_point (past (loops_in first) p)) false second) (in_role a lined p.scope b role.Value test (left x (y ++ z) h.1))
        (both (calls_of (branch_point p) false first) (calls_of (branch_point (past (loops_in first) p)) false second)
        (in_stmt a lined (branch_point p) false first (left y z (right x (y ++ z) h.1))) (in_stmt a lined (branch_point (past (loops_in first) p)) false second (right y z (right x (y ++ z) h.1))))
    in_stmt a lined p b (while_loop l k test body) h =
        let x = visits_of a p.scope role.Value test in
        let y = stmt_visits (in_loop a) (inside p.scope) false body in
        both (calls_in p.scope false test) (calls_of (branch_point p) false body) (in_role a lined p.scope false role.Value test (left x y h.1)) (in_stmt (in_loop a) lined (branch_point p) false body (right x y h.1))
    in_stmt a lined p b (do_loop l k body test) h =
        let x = stmt_visits (in_loop a) (inside p.scope) false body in
        let y = visits_of a p.scope role.Value test in
        both (calls_of (branch_point p) false body) (calls_in p.scope false test) (in_stmt (in_loop a) lined (branch_point p) false body (left x y h.1)) (in_role a lined p.scope false role.Value test (right x y h.1))
    in_stmt a lined p b (for_loop l k first test third body) h =
        let q : Point = head_point p in
        let n : Point = behind q first in
        let x = stmt_visits a (inside p.scope) true first in
        let y = optional_visits a (after true (inside p.scope) first) test in
        let z = stmt_visits a (after true (inside p.scope) first) false third in
        let w = stmt_visits (in_loop a) (inside (after true (inside p.scope) first)) false body in
        both (calls_of q false first) (calls_in_optional n.scope false test ++ (calls_of n false third ++ calls_of (branch_point n) false body)) (in_stmt a lined q false first (left x (y ++ (z ++ w)) h.1))
        (both (calls_in_optional n.scope false test) (calls_of n false third ++ calls_of (branch_point n) false body) (in_optional a lined n.scope false test (left y (z ++ w) (right x (y ++ (z ++ w)) h.1)))
        (both (calls_of n false third) (calls_of (branch_point n) false body) (in_stmt a lined n false third (left z w (right y (z ++ w) (right x (y ++ (z ++ w)) h.1))))
        (in_stmt (in_loop a) lined (branch_point n) false body (right z w (right y (z ++ w) (right x (y ++ (z ++ w)) h.1))))))
    in_stmt a lined p b (break_loop l k) h = tt
    in_stmt a lined p b (continue_loop l k) h = tt
    in_stmt a lined p b (return_value l k e) h = in_optional a lined p.scope b e h.1
    in_stmt a lined p b (simd l k d body) h = in_simd a lined (branch_point (past 1 p)) body h.1
    in_stmt a lined p b (lost l k d) h = tt

    in_stmts : (a : Around) (lined : is_simd a ≡ true) (scope : Scope) (n : ℕ) (b : Bool) (ss : StmtTrees) → All (all_visits a scope ss) → Every IsRight (calls_of_all (record { scope = scope; shares = false; loops = n }) b ss)
    in_stmts a lined scope n b no_stmts h = tt
    in_stmts a lined scope n b (more_stmts s ss) h =
        let p : Point = record { scope = scope; shares = false; loops = n } in
        let x = stmt_visits a scope false s in
        let y = all_visits a (after false scope s) ss in
        both (calls_of p b s) (calls_of_all (behind p s) (goes_on b s) ss) (in_stmt a lined p b s (left x y h)) (in_stmts a lined (after false scope s) (n + loops_in s) (goes_on b s) ss (right x y h))

    in_simd : (a : Around) (lined : is_simd a ≡ true) (p : Point) (s : StmtTree) → All (stmt_visits a p.scope false s) → Every IsRight (calls_of_simd p s)
    in_simd a lined p (for_loop l k first test third body) h =
        let q : Point = head_point p in
        let n : Point = behind q first in
        let x = stmt_visits a (inside p.scope) true first in
        let y = optional_visits a (after true (inside p.scope) first) test in
        let z = stmt_visits a (after true (inside p.scope) first) false third in
        let w = stmt_visits (in_loop a) (inside (after true (inside p.scope) first)) false body in
        both (calls_of q false first) (calls_in_optional n.scope false test ++ calls_of n false third) (in_stmt a lined q false first (left x (y ++ (z ++ w)) h.1))
        (both (calls_in_optional n.scope false test) (calls_of n false third) (in_optional a lined n.scope false test (left y (z ++ w) (right x (y ++ (z ++ w)) h.1)))
        (in_stmt a lined n false third (left z w (right y (z ++ w) (right x (y ++ (z ++ w)) h.1)))))
    in_simd a lined p _ h = tt
