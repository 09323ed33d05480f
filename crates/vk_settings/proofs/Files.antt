-- What is declared at file scope is the same at all calls of a body.
use Rattle.std.proofs.Common.{◌≡◌, Bool, true, false, not, ◌&&◌, List, [], ◌∷◌, ◌++◌, Option, Some, None, refl, ◌∙◌}
use Rattle.vk_kinds.specs.declared.heads.CType.TheVariants.{Int}
use Rattle.vk_ast.specs.declared.names.NameId.{NameId}
use Rattle.vk_ast.specs.Tree.{Tree, Trees, int, name, index, deref, addr, unary, binary, choice, cast, call, no_trees, more_trees}
use Rattle.vk_ast.specs.Statements.{StmtTree, StmtTrees, empty, block, local, assign, value, if_only, if_else, while_loop, do_loop, for_loop, break_loop, continue_loop, return_value, simd, lost, no_stmts, more_stmts}
use Rattle.vk_rules_book.specs.Scopes.{Meaning, Scope, with_binding}
use Rattle.vk_rules_book.specs.Visits.{after, after_all, block_scope}
use Rattle.vk_meaning.specs.Points.{Point, past, branch_point, head_point, block_point, behind, loops_in}
use Rattle.vk_sites.specs.Calls.{CallText, calls_in, calls_in_all, calls_in_optional, calls_of, calls_of_all, calls_of_simd, goes_on, skips}
use Rattle.vk_compose.proofs.Chains.{Every}

-- ---- scopes behind statements

block_file : (shares : Bool) (scope : Scope) → (block_scope shares scope).file ≡ scope.file
block_file true scope = refl
block_file false scope = refl

mutual
  after_file : (shares : Bool) (scope : Scope) (s : StmtTree) → (after shares scope s).file ≡ scope.file
  after_file true scope (block l k ss) = all_file scope ss
  after_file false scope (block l k ss) = refl
  after_file shares scope (local l k t fixed id init) = refl
  after_file shares scope (empty l k) = refl
  after_file shares scope (assign l k op place e) = refl
  after_file shares scope (value l k e) = refl
  after_file shares scope (if_only l k c first) = refl
  after_file shares scope (if_else l k c first second) = refl
  after_file shares scope (while_loop l k c body) = refl
  after_file shares scope (do_loop l k body c) = refl
  after_file shares scope (for_loop l k first c third body) = refl
  after_file shares scope (break_loop l k) = refl
  after_file shares scope (continue_loop l k) = refl
  after_file shares scope (return_value l k e) = refl
  after_file shares scope (simd l k d body) = refl
  after_file shares scope (lost l k d) = refl

  all_file : (scope : Scope) (ss : StmtTrees) → (after_all scope ss).file ≡ scope.file
  all_file scope no_stmts = refl
  all_file scope (more_stmts s ss) = all_file (after false scope s) ss ∙ after_file false scope s

-- ---- calls

module _ (file : NameId → Option Meaning) where
  abbrev pub HasFile : CallText → Type 0
  HasFile c = c.scope.file ≡ file

  both : (xs ys : List CallText) → Every HasFile xs → Every HasFile ys → Every HasFile (xs ++ ys)
  both [] ys h k = k
  both (x ∷ xs) ys h k = (h.0, both xs ys h.1 k)

  mutual
    in_tree : (scope : Scope) → scope.file ≡ file → (b : Bool) (e : Tree) → Every HasFile (calls_in scope b e)
    in_tree scope f b (int l k t n) = tt
    in_tree scope f b (name l k id) = tt
    in_tree scope f b (index l k base subscript) = both (calls_in scope b base) (calls_in scope b subscript) (in_tree scope f b base) (in_tree scope f b subscript)
    in_tree scope f b (deref l k operand) = in_tree scope f b operand
    in_tree scope f b (addr l k operand) = in_tree scope f b operand
    in_tree scope f b (unary l k op operand) = in_tree scope f b operand
    in_tree scope f b (binary l k op left right) =
        both (calls_in scope b left) (calls_in scope (b && not (skips op)) right) (in_tree scope f b left) (in_tree scope f (b && not (skips op)) right)
    in_tree scope f b (choice l k condition first second) =
        both (calls_in scope b condition) (calls_in scope false first ++ calls_in scope false second) (in_tree scope f b condition)
        (both (calls_in scope false first) (calls_in scope false second) (in_tree scope f false first) (in_tree scope f false second))
    in_tree scope f b (cast l k t operand) = in_tree scope f b operand
    in_tree scope f b (call l k id arguments) = (f, in_trees scope f b arguments)

    in_trees : (scope : Scope) → scope.file ≡ file → (b : Bool) (es : Trees) → Every HasFile (calls_in_all scope b es)
    in_trees scope f b no_trees = tt
    in_trees scope f b (more_trees e es) = both (calls_in scope b e) (calls_in_all scope b es) (in_tree scope f b e) (in_trees scope f b es)

  in_optional : (scope : Scope) → scope.file ≡ file → (b : Bool) (e : Option Tree) → Every HasFile (calls_in_optional scope b e)
  in_optional scope f b None = tt
  in_optional scope f b (Some e) = in_tree scope f b e

  behind_file : (p : Point) (s : StmtTree) → p.scope.file ≡ file → (behind p s).scope.file ≡ file
  behind_file p s f = after_file p.shares p.scope s ∙ f

  mutual
    pub in_stmt : (p : Point) → p.scope.file ≡ file → (b : Bool) (s : StmtTree) → Every HasFile (calls_of p b s)
    in_stmt p f b (empty l k) = tt
    in_stmt p f b (block l k ss) = in_stmts (block_point p) (block_file p.shares p.scope ∙ f) b ss
    in_stmt p f b (local l k t fixed id init) = in_optional (with_binding p.scope id (Int t) fixed) f b init
    in_stmt p f b (assign l k op place e) = both (calls_in p.scope b place) (calls_in p.scope b e) (in_tree p.scope f b place) (in_tree p.scope f b e)
    in_stmt p f b (value l k e) = in_tree p.scope f b e
    in_stmt p f b (if_only l k test first) = both (calls_in p.scope b test) (calls_of (branch_point p) false first) (in_tree p.scope f b test) (in_stmt (branch_point p) f false first)
    in_stmt p f b (if_else l k test first second) =
        both (calls_in p.scope b test) (calls_of (branch_point p) false first ++ calls_of (branch_point (past (loops_in first) p)) false second) (in_tree p.scope f b test)
        (both (calls_of (branch_point p) false first) (calls_of (branch_point (past (loops_in first) p)) false second) (in_stmt (branch_point p) f false first) (in_stmt (branch_point (past (loops_in first) p)) f false second))
    in_stmt p f b (while_loop l k test body) = both (calls_in p.scope false test) (calls_of (branch_point p) false body) (in_tree p.scope f false test) (in_stmt (branch_point p) f false body)
    in_stmt p f b (do_loop l k body test) = both (calls_of (branch_point p) false body) (calls_in p.scope false test) (in_stmt (branch_point p) f false body) (in_tree p.scope f false test)
    in_stmt p f b (for_loop l k first test third body) =
        let q : Point = head_point p in
        let n : Point = behind q first in
        let g : n.scope.file ≡ file = behind_file q first f in
        both (calls_of q false first) (calls_in_optional n.scope false test ++ (calls_of n false third ++ calls_of (branch_point n) false body)) (in_stmt q f false first)
        (both (calls_in_optional n.scope false test) (calls_of n false third ++ calls_of (branch_point n) false body) (in_optional n.scope g false test)
        (both (calls_of n false third) (calls_of (branch_point n) false body) (in_stmt n g false third) (in_stmt (branch_point n) g false body)))
    in_stmt p f b (break_loop l k) = tt
    in_stmt p f b (continue_loop l k) = tt
    in_stmt p f b (return_value l k e) = in_optional p.scope f b e
    in_stmt p f b (simd l k d body) = in_simd (branch_point (past 1 p)) f body
    in_stmt p f b (lost l k d) = tt

    in_stmts : (p : Point) → p.scope.file ≡ file → (b : Bool) (ss : StmtTrees) → Every HasFile (calls_of_all p b ss)
    in_stmts p f b no_stmts = tt
    in_stmts p f b (more_stmts s ss) = both (calls_of p b s) (calls_of_all (behind p s) (goes_on b s) ss) (in_stmt p f b s) (in_stmts (behind p s) (behind_file p s f) (goes_on b s) ss)

    in_simd : (p : Point) → p.scope.file ≡ file → (s : StmtTree) → Every HasFile (calls_of_simd p s)
    in_simd p f (for_loop l k first test third body) =
        let q : Point = head_point p in
        let n : Point = behind q first in
        let g : n.scope.file ≡ file = behind_file q first f in
        both (calls_of q false first) (calls_in_optional n.scope false test ++ calls_of n false third) (in_stmt q f false first)
        (both (calls_in_optional n.scope false test) (calls_of n false third) (in_optional n.scope g false test) (in_stmt n g false third))
    in_simd p f _ = tt
