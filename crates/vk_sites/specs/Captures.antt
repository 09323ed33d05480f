-- The variables from outside that the body of a simd loop names.
use Rattle.std.specs.Prelude.{ℕ, ◌==◌, nat_lt, cond, List, [], ◌∷◌, ◌++◌, Option, Some, None}
use Rattle.std.specs.List.{list_any}
use Rattle.vk_kinds.specs.declared.heads.CType.TheVariants.{Int}
use Rattle.vk_ast.specs.Tree.{Tree, Trees, int, name, index, deref, addr, unary, binary, choice, cast, call, no_trees, more_trees}
use Rattle.vk_ast.specs.Statements.{StmtTree, StmtTrees, block, local, assign, value, if_only, if_else, while_loop, do_loop, for_loop, return_value, simd, no_stmts, more_stmts}
use Rattle.vk_rules_book.specs.Scopes.{Scope, with_binding}
use Rattle.vk_meaning.specs.Points.{Variable, variable_named, Point, branch_point, head_point, block_point, behind}
use Rattle.vk_sites.specs.Loops.{LoopText, variable_number}

-- a variable from outside is one of the first `outside`
abbrev pub outer_variable : (outside : ℕ) → Option Variable → List ℕ
outer_variable outside None = []
outer_variable outside (Some v) = cond (nat_lt v.number outside) (v.number ∷ []) []

module _ (outside : ℕ) where
  -- those that an expression names, in the order of the text
  abbrev mutual
    pub variables_in : Scope → Tree → List ℕ
    variables_in scope (int l k t n) = []
    variables_in scope (name l k id) = outer_variable outside (variable_named scope id)
    variables_in scope (index l k base subscript) = variables_in scope base ++ variables_in scope subscript
    variables_in scope (deref l k operand) = variables_in scope operand
    variables_in scope (addr l k operand) = variables_in scope operand
    variables_in scope (unary l k op operand) = variables_in scope operand
    variables_in scope (binary l k op left right) = variables_in scope left ++ variables_in scope right
    variables_in scope (choice l k condition first second) =
        variables_in scope condition ++ (variables_in scope first ++ variables_in scope second)
    variables_in scope (cast l k t operand) = variables_in scope operand
    variables_in scope (call l k id arguments) = variables_in_all scope arguments

    pub variables_in_all : Scope → Trees → List ℕ
    variables_in_all scope no_trees = []
    variables_in_all scope (more_trees e es) = variables_in scope e ++ variables_in_all scope es

  abbrev pub variables_in_optional : Scope → Option Tree → List ℕ
  variables_in_optional scope None = []
  variables_in_optional scope (Some e) = variables_in scope e

  -- and those of a statement
  abbrev mutual
    pub variables_of : Point → StmtTree → List ℕ
    variables_of p (block l k ss) = variables_of_all (block_point p) ss
    variables_of p (local l k t fixed id init) = variables_in_optional (with_binding p.scope id (Int t) fixed) init
    variables_of p (assign l k op place e) = variables_in p.scope place ++ variables_in p.scope e
    variables_of p (value l k e) = variables_in p.scope e
    variables_of p (if_only l k test first) = variables_in p.scope test ++ variables_of (branch_point p) first
    variables_of p (if_else l k test first second) =
        variables_in p.scope test ++ (variables_of (branch_point p) first ++ variables_of (branch_point p) second)
    variables_of p (while_loop l k test body) = variables_in p.scope test ++ variables_of (branch_point p) body
    variables_of p (do_loop l k body test) = variables_of (branch_point p) body ++ variables_in p.scope test
    variables_of p (for_loop l k first test third body) =
        variables_of (head_point p) first
        ++ (variables_in_optional (behind (head_point p) first).scope test
        ++ (variables_of (behind (head_point p) first) third ++ variables_of (branch_point (behind (head_point p) first)) body))
    variables_of p (return_value l k e) = variables_in_optional p.scope e
    variables_of p (simd l k d body) = variables_of (branch_point p) body
    variables_of p _ = []

    pub variables_of_all : Point → StmtTrees → List ℕ
    variables_of_all p no_stmts = []
    variables_of_all p (more_stmts s ss) = variables_of p s ++ variables_of_all (behind p s) ss

-- each once, in the order of first appearance
abbrev pub once_each : (seen : List ℕ) → List ℕ → List ℕ
once_each seen [] = []
once_each seen (n ∷ ns) = cond (list_any (λ m. m == n) seen) (once_each seen ns) (n ∷ once_each (n ∷ seen) ns)

-- The numbers of the variables from outside that the body of a simd loop names, in the order of first appearance; the loop's own
-- variable is none of them.
abbrev pub captures_of : LoopText → List ℕ
captures_of l = once_each [] (variables_of (variable_number l) l.inside l.body)
