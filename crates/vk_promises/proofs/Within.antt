-- The objects of a simd loop's body are objects of the text that it stands in.
use Rattle.std.proofs.Common.{ℕ, List, [], ◌∷◌, ◌++◌, Option, Contains}
use Rattle.std.proofs.lemmas.List.Elements.{Contains-append_left, Contains-append_right}
use Rattle.vk_ast.specs.declared.names.NameId.{NameId}
use Rattle.vk_ast.specs.Statements.{StmtTree, empty, block, local, assign, value, if_only, if_else, while_loop, do_loop, for_loop, break_loop, continue_loop, return_value, simd, lost, StmtTrees, no_stmts, more_stmts}
use Rattle.vk_rules_book.specs.Signatures.{simdlen_in}
use Rattle.vk_meaning.specs.Points.{Point, past, branch_point, head_point, block_point, behind, loops_in}
use Rattle.vk_sites.specs.Loops.{LoopText, loops_of, loops_of_all, loops_of_simd}
use Rattle.vk_sites.specs.Objects.{objects_in, objects_in_optional, objects_of, objects_of_all, objects_of_simd}
use Rattle.vk_compose.proofs.Chains.{Every}

-- the loop's body names only these
abbrev pub Within : List NameId → LoopText → Type 0
Within xs l = (id : NameId) → Contains (objects_of l.inside l.body) id → Contains xs id

more_left : (xs ys : List NameId) (ls : List LoopText) → Every (Within xs) ls → Every (Within (xs ++ ys)) ls
more_left xs ys [] h = tt
more_left xs ys (l ∷ ls) h = (λ id k. Contains-append_left xs ys id (h.0 id k), more_left xs ys ls h.1)

more_right : (xs ys : List NameId) (ls : List LoopText) → Every (Within ys) ls → Every (Within (xs ++ ys)) ls
more_right xs ys [] h = tt
more_right xs ys (l ∷ ls) h = (λ id k. Contains-append_right xs ys id (h.0 id k), more_right xs ys ls h.1)

every_both : (xs : List NameId) (ls ms : List LoopText) → Every (Within xs) ls → Every (Within xs) ms → Every (Within xs) (ls ++ ms)
every_both xs [] ms h k = k
every_both xs (l ∷ ls) ms h k = (h.0, every_both xs ls ms h.1 k)

-- the parts of a `for`
in_for : (first test third body : List NameId) (ls ms ns : List LoopText) → Every (Within first) ls → Every (Within third) ms → Every (Within body) ns →
    Every (Within (first ++ (test ++ (third ++ body)))) (ls ++ (ms ++ ns))
in_for first test third body ls ms ns h k m =
    every_both (first ++ (test ++ (third ++ body))) ls (ms ++ ns) (more_left first (test ++ (third ++ body)) ls h)
    (more_right first (test ++ (third ++ body)) (ms ++ ns) (more_right test (third ++ body) (ms ++ ns)
    (every_both (third ++ body) ms ns (more_left third body ms k) (more_right third body ns m))))

mutual
  pub inside_of : (p : Point) (s : StmtTree) → Every (Within (objects_of p s)) (loops_of p s)
  inside_of p (empty l k) = tt
  inside_of p (block l k ss) = inside_all (block_point p) ss
  inside_of p (local l k t fixed id init) = tt
  inside_of p (assign l k op place e) = tt
  inside_of p (value l k e) = tt
  inside_of p (if_only l k test first) =
      more_right (objects_in p.scope test) (objects_of (branch_point p) first) (loops_of (branch_point p) first) (inside_of (branch_point p) first)
  inside_of p (if_else l k test first second) =
      let q : Point = branch_point p in
      let r : Point = branch_point (past (loops_in first) p) in
      more_right (objects_in p.scope test) (objects_of q first ++ objects_of r second) (loops_of q first ++ loops_of r second)
      (every_both (objects_of q first ++ objects_of r second) (loops_of q first) (loops_of r second)
      (more_left (objects_of q first) (objects_of r second) (loops_of q first) (inside_of q first))
      (more_right (objects_of q first) (objects_of r second) (loops_of r second) (inside_of r second)))
  inside_of p (while_loop l k test body) =
      more_right (objects_in p.scope test) (objects_of (branch_point p) body) (loops_of (branch_point p) body) (inside_of (branch_point p) body)
  inside_of p (do_loop l k body test) =
      more_left (objects_of (branch_point p) body) (objects_in p.scope test) (loops_of (branch_point p) body) (inside_of (branch_point p) body)
  inside_of p (for_loop l k first test third body) =
      let q : Point = head_point p in
      let n : Point = behind q first in
      let i : Point = branch_point n in
      in_for (objects_of q first) (objects_in_optional n.scope test) (objects_of n third) (objects_of i body)
      (loops_of q first) (loops_of n third) (loops_of i body) (inside_of q first) (inside_of n third) (inside_of i body)
  inside_of p (break_loop l k) = tt
  inside_of p (continue_loop l k) = tt
  inside_of p (return_value l k e) = tt
  inside_of p (simd l k d body) = inside_simd (branch_point (past 1 p)) (simdlen_in d.clauses) body
  inside_of p (lost l k d) = tt

  inside_all : (p : Point) (ss : StmtTrees) → Every (Within (objects_of_all p ss)) (loops_of_all p ss)
  inside_all p no_stmts = tt
  inside_all p (more_stmts s ss) =
      every_both (objects_of p s ++ objects_of_all (behind p s) ss) (loops_of p s) (loops_of_all (behind p s) ss)
      (more_left (objects_of p s) (objects_of_all (behind p s) ss) (loops_of p s) (inside_of p s))
      (more_right (objects_of p s) (objects_of_all (behind p s) ss) (loops_of_all (behind p s) ss) (inside_all (behind p s) ss))

  inside_simd : (p : Point) (n : Option ℕ) (s : StmtTree) → Every (Within (objects_of_simd p s)) (loops_of_simd p n s)
  inside_simd p simdlen (for_loop l k first test third body) =
      let q : Point = head_point p in
      let n : Point = behind q first in
      let i : Point = branch_point n in (
        (λ id h. Contains-append_right (objects_of q first) (objects_in_optional n.scope test ++ (objects_of n third ++ objects_of i body)) id
            (Contains-append_right (objects_in_optional n.scope test) (objects_of n third ++ objects_of i body) id
            (Contains-append_right (objects_of n third) (objects_of i body) id h))),
        in_for (objects_of q first) (objects_in_optional n.scope test) (objects_of n third) (objects_of i body)
            (loops_of q first) (loops_of n third) (loops_of i body) (inside_of q first) (inside_of n third) (inside_of i body),
      )
  inside_simd p simdlen _ = tt
