-- Call chains of units that link are short, and what holds of each callee.
use Rattle.std.proofs.Common.{◌≡◌, ℕ, Bool, true, false, not, ◌&&◌, cond, List, [], ◌∷◌, ◌++◌, map, flat_map, Option, Some, None, refl, arith, ◌⊎◌, inl, inr, Contains}
use Rattle.std.proofs.lemmas.List.Elements.{Contains-append_left, Contains-append_right}
use Rattle.vk_kinds.specs.declared.heads.CType.TheVariants.{Int}
use Rattle.vk_ast.specs.declared.names.NameId.{NameId}
use Rattle.vk_ast.specs.Tree.{Tree, int, name, index, deref, addr, unary, binary, choice, cast, call, Trees, no_trees, more_trees}
use Rattle.vk_ast.specs.Statements.{StmtTree, empty, block, local, assign, value, if_only, if_else, while_loop, do_loop, for_loop, break_loop, continue_loop, return_value, simd, lost, StmtTrees, no_stmts, more_stmts}
use Rattle.vk_rules_book.specs.Rules.{Subject}
use Rattle.vk_rules_book.specs.Scopes.{Scope, text_of, is_print, with_binding}
use Rattle.vk_rules_book.specs.Signatures.{simdlen_in}
use Rattle.vk_meaning.specs.Points.{Point, past, branch_point, head_point, block_point, behind, loops_in}
use Rattle.vk_meaning.specs.Programs.{Definition, first_point}
use Rattle.vk_meaning_terms.specs.Depth.{EachCall, EachCallOf, EachCallMaybe, EachCallIn, EachCallInAll, EachCallInLoop, EachCallee}
use Rattle.vk_sites.specs.Bounds.{own_loops}
use Rattle.vk_sites.specs.Calls.{CallText, skips, calls_in, calls_in_all, calls_in_optional, calls_of, calls_of_all, calls_of_simd, goes_on}
use Rattle.vk_sites.specs.Loops.{LoopText, loops_of, loops_of_all, loops_of_simd}
use Rattle.vk_joins.specs.Codes.{own_calls}
use Rattle.vk_joins.specs.Links.{callees_in, callees_of, loop_calls, body_calls}

-- ---- what holds of each element

abbrev pub Every : {X : Type 0} → (X → Type 0) → List X → Type 0
Every P [] = Unit {0}
Every P (x ∷ xs) = P x × Every P xs

every_left : {X : Type 0} (P : X → Type 0) (xs ys : List X) → Every P (xs ++ ys) → Every P xs
every_left P [] ys h = tt
every_left P (x ∷ xs) ys h = (h.0, every_left P xs ys h.1)

every_right : {X : Type 0} (P : X → Type 0) (xs ys : List X) → Every P (xs ++ ys) → Every P ys
every_right P [] ys h = h
every_right P (x ∷ xs) ys h = every_right P xs ys h.1

-- ---- from the list of calls to the tree

abbrev pub OfSite : (NameId → Type 0) → CallText → Type 0
OfSite P c = P c.callee

mutual
  each_in : (P : NameId → Type 0) (scope : Scope) (b : Bool) (e : Tree) → Every (OfSite P) (calls_in scope b e) → EachCall P e
  each_in P scope b (int l k t n) h = tt
  each_in P scope b (name l k id) h = tt
  each_in P scope b (index l k base subscript) h = (
    each_in P scope b base (every_left (OfSite P) (calls_in scope b base) (calls_in scope b subscript) h),
    each_in P scope b subscript (every_right (OfSite P) (calls_in scope b base) (calls_in scope b subscript) h),
  )
  each_in P scope b (deref l k operand) h = each_in P scope b operand h
  each_in P scope b (addr l k operand) h = each_in P scope b operand h
  each_in P scope b (unary l k op operand) h = each_in P scope b operand h
  each_in P scope b (binary l k op left right) h = (
    each_in P scope b left (every_left (OfSite P) (calls_in scope b left) (calls_in scope (b && not (skips op)) right) h),
    each_in P scope (b && not (skips op)) right (every_right (OfSite P) (calls_in scope b left) (calls_in scope (b && not (skips op)) right) h),
  )
  each_in P scope b (choice l k condition first second) h =
      let r = every_right (OfSite P) (calls_in scope b condition) (calls_in scope false first ++ calls_in scope false second) h in (
        each_in P scope b condition (every_left (OfSite P) (calls_in scope b condition) (calls_in scope false first ++ calls_in scope false second) h),
        each_in P scope false first (every_left (OfSite P) (calls_in scope false first) (calls_in scope false second) r),
        each_in P scope false second (every_right (OfSite P) (calls_in scope false first) (calls_in scope false second) r),
      )
  each_in P scope b (cast l k t operand) h = each_in P scope b operand h
  each_in P scope b (call l k id arguments) h = (h.0, each_in_all P scope b arguments h.1)

  each_in_all : (P : NameId → Type 0) (scope : Scope) (b : Bool) (es : Trees) → Every (OfSite P) (calls_in_all scope b es) → EachCallOf P es
  each_in_all P scope b no_trees h = tt
  each_in_all P scope b (more_trees e es) h = (
    each_in P scope b e (every_left (OfSite P) (calls_in scope b e) (calls_in_all scope b es) h),
    each_in_all P scope b es (every_right (OfSite P) (calls_in scope b e) (calls_in_all scope b es) h),
  )

each_maybe : (P : NameId → Type 0) (scope : Scope) (b : Bool) (e : Option Tree) → Every (OfSite P) (calls_in_optional scope b e) → EachCallMaybe P e
each_maybe P scope b None h = tt
each_maybe P scope b (Some e) h = each_in P scope b e h

-- of each call in the body of a simd loop
abbrev pub OfLoop : (NameId → Type 0) → LoopText → Type 0
OfLoop P l = Every (OfSite P) (loop_calls l)

-- The two lists of a compound statement are those of its parts, one behind the other.
left_calls : (P : NameId → Type 0) (xs ys : List CallText) → Every (OfSite P) (xs ++ ys) → Every (OfSite P) xs
left_calls P xs ys h = every_left (OfSite P) xs ys h

right_calls : (P : NameId → Type 0) (xs ys : List CallText) → Every (OfSite P) (xs ++ ys) → Every (OfSite P) ys
right_calls P xs ys h = every_right (OfSite P) xs ys h

left_loops : (P : NameId → Type 0) (xs ys : List LoopText) → Every (OfLoop P) (xs ++ ys) → Every (OfLoop P) xs
left_loops P xs ys h = every_left (OfLoop P) xs ys h

right_loops : (P : NameId → Type 0) (xs ys : List LoopText) → Every (OfLoop P) (xs ++ ys) → Every (OfLoop P) ys
right_loops P xs ys h = every_right (OfLoop P) xs ys h

mutual
  each_of : (P : NameId → Type 0) (p : Point) (b : Bool) (s : StmtTree) → Every (OfSite P) (calls_of p b s) → Every (OfLoop P) (loops_of p s) → EachCallIn P s
  each_of P p b (empty l k) h g = tt
  each_of P p b (block l k ss) h g = each_of_all P (block_point p) b ss h g
  each_of P p b (local l k t fixed id init) h g = each_maybe P (with_binding p.scope id (Int t) fixed) b init h
  each_of P p b (assign l k op place e) h g = (
    each_in P p.scope b place (left_calls P (calls_in p.scope b place) (calls_in p.scope b e) h),
    each_in P p.scope b e (right_calls P (calls_in p.scope b place) (calls_in p.scope b e) h),
  )
  each_of P p b (value l k e) h g = each_in P p.scope b e h
  each_of P p b (if_only l k test first) h g = (
    each_in P p.scope b test (left_calls P (calls_in p.scope b test) (calls_of (branch_point p) false first) h),
    each_of P (branch_point p) false first (right_calls P (calls_in p.scope b test) (calls_of (branch_point p) false first) h) g,
  )
  each_of P p b (if_else l k test first second) h g =
      let q : Point = branch_point p in
      let q' : Point = branch_point (past (loops_in first) p) in
      let r = right_calls P (calls_in p.scope b test) (calls_of q false first ++ calls_of q' false second) h in (
        each_in P p.scope b test (left_calls P (calls_in p.scope b test) (calls_of q false first ++ calls_of q' false second) h),
        each_of P q false first (left_calls P (calls_of q false first) (calls_of q' false second) r) (left_loops P (loops_of q first) (loops_of q' second) g),
        each_of P q' false second (right_calls P (calls_of q false first) (calls_of q' false second) r) (right_loops P (loops_of q first) (loops_of q' second) g),
      )
  each_of P p b (while_loop l k test body) h g = (
    each_in P p.scope false test (left_calls P (calls_in p.scope false test) (calls_of (branch_point p) false body) h),
    each_of P (branch_point p) false body (right_calls P (calls_in p.scope false test) (calls_of (branch_point p) false body) h) g,
  )
  each_of P p b (do_loop l k body test) h g = (
    each_of P (branch_point p) false body (left_calls P (calls_of (branch_point p) false body) (calls_in p.scope false test) h) g,
    each_in P p.scope false test (right_calls P (calls_of (branch_point p) false body) (calls_in p.scope false test) h),
  )
  each_of P p b (for_loop l k first test third body) h g =
      let q : Point = head_point p in
      let n : Point = behind q first in
      let i : Point = branch_point n in
      let r = right_calls P (calls_of q false first) (calls_in_optional n.scope false test ++ (calls_of n false third ++ calls_of i false body)) h in
      let s = right_calls P (calls_in_optional n.scope false test) (calls_of n false third ++ calls_of i false body) r in
      let m = right_loops P (loops_of q first) (loops_of n third ++ loops_of i body) g in (
        each_of P q false first (left_calls P (calls_of q false first) (calls_in_optional n.scope false test ++ (calls_of n false third ++ calls_of i false body)) h)
            (left_loops P (loops_of q first) (loops_of n third ++ loops_of i body) g),
        each_maybe P n.scope false test (left_calls P (calls_in_optional n.scope false test) (calls_of n false third ++ calls_of i false body) r),
        each_of P n false third (left_calls P (calls_of n false third) (calls_of i false body) s) (left_loops P (loops_of n third) (loops_of i body) m),
        each_of P i false body (right_calls P (calls_of n false third) (calls_of i false body) s) (right_loops P (loops_of n third) (loops_of i body) m),
      )
  each_of P p b (return_value l k e) h g = each_maybe P p.scope b e h
  each_of P p b (simd l k d body) h g = each_of_simd P (branch_point (past 1 p)) (simdlen_in d.clauses) body h g
  each_of P p b (break_loop l k) h g = tt
  each_of P p b (continue_loop l k) h g = tt
  each_of P p b (lost l k d) h g = tt

  each_of_all : (P : NameId → Type 0) (p : Point) (b : Bool) (ss : StmtTrees) → Every (OfSite P) (calls_of_all p b ss) → Every (OfLoop P) (loops_of_all p ss) → EachCallInAll P ss
  each_of_all P p b no_stmts h g = tt
  each_of_all P p b (more_stmts s ss) h g = (
    each_of P p b s (left_calls P (calls_of p b s) (calls_of_all (behind p s) (goes_on b s) ss) h) (left_loops P (loops_of p s) (loops_of_all (behind p s) ss) g),
    each_of_all P (behind p s) (goes_on b s) ss (right_calls P (calls_of p b s) (calls_of_all (behind p s) (goes_on b s) ss) h) (right_loops P (loops_of p s) (loops_of_all (behind p s) ss) g),
  )

  each_of_simd : (P : NameId → Type 0) (p : Point) (n : Option ℕ) (s : StmtTree) → Every (OfSite P) (calls_of_simd p s) → Every (OfLoop P) (loops_of_simd p n s) → EachCallInLoop P s
  each_of_simd P p simdlen (for_loop l k first test third body) h g =
      let q : Point = head_point p in
      let n : Point = behind q first in
      let i : Point = branch_point n in
      let r = right_calls P (calls_of q false first) (calls_in_optional n.scope false test ++ calls_of n false third) h in
      let m = right_loops P (loops_of q first) (loops_of n third ++ loops_of i body) g.1 in (
        each_of P q false first (left_calls P (calls_of q false first) (calls_in_optional n.scope false test ++ calls_of n false third) h)
            (left_loops P (loops_of q first) (loops_of n third ++ loops_of i body) g.1),
        each_maybe P n.scope false test (left_calls P (calls_in_optional n.scope false test) (calls_of n false third) r),
        each_of P n false third (right_calls P (calls_in_optional n.scope false test) (calls_of n false third) r) (left_loops P (loops_of n third) (loops_of i body) m),
        each_of P i true body g.0 (right_loops P (loops_of n third) (loops_of i body) m),
      )
  each_of_simd P p n _ h g = tt

-- ---- from the names of the callees

abbrev CalledBy : Subject → (List ℕ → Type 0) → CallText → Type 0
CalledBy u P c = (is_print u.texts c.callee ≡ true) ⊎ P (text_of u.texts c.callee)

by_name : (u : Subject) (P : List ℕ → Type 0) (c : CallText) (cs : List CallText) (b : Bool) → is_print u.texts c.callee ≡ b →
    ((g : List ℕ) → Contains (map (λ (x : CallText). text_of u.texts x.callee) (cond (not b) (c ∷ own_calls u cs) (own_calls u cs))) g → P g) →
    CalledBy u P c × ((g : List ℕ) → Contains (callees_in u cs) g → P g)
by_name u P c cs true e h = (inl e, h)
by_name u P c cs false e h = (inr (h (text_of u.texts c.callee) (0, omega arith, refl)), λ g k. h g (Contains-append_right (text_of u.texts c.callee ∷ []) (callees_in u cs) g k))

from_names : (u : Subject) (P : List ℕ → Type 0) (cs : List CallText) → ((g : List ℕ) → Contains (callees_in u cs) g → P g) → Every (CalledBy u P) cs
from_names u P [] h = tt
from_names u P (c ∷ cs) h = let r = by_name u P c cs (is_print u.texts c.callee) refl h in (r.0, from_names u P cs r.1)

abbrev CalledInLoop : Subject → (List ℕ → Type 0) → LoopText → Type 0
CalledInLoop u P l = Every (CalledBy u P) (loop_calls l)

loops_from_names : (u : Subject) (P : List ℕ → Type 0) (ls : List LoopText) →
    ((g : List ℕ) → Contains (flat_map (λ (l : LoopText). callees_in u (loop_calls l)) ls) g → P g) → Every (CalledInLoop u P) ls
loops_from_names u P [] h = tt
loops_from_names u P (l ∷ ls) h = (
  from_names u P (loop_calls l) (λ g k. h g (Contains-append_left (callees_in u (loop_calls l)) (flat_map (λ (x : LoopText). callees_in u (loop_calls x)) ls) g k)),
  loops_from_names u P ls (λ g k. h g (Contains-append_right (callees_in u (loop_calls l)) (flat_map (λ (x : LoopText). callees_in u (loop_calls x)) ls) g k)),
)

-- what holds of each callee's name holds of each callee
pub callees_by_name : (P : List ℕ → Type 0) (o : Option Definition) → ((g : List ℕ) → Contains (callees_of o) g → P g) → EachCallee P o
callees_by_name P None h = tt
callees_by_name P (Some d) h =
    each_of (λ id. (is_print d.unit.texts id ≡ true) ⊎ P (text_of d.unit.texts id)) (first_point d) true d.body
    (from_names d.unit P (body_calls d) (λ g k. h g (Contains-append_left own inner g k)))
    (loops_from_names d.unit P (own_loops d) (λ g k. h g (Contains-append_right own inner g k)))
  where
    own : List (List ℕ)
    own = callees_in d.unit (body_calls d)

    inner : List (List ℕ)
    inner = flat_map (λ (l : LoopText). callees_in d.unit (loop_calls l)) (own_loops d)
