-- The guard of a simd loop: which of the arrays that its body names have to be different, so that iterations may go side by side
-- (OpenMP 5.2, 10.4). A base is what a pointer or a place of the body is reckoned from: an object of file scope or a pointer parameter.
use Rattle.std.specs.Prelude.{ℕ, ◌==◌, nat_le, Bool, true, false, cond, not, ◌&&◌, ◌||◌, List, [], ◌∷◌, ◌++◌, length, filter, Option, Some, None}
use Rattle.std.specs.List.{list_any, list_all}
use Rattle.vk_kinds.specs.declared.heads.CType.{CType}
use Rattle.vk_kinds.specs.declared.heads.CType.TheVariants.{Int}
use Rattle.vk_ast.specs.declared.names.NameId.{NameId}
use Rattle.vk_ast.specs.Tree.{Tree, Trees, int, name, index, deref, addr, unary, binary, choice, cast, call, no_trees, more_trees}
use Rattle.vk_ast.specs.Statements.{StmtTree, StmtTrees, block, local, assign, value, if_only, if_else, while_loop, do_loop, for_loop, return_value, simd, no_stmts, more_stmts}
use Rattle.vk_rules_book.specs.Scopes.{Scope, Meaning, an_object, same_name, meaning_of, with_binding}
use Rattle.vk_rules_book.specs.Typings.{is_pointer, wanted_types, typing_of}
use Rattle.vk_meaning.specs.Types.{is_pointer_type, is_written_type, next_type, next_types}
use Rattle.vk_meaning.specs.Data.{array_of}
use Rattle.vk_meaning.specs.Points.{Variable, variable_named, Point, branch_point, head_point, block_point, behind}
use Rattle.vk_meaning.specs.Expressions.{Context, Variables}

pub data Base : Type 0 where
  object : NameId → Base
  -- the variable with this number
  parameter : ℕ → Base

abbrev pub same_base : Base → Base → Bool
same_base (object id) (object other) = same_name id other
same_base (object id) (parameter k) = false
same_base (parameter k) (object id) = false
same_base (parameter k) (parameter other) = k == other

abbrev pub is_among : Base → List Base → Bool
is_among b bases = list_any (same_base b) bases

-- those that were not seen, each once, in the order of first appearance
abbrev pub without_repeats : (seen : List Base) → List Base → List Base
without_repeats seen [] = []
without_repeats seen (b ∷ bs) = cond (is_among b seen) (without_repeats seen bs) (b ∷ without_repeats (b ∷ seen) bs)

-- ---- the base of a pointer or a place

abbrev pub object_base : Option Meaning → NameId → List Base
object_base (Some (an_object t is_array fixed)) id = object id ∷ []
object_base _ id = []

-- the base that a name is, none for a variable that is no pointer
abbrev pub base_of_name : Option Variable → Option Meaning → NameId → List Base
base_of_name None meaning id = object_base meaning id
base_of_name (Some v) meaning id = cond (is_pointer_type v.ctype) (parameter v.number ∷ []) []

-- the base of a pointer or a place: the one outside subscripts and added numbers
abbrev pub base_of : Scope → Tree → List Base
base_of scope (name l k id) = base_of_name (variable_named scope id) (meaning_of scope id) id
base_of scope (index l k base subscript) = base_of scope base
base_of scope (deref l k operand) = base_of scope operand
base_of scope (addr l k operand) = base_of scope operand
base_of scope (binary l k op left right) = cond (is_pointer (typing_of scope left)) (base_of scope left) (base_of scope right)
base_of scope _ = []

-- ---- bases of a body

-- the base of an argument for a pointer that may be written
abbrev pub written_base : Scope → CType → Tree → List Base
written_base scope t e = cond (is_written_type t) (base_of scope e) []

-- Bases in an expression, in the order of the text: all that it names, or with `stores` those of arguments for pointers that may be
-- written.
abbrev mutual
  pub bases_in : (stores : Bool) → Scope → Tree → List Base
  bases_in stores scope (int l k t n) = []
  bases_in stores scope (name l k id) = cond stores [] (base_of_name (variable_named scope id) (meaning_of scope id) id)
  bases_in stores scope (index l k base subscript) = bases_in stores scope base ++ bases_in stores scope subscript
  bases_in stores scope (deref l k operand) = bases_in stores scope operand
  bases_in stores scope (addr l k operand) = bases_in stores scope operand
  bases_in stores scope (unary l k op operand) = bases_in stores scope operand
  bases_in stores scope (binary l k op left right) = bases_in stores scope left ++ bases_in stores scope right
  bases_in stores scope (choice l k condition first second) =
      bases_in stores scope condition ++ (bases_in stores scope first ++ bases_in stores scope second)
  bases_in stores scope (cast l k t operand) = bases_in stores scope operand
  bases_in stores scope (call l k id arguments) = bases_in_arguments stores scope (wanted_types (meaning_of scope id)) arguments

  pub bases_in_arguments : (stores : Bool) → Scope → List CType → Trees → List Base
  bases_in_arguments stores scope ts no_trees = []
  bases_in_arguments stores scope ts (more_trees e es) =
      cond stores (written_base scope (next_type ts) e) [] ++ (bases_in stores scope e ++ bases_in_arguments stores scope (next_types ts) es)

abbrev pub bases_in_optional : (stores : Bool) → Scope → Option Tree → List Base
bases_in_optional stores scope None = []
bases_in_optional stores scope (Some e) = bases_in stores scope e

-- Bases in a statement: all that it names, or with `stores` those of assigned places and of arguments for pointers that may be
-- written.
abbrev mutual
  pub bases_of : (stores : Bool) → Point → StmtTree → List Base
  bases_of stores p (block l k ss) = bases_of_all stores (block_point p) ss
  bases_of stores p (local l k t fixed id init) = bases_in_optional stores (with_binding p.scope id (Int t) fixed) init
  bases_of stores p (assign l k op place operand) =
      cond stores (base_of p.scope place) [] ++ (bases_in stores p.scope place ++ bases_in stores p.scope operand)
  bases_of stores p (value l k e) = bases_in stores p.scope e
  bases_of stores p (if_only l k c first) = bases_in stores p.scope c ++ bases_of stores (branch_point p) first
  bases_of stores p (if_else l k c first second) =
      bases_in stores p.scope c ++ (bases_of stores (branch_point p) first ++ bases_of stores (branch_point p) second)
  bases_of stores p (while_loop l k c body) = bases_in stores p.scope c ++ bases_of stores (branch_point p) body
  bases_of stores p (do_loop l k body c) = bases_of stores (branch_point p) body ++ bases_in stores p.scope c
  bases_of stores p (for_loop l k first c third body) =
      bases_of stores (head_point p) first
      ++ (bases_in_optional stores (behind (head_point p) first).scope c
      ++ (bases_of stores (behind (head_point p) first) third ++ bases_of stores (branch_point (behind (head_point p) first)) body))
  bases_of stores p (return_value l k e) = bases_in_optional stores p.scope e
  bases_of stores p (simd l k d body) = bases_of stores (branch_point p) body
  bases_of stores p _ = []

  pub bases_of_all : (stores : Bool) → Point → StmtTrees → List Base
  bases_of_all stores p no_stmts = []
  bases_of_all stores p (more_stmts s ss) = bases_of stores p s ++ bases_of_all stores (behind p s) ss

-- the bases that a loop's body names, and those through which it stores, each once
abbrev pub named_bases : Point → StmtTree → List Base
named_bases p body = without_repeats [] (bases_of false p body)

abbrev pub stored_bases : Point → StmtTree → List Base
stored_bases p body = without_repeats [] (bases_of true p body)

-- ---- the guard

-- two bases that have to be different arrays
pub record Pair : Type 0 where
  pub first : Base
  pub second : Base

-- a base with each other one
abbrev pub pairs_with : Base → List Base → List Pair
pairs_with b [] = []
pairs_with b (o ∷ os) = cond (same_base b o) (pairs_with b os) (record { first = b; second = o } ∷ pairs_with b os)

abbrev pub not_among : List Base → List Base → List Base
not_among seen bases = filter (λ b. not (is_among b seen)) bases

-- each stored base with each other one that is named, each pair once: not again with a stored one that was seen before
abbrev pub pairs_of : (seen stored named : List Base) → List Pair
pairs_of seen [] named = []
pairs_of seen (b ∷ bs) named = pairs_with b (not_among seen named) ++ pairs_of (b ∷ seen) bs named

-- the pairs of a simd loop, from the point of its body
abbrev pub guard_pairs : Point → StmtTree → List Pair
guard_pairs p body = pairs_of [] (stored_bases p body) (named_bases p body)

abbrev pub is_parameter : Base → Bool
is_parameter (object id) = false
is_parameter (parameter k) = true

-- two objects are different arrays by their names; other pairs have to be compared
abbrev pub is_compared : Pair → Bool
is_compared p = is_parameter p.first || is_parameter p.second

-- the array of a base
abbrev pub base_array : Context → Variables → Base → ℕ
base_array c vs (object id) = c.array id
base_array c vs (parameter k) = array_of (vs k)

abbrev pub are_different : Context → Variables → Pair → Bool
are_different c vs p = not (base_array c vs p.first == base_array c vs p.second)

-- the guard holds where at most 1024 pairs have to be compared, and the arrays of each are different
abbrev pub guard_holds : Context → Variables → List Pair → Bool
guard_holds c vs pairs = nat_le (length (filter is_compared pairs)) 1024 && list_all (are_different c vs) (filter is_compared pairs)
