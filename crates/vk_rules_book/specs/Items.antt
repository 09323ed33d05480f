-- The rules on items: C8, C11, C12, C13, C16, C17, C18, D12.
use Rattle.std.specs.Prelude.{ℕ, ◌+◌, ◌*◌, ◌==◌, Bool, true, false, cond, ◌&&◌, ◌||◌, not, List, [], ◌∷◌, ◌++◌, length, nat_lt, nat_le, Option, Some, None, is_none, is_some}
use Rattle.std.specs.List.{list_any}
use Rattle.std.specs.Option.{option_and_then}
use Rattle.vk_types.specs.declared.types.Ty.TheVariants.{I32, I64}
use Rattle.vk_kinds.specs.declared.heads.CType.{CType}
use Rattle.vk_kinds.specs.declared.heads.CType.TheVariants.{Void, Int, Ptr}
use Rattle.vk_ast.specs.declared.names.NameId.{NameId}
use Rattle.vk_ast.specs.Tree.{Tree}
use Rattle.vk_ast.specs.Statements.{StmtTree, StmtTrees, block, local, if_only, if_else, while_loop, do_loop, for_loop, simd, no_stmts, more_stmts}
use Rattle.vk_ast.specs.Units.{FunctionTree, ObjectTree, ItemTree, function, object, lost_line, function_nodes}
use Rattle.vk_unit_rules.specs.declared.rules.UnitRule.TheVariants.{C8, C11, C12, C13, C16, C17, C18, D12}
use Rattle.vk_rules_book.specs.declared.faults.Fault.{Fault}
use Rattle.vk_rules_book.specs.Faults.{when, fault_at, directive_fault}
use Rattle.vk_rules_book.specs.Places.{line_of, token_of}
use Rattle.vk_numbers.specs.Constants.{constant_of, constant_to}
use Rattle.vk_rules_book.specs.Scopes.{same_name, is_print, is_main, is_long, first_declaration, types_of, has_directives}
use Rattle.vk_rules_book.specs.Typings.{same_type}

-- ---- types

abbrev pub same_ctype : CType → CType → Bool
same_ctype Void Void = true
same_ctype (Int s) (Int t) = same_type s t
same_ctype (Ptr s written) (Ptr t written') = same_type s t && cond written written' (not written')
same_ctype _ _ = false

unfoldable pub same_ctypes : List CType → List CType → Bool
same_ctypes [] [] = true
same_ctypes (s ∷ ss) (t ∷ ts) = same_ctype s t && same_ctypes ss ts
same_ctypes _ _ = false

-- a function of these types, without directives
abbrev pub is_plainly : CType → List CType → FunctionTree → Bool
is_plainly result params f = (same_ctype f.result result && same_ctypes (types_of f.params) params) && not (has_directives f.directives)

-- C8: `print` is `void print(long)` without body, `main` is `int main(void)`, both without directives; neither is an object
abbrev pub is_wrong_print : FunctionTree → Bool
is_wrong_print f = not (is_plainly Void (Int I64 ∷ []) f && is_none f.body)

abbrev pub is_wrong_main : FunctionTree → Bool
is_wrong_main f = not (is_plainly (Int I32) [] f)

-- ---- lengths and initialisers of objects

-- the length of an array, where it has one from 1 to 16777216: as given, or that of the initialiser in braces
abbrev pub given_length : Option Tree → Option (List Tree) → Bool → Option ℕ
given_length (Some e) init braced = constant_to 16777216 e
given_length None None braced = None
given_length None (Some es) true = cond (nat_le 1 (length es) && nat_le (length es) 16777216) (Some (length es)) None
given_length None (Some es) false = None

unfoldable pub length_of : ObjectTree → Option ℕ
length_of o = option_and_then (λ given. given_length given o.init o.braced) o.array

-- C12: an array without such a length; where its initialiser is not in braces, that is C11's
abbrev pub is_bare_initialiser : Option (Option Tree) → Option (List Tree) → Bool → Bool
is_bare_initialiser (Some None) (Some es) braced = not braced
is_bare_initialiser _ _ braced = false

abbrev pub has_no_length : ObjectTree → Bool
has_no_length o = is_some o.array && (is_none (length_of o) && not (is_bare_initialiser o.array o.init o.braced))

-- C11: an initialiser on an `extern` object, with braces on a scalar or without them on an array
abbrev pub has_wrong_initialiser : ObjectTree → Bool
has_wrong_initialiser o = is_some o.init && (o.outside || cond o.braced (is_none o.array) (is_some o.array))

-- C11: not constant, or one too many
abbrev pub is_past : ℕ → Option ℕ → Bool
is_past n None = false
is_past n (Some len) = nat_le len n

unfoldable pub initial_faults : ObjectTree → ℕ → Tree → List Fault
initial_faults o n e = when (is_none (constant_of e) || is_past n (length_of o)) (fault_at (line_of e) (token_of e) C11)

-- ---- redeclarations

-- two lengths that are both known and differ
abbrev pub lengths_differ : Option ℕ → Option ℕ → Bool
lengths_differ (Some m) (Some n) = not (m == n)
lengths_differ _ _ = false

abbrev pub agrees : ItemTree → ItemTree → Bool
agrees (function f) (function g) = same_ctype f.result g.result && same_ctypes (types_of f.params) (types_of g.params)
agrees (object o) (object p) = (same_type o.ty p.ty && cond o.fixed p.fixed (not p.fixed))
    && (cond (is_some o.array) (is_some p.array) (is_none p.array) && not (lengths_differ (length_of o) (length_of p)))
agrees _ _ = false

abbrev pub defines : NameId → ItemTree → Bool
defines id (function f) = same_name f.name id && is_some f.body
defines id (object o) = same_name o.name id && not o.outside
defines id (lost_line d) = false

abbrev pub disagrees : Option ItemTree → ItemTree → Bool
disagrees None i = false
disagrees (Some first) i = not (agrees first i)

-- C13: another kind or other types, `const` or length than the first declaration has; or a second definition
abbrev pub is_wrong_again : List ItemTree → NameId → ItemTree → Bool
is_wrong_again before id i =
    disagrees (first_declaration before id) i || (defines id i && list_any (defines id) before)

-- ---- sizes of functions

-- the definition of a function
unfoldable pub definition_in : List ItemTree → NameId → Option FunctionTree
definition_in [] id = None
definition_in (function f ∷ items) id = cond (same_name f.name id && is_some f.body) (Some f) (definition_in items id)
definition_in (_ ∷ items) id = definition_in items id

-- the nodes of the definition, and 16; where there is none, those of the declaration
abbrev pub weight : FunctionTree → Option FunctionTree → ℕ
weight f None = function_nodes f
weight f (Some g) = function_nodes g + 16

abbrev pub cost : List ItemTree → FunctionTree → ℕ
cost unit f = (1 + length f.directives) * weight f (definition_in unit f.name)

-- the sum over the functions of which the first declaration is among these items, which stand behind others
abbrev pub cost_at : List (List ℕ) → (unit before : List ItemTree) → ItemTree → ℕ
cost_at texts unit before (function f) = cond (is_some (first_declaration before f.name) || is_print texts f.name) 0 (cost unit f)
cost_at texts unit before _ = 0

unfoldable pub costs : List (List ℕ) → (unit before rest : List ItemTree) → ℕ
costs texts unit before [] = 0
costs texts unit before (i ∷ is) = cost_at texts unit before i + costs texts unit (before ++ i ∷ []) is

-- C17: with this declaration the sum passes 40000
abbrev pub passes : List (List ℕ) → (unit before : List ItemTree) → ItemTree → Bool
passes texts unit before i = nat_le (costs texts unit [] before) 40000 && nat_lt 40000 (costs texts unit [] before + cost_at texts unit before i)

-- the local variables of a statement
abbrev mutual
  pub locals_of : StmtTree → ℕ
  locals_of (block l k ss) = all_locals ss
  locals_of (local l k t fixed id init) = 1
  locals_of (if_only l k c first) = locals_of first
  locals_of (if_else l k c first second) = locals_of first + locals_of second
  locals_of (while_loop l k c body) = locals_of body
  locals_of (do_loop l k body c) = locals_of body
  locals_of (for_loop l k first c third body) = locals_of first + locals_of third + locals_of body
  locals_of (simd l k d body) = locals_of body
  locals_of _ = 0

  pub all_locals : StmtTrees → ℕ
  all_locals no_stmts = 0
  all_locals (more_stmts s ss) = locals_of s + all_locals ss

-- C18: more than 512 parameters and local variables, or more than 2000 nodes, in a definition
abbrev pub is_too_large : FunctionTree → Option StmtTree → Bool
is_too_large f None = false
is_too_large f (Some body) = nat_lt 512 (length f.params + locals_of body) || nat_lt 2000 (function_nodes f)

-- ---- items

unfoldable pub item_faults : List (List ℕ) → (unit before : List ItemTree) → ItemTree → List Fault
item_faults texts unit before (function f) =
    when ((is_print texts f.name && is_wrong_print f) || (is_main texts f.name && is_wrong_main f)) (fault_at f.line f.token C8)
    ++ (when (is_wrong_again before f.name (function f)) (fault_at f.line f.token C13)
    ++ (when (is_long texts f.name) (fault_at f.line f.token C16)
    ++ (when (passes texts unit before (function f)) (fault_at f.line f.token C17)
    ++ when (is_too_large f f.body) (fault_at f.line f.token C18))))
item_faults texts unit before (object o) =
    when (is_print texts o.name || is_main texts o.name) (fault_at o.line o.token C8)
    ++ (when (has_wrong_initialiser o) (fault_at o.init_line o.init_token C11)
    ++ (when (has_no_length o) (fault_at o.line o.token C12)
    ++ (when (is_wrong_again before o.name (object o)) (fault_at o.line o.token C13)
    ++ when (is_long texts o.name) (fault_at o.line o.token C16))))
item_faults texts unit before (lost_line d) = directive_fault d d.token D12 ∷ []
