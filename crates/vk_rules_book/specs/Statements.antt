-- The rules on statements and parameters: C8, C14, C15, C16, D12, D15.
use Rattle.std.specs.Prelude.{ℕ, ◌==◌, Bool, true, false, cond, ◌||◌, not, List, [], ◌∷◌, ◌++◌, Option, Some, None, is_some}
use Rattle.vk_kinds.specs.declared.heads.CType.{CType}
use Rattle.vk_kinds.specs.declared.heads.CType.TheVariants.{Void}
use Rattle.vk_ast.specs.declared.names.NameId.{NameId}
use Rattle.vk_ast.specs.declared.items.ParamDecl.{ParamDecl}
use Rattle.vk_ast.specs.Tree.{Tree}
use Rattle.vk_ast.specs.Statements.{StmtTree, empty, block, local, assign, value, if_only, if_else, while_loop, do_loop, for_loop, break_loop, continue_loop, return_value, simd, lost}
use Rattle.vk_unit_rules.specs.declared.rules.UnitRule.TheVariants.{C8, C14, C15, C16, D12, D15}
use Rattle.vk_rules_book.specs.declared.faults.Fault.{Fault}
use Rattle.vk_rules_book.specs.declared.contexts.Around.{Around}
use Rattle.vk_rules_book.specs.Faults.{when, fault_at, fault_with, directive_fault}
use Rattle.vk_rules_book.specs.Scopes.{Scope, is_print, is_main, is_long, is_taken}
use Rattle.vk_rules_book.specs.Expressions.{is_simd}

abbrev pub is_void : CType → Bool
is_void Void = true
is_void _ = false

-- C15: `return` with a value in a void function, or none in another
abbrev pub is_wrong_return : CType → Option Tree → Bool
is_wrong_return result e = cond (is_some e) (is_void result) (not (is_void result))

-- C8: a parameter or a local variable whose block has that name already, or with the name `print` or `main`
abbrev pub is_redeclared : List (List ℕ) → Scope → NameId → Bool
is_redeclared texts scope id = is_taken scope id || (is_print texts id || is_main texts id)

-- the name of a parameter or a local variable: C8, C16
abbrev pub declared_faults : List (List ℕ) → Scope → (line token : ℕ) → NameId → List Fault
declared_faults texts scope l k id =
    when (is_redeclared texts scope id) (fault_at l k C8) ++ when (is_long texts id) (fault_at l k C16)

-- a statement: what a local variable's name breaks, C14, C15, D12, D15
unfoldable pub statement_faults : List (List ℕ) → Around → Scope → StmtTree → List Fault
statement_faults texts around s (empty l k) = []
statement_faults texts around s (block l k ss) = []
statement_faults texts around s (local l k t fixed id init) = declared_faults texts s l k id
statement_faults texts around s (assign l k op place operand) = []
statement_faults texts around s (value l k e) = []
statement_faults texts around s (if_only l k c first) = []
statement_faults texts around s (if_else l k c first second) = []
statement_faults texts around s (while_loop l k c body) = []
statement_faults texts around s (do_loop l k body c) = []
statement_faults texts around s (for_loop l k first c third body) = []
statement_faults texts around s (break_loop l k) = when (not around.in_loop) (fault_at l k C14)
statement_faults texts around s (continue_loop l k) = when (not around.in_loop) (fault_at l k C14)
statement_faults texts around s (return_value l k e) = when (is_wrong_return around.result e) (fault_at l k C15)
statement_faults texts around s (simd l k d body) = when (is_simd around) (fault_with d.line d.token D15 around.directive)
statement_faults texts around s (lost l k d) = directive_fault d d.token D12 ∷ []

abbrev pub param_name_faults : List (List ℕ) → Scope → (line token : ℕ) → Option NameId → List Fault
param_name_faults texts s l k None = []
param_name_faults texts s l k (Some id) = declared_faults texts s l k id

-- a parameter with this number, from 0: C16 at the 65th, and what its name breaks
unfoldable pub parameter_faults : List (List ℕ) → Scope → (number : ℕ) → ParamDecl → List Fault
parameter_faults texts s n p = when (n == 64) (fault_at p.line p.token C16) ++ param_name_faults texts s p.line p.token p.name
