-- The tests of the rules, by what tables and earlier clauses say.
use Rattle.std.specs.Prelude.{ℕ, Bool, true, false, ◌&&◌, ◌||◌, not, List, ◌++◌, Option, Some, None, is_none, is_some, ℤ, pos}
use Rattle.std.specs.Ordering.{int_eq}
use Rattle.std.specs.List.{list_any}
use Rattle.std.specs.Option.{option_and_then}
use Rattle.vk_types.specs.declared.types.Ty.{Ty}
use Rattle.vk_kinds.specs.declared.heads.CType.{CType}
use Rattle.vk_kinds.specs.declared.heads.CType.TheVariants.{Int}
use Rattle.vk_kinds.specs.Sizes.{bytes_of}
use Rattle.vk_ast.specs.declared.names.NameId.{NameId}
use Rattle.vk_ast.specs.declared.directives.PlacedName.{PlacedName}
use Rattle.vk_ast.specs.Directives.{ClauseTree, DirectiveTree}
use Rattle.vk_unit_rules.specs.declared.rules.UnitRule.TheVariants.{D1, D2, D3, D4, D5, D6, D7, D8, D9, D10, D11, D13, D14}
use Rattle.vk_rules_book.specs.declared.faults.Fault.{Fault}
use Rattle.vk_rules_book.specs.declared.lists.Entry.{Entry}
use Rattle.vk_rules_book.specs.Faults.{when, directive_fault}
use Rattle.vk_rules_book.specs.Signatures.{pointee, scaled}
use Rattle.vk_rules_book.specs.Directives.{has_modifier, has_wrong_alignment, is_aligned, is_branch, is_of_references, is_other, is_simdlen, is_too_great, is_uniform_list, is_unknown, is_written_type, is_wrong_simdlen}
use Rattle.vk_rules_directives.specs.Inner.Tables.{type_at}

-- ---- listed names

-- a pointer, of a parameter that there is
abbrev pub is_pointer : Option CType → Bool
is_pointer None = false
is_pointer (Some t) = is_some (pointee t)

abbrev pub is_written : Option CType → Bool
is_written None = false
is_written (Some t) = is_written_type t

-- what a listed name breaks, by its parameter's type and by whether it was listed before
abbrev pub entry_faults_by : Option CType → (by_shape by_aligned : Bool) → DirectiveTree → Entry → List Fault
entry_faults_by type by_shape by_aligned d e =
    when (is_none type) (directive_fault d e.token D2)
    ++ (when (not (is_aligned e.listed) && by_shape) (directive_fault d e.token D3)
    ++ (when (is_aligned e.listed && (is_some type && not (is_pointer type))) (directive_fault d e.token D8)
    ++ (when (is_aligned e.listed && by_aligned) (directive_fault d e.token D13)
    ++ when (is_uniform_list e.listed && is_written type) (directive_fault d e.token D14))))

-- ---- steps

abbrev pub is_integer_type : Option CType → Bool
is_integer_type (Some (Int t)) = true
is_integer_type _ = false

-- the type that the parameter points to
abbrev pub pointee_at : List (Option CType) → NameId → Option Ty
pointee_at types id = option_and_then pointee (type_at types id)

-- how many bytes a step of 1 is
abbrev pub unit_bytes : Option Ty → ℕ
unit_bytes None = 1
unit_bytes (Some to) = bytes_of to

abbrev pub is_wrong_constant : List (Option CType) → List PlacedName → ℤ → Bool
is_wrong_constant types names z =
    int_eq z (pos 0) || (is_too_great z || list_any (λ n. is_too_great (scaled (pointee_at types n.name) z)) names)

-- ---- clauses

-- what a clause breaks, by whether a `simdlen` and a branch clause stand before it and whether its step is wrong
abbrev pub said_faults_by : (has_simdlen has_branch wrong_step : Bool) → DirectiveTree → ClauseTree → List Fault
said_faults_by has_simdlen has_branch wrong_step d c =
    when (is_other c.says) (directive_fault d c.token D1)
    ++ (when (is_simdlen c.says && has_simdlen) (directive_fault d c.token D4)
    ++ (when (is_branch c.says && has_branch) (directive_fault d c.token D5)
    ++ (when wrong_step (directive_fault d c.token D6)
    ++ (when (has_modifier is_unknown c.says) (directive_fault d c.token D7)
    ++ (when (is_wrong_simdlen c.says) (directive_fault d c.token D9)
    ++ (when (has_wrong_alignment c.says) (directive_fault d c.token D10)
    ++ when (has_modifier is_of_references c.says) (directive_fault d c.token D11)))))))
