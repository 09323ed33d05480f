-- Arguments of a call as appended code.
use Rattle.std.specs.Prelude.{ℕ, ◌+◌, ◌*◌, List, length}
use Rattle.vk_kinds.specs.declared.heads.CType.{CType}
use Rattle.vk_ast.specs.Tree.{Tree, Trees, all_nodes, nodes_of}
use Rattle.vk_rules_book.specs.Scopes.{Scope}
use Rattle.vk_meaning.specs.Data.{Datum, and_then, as_type, given}
use Rattle.vk_meaning.specs.Expressions.{value_of, with_arguments}
use Rattle.vk_lane.specs.Entries.{place_of}
use Rattle.vk_construct.specs.Computes.{Table}
use Rattle.vk_construct.specs.Adds.{Adds, AddsValue, Written}
use Rattle.vk_construct_calls.specs.Gathers.{Gathers}

-- Under mask m the expression's value, converted to the parameter's type t (C17 6.5.2.2), comes into register r. At most eight
-- instructions a node, and one that converts.
abbrev pub AddsArgument : (old new : Written) → Scope → Table → CType → Tree → (r m f : ℕ) → Type 0
AddsArgument old new scope tb t e r m f = AddsValue old new tb (λ c vs. and_then (value_of c scope vs e) (λ d. given (as_type t d))) t r m (length old.regs) f (8 * nodes_of e + 1)

-- Under mask m the arguments come in order into the registers rs, each converted to its parameter's type, whatever arguments were
-- evaluated before.
abbrev pub AddsArguments : (old new : Written) → Scope → Table → List CType → Trees → (rs : List ℕ) → (m f : ℕ) → Type 0
AddsArguments old new scope tb ts es rs m f =
    Adds old new (λ q j h h'. (before : List Datum) → Gathers (place_of q) tb (λ vs. with_arguments q.context scope vs ts es before) ts rs before m (length old.regs) f j h h') (8 * all_nodes es + length rs) 0
