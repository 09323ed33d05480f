-- The code of arguments and of the call behind them, put together.
use Rattle.std.proofs.Common.{arith, sym, ℕ, ◌+◌, ◌*◌, ◌<◌, List, [], ◌∷◌, ◌++◌, length, subst, Ok}
use Rattle.vk_types.specs.declared.types.Ty.{Ty}
use Rattle.vk_types.specs.Numbers.{wrap_number}
use Rattle.vk_kinds.specs.declared.heads.CType.{CType}
use Rattle.vk_kinds.specs.declared.heads.CType.TheVariants.{Int}
use Rattle.vk_ast.specs.Tree.{Tree, Trees, no_trees, more_trees, all_nodes, nodes_of}
use Rattle.vk_rules_book.specs.Scopes.{Scope}
use Rattle.vk_meaning.specs.Types.{next_type, next_types}
use Rattle.vk_meaning.specs.Expressions.{with_arguments}
use Rattle.vk_lane.specs.Entries.{place_of}
use Rattle.vk_construct.specs.Computes.{Table}
use Rattle.vk_construct.specs.Adds.{AddsNumber, IsTableOf, Written}
use Rattle.vk_construct.specs.Applies.{one}
use Rattle.vk_construct.specs.Trees.{AddsTree}
use Rattle.vk_construct.proofs.Adding.{adds_nil, adds_then, adds_weaken, has_written_less, no_fewer, table_there}
use Rattle.vk_construct.proofs.Evaluating.{emits_one}
use Rattle.vk_construct_calls.specs.Gathers.{Gathers}
use Rattle.vk_construct_calls.specs.Arguments.{AddsArgument, AddsArguments}
use Rattle.vk_construct_calls.proofs.Gathering.{gathers_more, gathers_none}

-- a number, converted to its parameter's type
pub argument_converted : (a b c : Written) (scope : Scope) (tb : Table) (s t : Ty) (e : Tree) (r d m f : ℕ) → IsTableOf a tb (length a.regs) → m < f → AddsTree a b scope tb e s r m f →
    AddsNumber b c (one (λ z. Ok (wrap_number t z)) s r) t d m (length b.regs) f 1 → AddsArgument a c scope tb (Int t) e d m f
argument_converted a b c scope tb s t e r d m f it lm x y =
    emits_one a b c tb _ (λ z. Ok (wrap_number t z)) s t r d m (length a.regs) (length b.regs) f (8 * nodes_of e) 1 it lm (no_fewer a b _ _ 0 x) x y

-- no argument, no code
pub arguments_none : (a : Written) (scope : Scope) (tb : Table) (ts : List CType) (m f : ℕ) → AddsArguments a a scope tb ts no_trees [] m f
arguments_none a scope tb ts m f = adds_weaken a a _ _ 0 0 0 (adds_nil a) (omega arith)
    (λ q hw j h h' s s' e before. subst (Gathers (place_of q) tb (λ vs. with_arguments q.context scope vs ts no_trees before) ts [] before m (length a.regs) f j h) (sym e)
    (gathers_none (place_of q) tb q.context scope ts before m (length a.regs) f j h))

-- one more argument, before the others
pub arguments_more : (a b c : Written) (scope : Scope) (tb : Table) (ts : List CType) (e : Tree) (es : Trees) (r : ℕ) (rs : List ℕ) (m f : ℕ) → IsTableOf a tb (length a.regs) → m < f → r < length b.regs →
    AddsArgument a b scope tb (next_type ts) e r m f → AddsArguments b c scope tb (next_types ts) es rs m f → AddsArguments a c scope tb ts (more_trees e es) (r ∷ rs) m f
arguments_more a b c scope tb ts e es r rs m f it lm lr x y =
    adds_weaken a c _ _ (8 * nodes_of e + 1 + (8 * all_nodes es + length rs)) (8 * (nodes_of e + all_nodes es) + length (r ∷ rs)) 0
    (adds_then a b c _ _ (8 * nodes_of e + 1) (8 * all_nodes es + length rs) 0 x y) (omega arith)
    (λ q hw j h h' s s' z before.
    gathers_more (place_of q) tb q.context scope ts e es before r rs m (length a.regs) (length b.regs) f j h z.0 h'
    (table_there q a tb (length a.regs) (has_written_less a b _ (8 * nodes_of e + 1) 0 q x (has_written_less b c _ (8 * all_nodes es + length rs) 0 q y hw)) it)
    lm (no_fewer a b _ (8 * nodes_of e + 1) 0 x) lr z.1 (λ dt. z.2 (before ++ dt ∷ [])) (z.2 []).idle)
