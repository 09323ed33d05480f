-- The code of functions that return an expression.
use Rattle.std.specs.Prelude.{◌≡◌, ℕ, ◌+◌, ◌*◌, ◌≤◌, true, List, [], length, slice_get, take, Some}
use Rattle.std.specs.List.{list_all}
use Rattle.vk_types.specs.declared.types.Ty.{Ty}
use Rattle.vk_kinds.specs.declared.heads.CType.{CType}
use Rattle.vk_kinds.specs.declared.heads.CType.TheVariants.{Int}
use Rattle.vk_ast.specs.Tree.{Tree}
use Rattle.vk_ast.specs.Units.{FunctionTree}
use Rattle.vk_meaning.specs.Programs.{Definition}
use Rattle.vk_code.specs.Listing.{Listing}
use Rattle.vk_code.specs.Tests.{all_good}
use Rattle.vk_code.specs.Valid.{Environment, body_verdicts}
use Rattle.vk_construct.specs.Adds.{AddsValue, HasType, Written}
use Rattle.vk_construct.specs.Trees.{param_table}
use Rattle.vk_construct_whole.specs.Wholes.{IsFinished, body_scope, param_types, returned_value, started}
use Rattle.vk_flat.specs.Values.{is_value}

-- Code for integers in lanes: it calls nothing and has no simd loops, its result is in a register, and its instructions are good.
pub record IsLaneCode (c : Listing) : Type 0 where
  pub lanes : c.routine.lane_code ≡ true
  pub slots : c.routine.slots ≡ []
  pub no_loops : c.routine.loops ≡ 0
  pub loops : c.loops ≡ []
  pub params : c.routine.params ≤ length c.routine.regs
  pub values : list_all is_value c.routine.regs ≡ true
  pub masks : 1 ≤ c.routine.masks
  pub result : (r : ℕ) × (t : Ty) × (c.routine.result ≡ Some r) × (slice_get c.routine.regs r ≡ Some (Int t))
  pub good : (e : Environment) → all_good (body_verdicts e c.routine) ≡ true

-- its parameters have these types
pub record HasParams (types : List CType) (c : Listing) : Type 0 where
  pub count : c.routine.params ≡ length types
  pub types_are : take c.routine.params c.routine.regs ≡ types

-- registers and masks are at most 192 and four a node, instructions at most 16 a node
pub record IsShort (nodes : ℕ) (c : Listing) : Type 0 where
  pub registers : length c.routine.regs + c.routine.masks ≤ 192 + 4 * nodes
  pub instrs : length c.routine.instrs ≤ 16 * nodes

-- The code is that of every definition of the function, whose body returns the expression, as a number of type t: it was appended
-- to the parameters' registers and leaves the value in the result's register.
pub record IsReturnCode (f : FunctionTree) (e : Tree) (t : Ty) (c : Listing) : Type 0 where
  pub written : Written
  pub register : ℕ
  pub size : ℕ
  pub adds : (d : Definition) → d.function ≡ f →
      AddsValue (started (param_types d)) written (param_table (body_scope d)) (returned_value d e t) (Int t) register 0 (length (param_types d)) 1 size
  pub typed : HasType written register t
  pub finished : IsFinished c.routine written (Some register)
