-- The code of a whole function.
use Rattle.std.specs.Prelude.{◌≡◌, ℕ, List, [], map, length, Option, Some, is_some, true}
use Rattle.std.specs.List.{AllByRecursion}
use Rattle.vk_types.specs.declared.types.Ty.{Ty}
use Rattle.vk_kinds.specs.declared.heads.CType.{CType}
use Rattle.vk_kinds.specs.declared.heads.CType.TheVariants.{Int}
use Rattle.vk_ast.specs.declared.items.ParamDecl.{ParamDecl}
use Rattle.vk_ast.specs.Tree.{Tree}
use Rattle.vk_ast.specs.Statements.{block, more_stmts, no_stmts, return_value}
use Rattle.vk_rules_book.specs.Scopes.{Scope, types_of}
use Rattle.vk_rules_book.specs.Rules.{Subject}
use Rattle.vk_meaning.specs.Data.{Action}
use Rattle.vk_meaning.specs.Expressions.{Context, Variables, converted, value_of}
use Rattle.vk_meaning.specs.Programs.{Definition, first_point}
use Rattle.vk_meaning.specs.Meaning.{call_within, context_of}
use Rattle.vk_code.specs.Listing.{Routine}
use Rattle.vk_object.specs.Machine.{Site}
use Rattle.vk_lane.specs.Places.{extent_of}
use Rattle.vk_construct.specs.Adds.{Written}

-- what is written at first: the parameters' registers, and the mask of the call
abbrev pub started : List CType → Written
started ts = record { params = length ts; regs = ts; masks = 1; slots = []; instrs = [] }

-- the code is what was written, with this result
pub record IsFinished (c : Routine) (w : Written) (place : Option ℕ) : Type 0 where
  pub params : c.params ≡ w.params
  pub regs : c.regs ≡ w.regs
  pub masks : c.masks ≡ w.masks
  pub slots : c.slots ≡ w.slots
  pub instrs : c.instrs ≡ w.instrs
  pub result : c.result ≡ place

-- the machine has the program's arrays and its limit of turns
pub record IsMachineOf (c : Context) (s : Site) : Type 0 where
  pub extents : s.arrays ≡ map extent_of c.arrays
  pub turns : s.turns ≡ c.turns

-- a definition whose body is one `return` of an expression, which gives an integer
pub record IsOneReturn (d : Definition) (e : Tree) (t : Ty) : Type 0 where
  pub line : ℕ
  pub token : ℕ
  pub return_line : ℕ
  pub return_token : ℕ
  pub body : d.body ≡ block line token (more_stmts (return_value return_line return_token (Some e)) no_stmts)
  pub result : d.function.result ≡ Int t
  -- every parameter has a name, as those of a definition do (C17 6.9.1)
  pub named : AllByRecursion (λ (p : ParamDecl). is_some p.name ≡ true) d.function.params

-- the types of a definition's parameters, and what is visible in its body
abbrev pub param_types : Definition → List CType
param_types d = types_of d.function.params

abbrev pub body_scope : Definition → Scope
body_scope d = (first_point d).scope

-- what the body of a definition needs, where it is called in a program
abbrev pub own_context : List Subject → (turns : ℕ) → Definition → Context
own_context units turns d = context_of units turns (call_within 31 units turns) d

-- the value that the expression has in the body, as one of the result's type
abbrev pub returned_value : Definition → Tree → Ty → Context → Variables → Action
returned_value d e t c vs = converted t (value_of c (body_scope d) vs e)
