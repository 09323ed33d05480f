-- What a body and its variables stand for.
use Rattle.std.specs.Prelude.{ℕ, Bool, List}
use Rattle.vk_ast.specs.declared.names.NameId.{NameId}
use Rattle.vk_meaning.specs.World.{Array}
use Rattle.vk_meaning.specs.Data.{Datum, Action}
use Rattle.vk_meaning.specs.Expressions.{Context, Variables}
use Rattle.vk_meaning.specs.Points.{Point}
use Rattle.vk_rules_book.specs.Scopes.{Scope}
use Rattle.vk_rules_names.specs.Seen.{scope_at}
use Rattle.vk_reading_steps.specs.Settings.{context_in, variables_in}
use Rattle.vk_reading_statements.specs.declared.body.Body.{Body}
use Rattle.vk_reading_statements.specs.declared.body.Locals.{Locals}

-- what the body needs of its program
abbrev pub context_at : List Array → (NameId → List Datum → Action) → Body → Context
context_at arrays call body = context_in arrays call body.setting

-- what is declared there
abbrev pub scope_in : Body → Locals → (outer : ℕ) → Scope
scope_in body locals outer = scope_at body.file locals.bindings.items outer

-- what the variables have
abbrev pub data_in : Locals → Variables
data_in locals = variables_in locals.values.items

-- the point there, behind so many simd loops
abbrev pub point_in : Body → Locals → (outer : ℕ) → (shares : Bool) → (loops : ℕ) → Point
point_in body locals outer shares loops = record { scope = scope_in body locals outer; shares = shares; loops = loops }
