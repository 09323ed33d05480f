-- What a place calls, with all that its caller needs.
use Rattle.std.specs.Prelude.{◌≡◌, ℕ, ◌+◌, ◌<◌, ◌≤◌, length, IfSome, Some}
use Rattle.vk_code.specs.Listing.{call_site_of}
use Rattle.vk_object.specs.Images.{frame_cells}
use Rattle.vk_steps.specs.declared.place.Place.{Place}
use Rattle.vk_steps.specs.Places.{called_cells, entry, listing, regs, tables}
use Rattle.vk_calls.specs.declared.found.Body.{Body}
use Rattle.vk_calls.specs.declared.found.Found.{Found}
use Rattle.vk_calls.specs.declared.found.FoundSimd.{FoundSimd}
use Rattle.vk_calls.specs.Found.{IsCallee, IsFound, IsFoundSimd}
use Rattle.vk_args.specs.Callees.{IsCallable, IsLoopOf}

-- the cells that are left for the calls of p are enough for a frame of q and its calls
abbrev pub HasRoom : Place → Place → Type 0
HasRoom p q = frame_cells (entry q) (Some (listing q)) + called_cells (tables q) q.depth (entry q) ≤ called_cells (tables p) p.depth (entry p)

-- the call of slot k
pub record IsCall (p : Place) (k : ℕ) (found : Found) : Type 0 where
  pub is : IsFound p k found
  pub callable : IsCallable p found
  pub room : HasRoom p found.place
  pub lanes : ((entry found.place).lanes ≡ 1 → ⊥) → (entry found.place).lanes ≡ (entry p).lanes
  pub register : IfSome (call_site_of found.slot.now).result (λ r. r < length (regs p))
  pub result_register : IfSome (listing found.place).routine.result (λ r. r < length (regs found.place))

-- calls of the body of a simd loop
pub record IsTurn (p : Place) (body : Body) : Type 0 where
  pub callee : IsCallee p body.place
  pub loop : IsLoopOf p body
  pub room : HasRoom p body.place

-- the entries of simd loop k
pub record IsLoop (p : Place) (k : ℕ) (found : FoundSimd) : Type 0 where
  pub is : IsFoundSimd p k found
  pub chunk : IsTurn p found.chunk
  pub rest : IsTurn p found.rest
