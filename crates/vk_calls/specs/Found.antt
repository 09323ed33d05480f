-- The entries that a slot and a simd loop call.
use Rattle.std.specs.Prelude.{◌≡◌, ℕ, ◌+◌, ◌<◌, true, length, Some}
use Rattle.vk_code.specs.Listing.{call_site_of, simd_site_of}
use Rattle.vk_object.specs.Images.{has_loop_types, has_slot_types, is_within}
use Rattle.vk_object.specs.Machine.{enters, entry_at, simd_of, target_of}
use Rattle.vk_steps.specs.declared.place.Place.{Place}
use Rattle.vk_steps.specs.Places.{IsSound, entry, listing, site, tables}
use Rattle.vk_calls.specs.declared.found.Body.{Body}
use Rattle.vk_calls.specs.declared.found.Found.{Found}
use Rattle.vk_calls.specs.declared.found.FoundSimd.{FoundSimd}

-- an entry that is called from a place, and does there what the image says
pub record IsCallee (p q : Place) : Type 0 where
  pub sound : IsSound q
  pub image : q.image.now ≡ p.image.now
  pub turns : q.turns ≡ p.turns
  pub deeper : p.depth ≡ q.depth + 1
  pub does : entry_at (tables p) p.turns p.depth q.number ≡ enters q.number (site q)

-- an entry of the image, with chains of calls that the place allows
pub record IsCalled (p : Place) (n : ℕ) : Type 0 where
  pub there : n < length (tables p).entries
  pub within : is_within (tables p) p.depth n ≡ true

-- the call of slot k
pub record IsFound (p : Place) (k : ℕ) (found : Found) : Type 0 where
  pub target : target_of (site p) k ≡ Some (record { slot = call_site_of found.slot.now; number = found.place.number; entry = entry found.place })
  pub callee : IsCallee p found.place
  pub types : has_slot_types (listing p) (call_site_of found.slot.now) (listing found.place) ≡ true

-- an entry of the body of a simd loop
pub record IsBody (p : Place) (body : Body) : Type 0 where
  pub callee : IsCallee p body.place
  pub types : has_loop_types (listing p) (simd_site_of body.site.now) (listing body.place) ≡ true

-- the entries of simd loop k
pub record IsFoundSimd (p : Place) (k : ℕ) (found : FoundSimd) : Type 0 where
  pub simd : simd_of (site p) k ≡ Some (record { site = simd_site_of found.chunk.site.now; chunk = found.chunk.place.number; rest = found.rest.place.number; lanes = (entry found.chunk.place).lanes })
  pub same : found.rest.site.now ≡ found.chunk.site.now
  pub chunk : IsBody p found.chunk
  pub rest : IsBody p found.rest
  pub many : 0 < (entry found.chunk.place).lanes
  pub one : (entry found.rest.place).lanes ≡ 1
