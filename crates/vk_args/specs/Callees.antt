-- What is called, with the types that its caller gives.
use Rattle.std.specs.Prelude.{◌≡◌, true}
use Rattle.vk_code.specs.Listing.{call_site_of, simd_site_of}
use Rattle.vk_code.specs.Valid.{is_good_loop}
use Rattle.vk_object.specs.Images.{has_loop_types, has_slot_types, names_of}
use Rattle.vk_steps.specs.declared.place.Place.{Place}
use Rattle.vk_steps.specs.Places.{IsSound, listing, tables}
use Rattle.vk_calls.specs.declared.found.Body.{Body}
use Rattle.vk_calls.specs.declared.found.Found.{Found}

-- an entry whose code has the types of the slot that calls it
pub record IsCallable (p : Place) (found : Found) : Type 0 where
  pub sound : IsSound found.place
  pub types : has_slot_types (listing p) (call_site_of found.slot.now) (listing found.place) ≡ true

-- an entry whose code has the types of a good loop
pub record IsLoopOf (p : Place) (body : Body) : Type 0 where
  pub sound : IsSound body.place
  pub types : has_loop_types (listing p) (simd_site_of body.site.now) (listing body.place) ≡ true
  pub good : is_good_loop (names_of (tables p)) (listing p).routine (simd_site_of body.site.now) ≡ true
