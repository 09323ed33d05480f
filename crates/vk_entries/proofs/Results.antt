-- The register of a result.
use Rattle.std.proofs.Common.{◌≡◌, ℕ, ◌<◌, true, length, Option, Some, None, IfSome}
use Rattle.std.proofs.lemmas.Bool.{ltb-true}
use Rattle.vk_code.specs.Valid.{is_result}
use Rattle.vk_steps.specs.declared.place.Place.{Place}
use Rattle.vk_steps.specs.Places.{IsSound, listing, regs}
use Rattle.vk_args.proofs.Types.{head_of}

pub result_there : (n : ℕ) (o : Option ℕ) → is_result n o ≡ true → IfSome o (λ r. r < n)
result_there n None h = tt
result_there n (Some r) h = ltb-true r n h

-- the result of an entry's code is one of its registers
pub result_inside : (p : Place) → IsSound p → IfSome (listing p).routine.result (λ r. r < length (regs p))
result_inside p s = let h = head_of p s in result_there (length (regs p)) (listing p).routine.result h.result
