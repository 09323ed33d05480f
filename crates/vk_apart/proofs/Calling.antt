-- The answers of a call, from the least pair that the code finds.
use Rattle.std.proofs.Common.{◌≡◌, ℕ, ◌<◌, Bool, List, length, Option, Some, None, subst}
use Rattle.vk_types.specs.declared.types.Word.{Word}
use Rattle.vk_ends.specs.declared.ends.CallRule.TheVariants.{A3}
use Rattle.vk_meaning.specs.World.{Array}
use Rattle.vk_arguments.specs.Arguments.{AreTaken, Called, Given, passed, words_in}
use Rattle.vk_arguments.specs.Texts.{Meaning, mask_of}
use Rattle.vk_apart.specs.Apart.{AreTakenApart, IsCallRefused}
use Rattle.vk_apart.specs.Inner.Pairs.{IsLeast, active_meet}
use Rattle.vk_apart.proofs.Lanes.{least_is, none_meet}
use Rattle.vk_apart.proofs.Answering.{apart_same, least_same}

module _ (word : Meaning) (arrays theirs : List Array) (c : Called) (g : Given) (items seen : List Word) (mask : ℕ → Bool) (taken : AreTaken word c g)
    (same : (p lane : ℕ) → p < length c.types → lane < c.lanes → passed c.lanes items p lane ≡ words_in word c.types g.texts p lane)
    (on : mask ≡ mask_of c.lanes g.bits) (seen_are : seen ≡ items) (theirs_are : theirs ≡ arrays) where
  found : (o : Option (ℕ × ℕ)) → IsLeast c.lanes (active_meet c.types theirs (passed c.lanes seen) mask) o → IsLeast c.lanes (active_meet c.types arrays (passed c.lanes items) mask) o
  found o least = subst (λ (xs : List Array). IsLeast c.lanes (active_meet c.types xs (passed c.lanes items) mask) o) theirs_are
      (subst (λ (ws : List Word). IsLeast c.lanes (active_meet c.types theirs (passed c.lanes ws) mask) o) seen_are least)

  pub refused_apart : (i j : ℕ) → IsLeast c.lanes (active_meet c.types theirs (passed c.lanes seen) mask) (Some (i, j)) → IsCallRefused word arrays c g A3 i j
  refused_apart i j least = (
    taken,
    least_same c.types arrays c.lanes (passed c.lanes items) (words_in word c.types g.texts) mask (mask_of c.lanes g.bits) same on i j
        (least_is c.types arrays (passed c.lanes items) c.lanes mask i j (found (Some (i, j)) least)),
  )

  pub are_taken : IsLeast c.lanes (active_meet c.types theirs (passed c.lanes seen) mask) None → AreTakenApart word arrays c g
  are_taken least = record {
    taken = taken;
    apart = apart_same c.types arrays c.lanes (passed c.lanes items) (words_in word c.types g.texts) mask (mask_of c.lanes g.bits) same on
        (none_meet c.types arrays (passed c.lanes items) c.lanes mask (found None least));
  }
