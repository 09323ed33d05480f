-- What the steps of the command say of its file.
use Rattle.std.proofs.Common.{◌≡◌, ℕ, List, Option, None, Some, refl, sym, subst}
use Rattle.vk_io.specs.Whole.{IsTooLong}
use Rattle.vk_ends.specs.Inputs.{IsUnread}
use Rattle.vk_ends.specs.Printing.{IsPrinted}
use Rattle.vk_ends.specs.declared.ends.Refusal.{Refusal}
use Rattle.vk_ends.specs.declared.ends.Refusal.TheVariants.{Size, Name as Unnamed, Unit as Unfit, NotYet, Call as CallRefusal}
use Rattle.vk_ends.specs.declared.ends.End.{End}
use Rattle.vk_ends.specs.declared.ends.End.TheVariants.{Done, Refused, Words, Stopped, ReadFault, WriteFault, Memory}
use Rattle.vk_cmd_lanes.specs.Lanes.{AllowsLanes, Asked, PrintsLanes, RefusesLanes}

pub too_long : (r : Asked) (contents : Option (List ℕ)) → IsTooLong contents 1048576 → RefusesLanes r contents (Size 0)
too_long r contents h = subst (λ (o : Option (List ℕ)). RefusesLanes r o (Size 0)) (sym h.1) (refl, h.2)

-- what is due for the bytes that were read is due for the file
pub file_refused : (r : Asked) (contents : Option (List ℕ)) (bytes read : List ℕ) (refusal : Refusal) → contents ≡ Some bytes → read ≡ bytes →
    RefusesLanes r (Some read) refusal → RefusesLanes r contents refusal
file_refused r contents bytes read refusal has same h =
    subst (λ (o : Option (List ℕ)). RefusesLanes r o refusal) (sym has) (subst (λ (bs : List ℕ). RefusesLanes r (Some bs) refusal) same h)

pub file_printed : (r : Asked) (contents : Option (List ℕ)) (bytes read text : List ℕ) → contents ≡ Some bytes → read ≡ bytes →
    PrintsLanes r (Some read) text None → PrintsLanes r contents text None
file_printed r contents bytes read text has same h =
    subst (λ (o : Option (List ℕ)). PrintsLanes r o text None) (sym has) (subst (λ (bs : List ℕ). PrintsLanes r (Some bs) text None) same h)

pub allowed_refused : (r : Asked) (bytes : List ℕ) (refusal : Refusal) → RefusesLanes r (Some bytes) refusal → AllowsLanes (Refused refusal)
allowed_refused r bytes (Size input) h = h.0
allowed_refused r bytes (Unnamed line at rule) h = h
allowed_refused r bytes (Unfit input line directive rule) h = h.1
allowed_refused r bytes (NotYet input) h = h.1
allowed_refused r bytes (CallRefusal fault) h = tt

pub allowed_unread : (end : End) → IsUnread 0 end → AllowsLanes end
allowed_unread Done u = tt
allowed_unread (Refused (Size input)) u = u
allowed_unread (Refused (Unnamed line at rule)) u = u
allowed_unread (Refused (Unfit input line directive rule)) u = absurd u
allowed_unread (Refused (NotYet input)) u = absurd u
allowed_unread (Refused (CallRefusal fault)) u = tt
allowed_unread (Words fault) u = u
allowed_unread (Stopped stop) u = u
allowed_unread (ReadFault input) u = u
allowed_unread WriteFault u = tt
allowed_unread Memory u = tt

pub allowed_printed : (end : End) → IsPrinted end → AllowsLanes end
allowed_printed Done u = tt
allowed_printed (Refused refusal) u = absurd u
allowed_printed (Words fault) u = u
allowed_printed (Stopped stop) u = u
allowed_printed (ReadFault input) u = absurd u
allowed_printed WriteFault u = tt
allowed_printed Memory u = tt
