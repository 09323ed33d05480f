-- What the steps of the command say of its file.
use Rattle.std.proofs.Common.{◌≡◌, ◌∙◌, ℕ, ◌<◌, ◌≤◌, ◌-◌, List, length, Option, None, Some, refl, sym, ap, subst}
use Rattle.std.specs.List.{concat}
use Rattle.std.specs.Str.Lines.{lines}
use Rattle.vk_names.specs.Spelling.{Name}
use Rattle.vk_names.specs.declared.rules.NameRule.{NameRule}
use Rattle.vk_io.specs.Whole.{IsTooLong}
use Rattle.vk_ends.specs.Inputs.{IsUnread}
use Rattle.vk_ends.specs.Printing.{IsPrinted}
use Rattle.vk_ends.specs.declared.ends.Refusal.TheVariants.{Size, Name as Unnamed, Unit as Unfit, NotYet, Call}
use Rattle.vk_ends.specs.declared.ends.End.{End}
use Rattle.vk_ends.specs.declared.ends.End.TheVariants.{Done, Refused, Words, Stopped, ReadFault, WriteFault, Memory}
use Rattle.vk_cmd_demangle.specs.Lines.{AreNames, IsFirstRefused, name_lines}
use Rattle.vk_cmd_demangle.specs.Demangle.{AllowsNames, PrintsNames, RefusesNames}

pub too_long : (contents : Option (List ℕ)) → IsTooLong contents 1048576 → RefusesNames contents (Size 0)
too_long contents h = subst (λ (o : Option (List ℕ)). RefusesNames o (Size 0)) (sym h.1) (refl, h.2)

pub line_refused : (contents : Option (List ℕ)) (bytes read : List ℕ) (line at : ℕ) (rule : NameRule) → contents ≡ Some bytes → read ≡ bytes → length bytes ≤ 1048576 →
    (0 < line) × IsFirstRefused (lines read) (line - 1) at rule → RefusesNames contents (Unnamed line at rule)
line_refused contents bytes read line at rule has same fits h =
    subst (λ (o : Option (List ℕ)). RefusesNames o (Unnamed line at rule)) (sym has)
    (fits, h.0, subst (λ (bs : List ℕ). IsFirstRefused (lines bs) (line - 1) at rule) same h.1)

pub all_printed : (contents : Option (List ℕ)) (bytes read text : List ℕ) → contents ≡ Some bytes → read ≡ bytes → length bytes ≤ 1048576 →
    (ns : List Name) → AreNames ns (lines read) → text ≡ name_lines ns → PrintsNames contents text None
all_printed contents bytes read text has same fits ns are is =
    subst (λ (o : Option (List ℕ)). PrintsNames o text None) (sym has)
    (fits, refl, ns, subst (λ (bs : List ℕ). AreNames ns (lines bs)) same are, is)

pub allowed_unread : (end : End) → IsUnread 0 end → AllowsNames end
allowed_unread Done u = tt
allowed_unread (Refused (Size input)) u = u
allowed_unread (Refused (Unnamed line at rule)) u = tt
allowed_unread (Refused (Unfit input line directive rule)) u = u
allowed_unread (Refused (NotYet input)) u = u
allowed_unread (Refused (Call fault)) u = u
allowed_unread (Words fault) u = u
allowed_unread (Stopped stop) u = u
allowed_unread (ReadFault input) u = u
allowed_unread WriteFault u = absurd u
allowed_unread Memory u = tt

pub allowed_printed : (end : End) → IsPrinted end → AllowsNames end
allowed_printed Done u = tt
allowed_printed (Refused refusal) u = absurd u
allowed_printed (Words fault) u = u
allowed_printed (Stopped stop) u = u
allowed_printed (ReadFault input) u = absurd u
allowed_printed WriteFault u = tt
allowed_printed Memory u = tt
