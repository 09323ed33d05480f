-- What the steps of the command say of its file.
use Rattle.std.proofs.Common.{◌≡◌, ◌∙◌, ℕ, ◌+◌, ◌<◌, ◌≤◌, List, [], ◌∷◌, ◌++◌, length, map, take, get_or, Option, None, Some, slice_get, refl, sym, ap, subst, arith}
use Rattle.std.specs.List.{concat, flat_map}
use Rattle.std.proofs.lemmas.List.{map-append, take_all, take_more}
use Rattle.std.proofs.lemmas.Option.{slice_get-get_or}
use Rattle.vk_kinds.specs.declared.kinds.Target.{Target}
use Rattle.vk_unit_rules.specs.declared.rules.UnitRule.{UnitRule}
use Rattle.vk_io.specs.Whole.{IsTooLong}
use Rattle.vk_ends.specs.Inputs.{IsUnread}
use Rattle.vk_ends.specs.Printing.{IsPrinted}
use Rattle.vk_ends.specs.declared.ends.Refusal.TheVariants.{Size, Name as Unnamed, Unit as Unfit, NotYet, Call}
use Rattle.vk_ends.specs.declared.ends.End.{End}
use Rattle.vk_ends.specs.declared.ends.End.TheVariants.{Done, Refused, Words, Stopped, ReadFault, WriteFault, Memory}
use Rattle.vk_rules_book.specs.Rules.{Subject}
use Rattle.vk_rules.specs.UnitNames.{unit_names}
use Rattle.vk_accept.specs.Accepted.{HasSimdLine, IsAccepted, IsUnitRefused}
use Rattle.vk_cmd_mangle.specs.Mangle.{AllowsMangled, IsNamed, PrintsMangled, RefusesMangled, name_line, name_lines}

pub too_long : (target : Target) (contents : Option (List ℕ)) → IsTooLong contents 1048576 → RefusesMangled target contents (Size 0)
too_long target contents h = subst (λ (o : Option (List ℕ)). RefusesMangled target o (Size 0)) (sym h.1) (refl, h.2)

pub rule_refused : (target : Target) (contents : Option (List ℕ)) (bytes read : List ℕ) (line directive : ℕ) (rule : UnitRule) → contents ≡ Some bytes → read ≡ bytes → length bytes ≤ 1048576
    → IsUnitRefused read target line directive rule → RefusesMangled target contents (Unfit 0 line directive rule)
rule_refused target contents bytes read line directive rule has same fits h =
    subst (λ (o : Option (List ℕ)). RefusesMangled target o (Unfit 0 line directive rule)) (sym has)
    (fits, refl, subst (λ (bs : List ℕ). IsUnitRefused bs target line directive rule) same h)

pub simd_refused : (target : Target) (contents : Option (List ℕ)) (bytes read : List ℕ) → contents ≡ Some bytes → read ≡ bytes → length bytes ≤ 1048576 → HasSimdLine read
    → RefusesMangled target contents (NotYet 0)
simd_refused target contents bytes read has same fits h =
    subst (λ (o : Option (List ℕ)). RefusesMangled target o (NotYet 0)) (sym has) (fits, refl, subst HasSimdLine same h)

joined : (names : List (List ℕ)) → concat (map name_line names) ≡ name_lines names
joined [] = refl
joined (n ∷ names) = ap (λ (ts : List ℕ). name_line n ++ ts) (joined names)

pub all_printed : (target : Target) (contents : Option (List ℕ)) (bytes read : List ℕ) (lines names : List (List ℕ)) → contents ≡ Some bytes → read ≡ bytes → length bytes ≤ 1048576
    → IsNamed target read names → lines ≡ map name_line names → PrintsMangled target contents (concat lines) None
all_printed target contents bytes read lines names has same fits named are =
    subst (λ (o : Option (List ℕ)). PrintsMangled target o (concat lines) None) (sym has)
    (fits, refl, names, subst (λ (bs : List ℕ). IsNamed target bs names) same named, ap concat are ∙ joined names)

pub named_of : (target : Target) (bytes : List ℕ) (unit : Subject) (names : List (List ℕ)) → IsAccepted bytes unit → unit.target ≡ target → names ≡ unit_names unit → IsNamed target bytes names
named_of target bytes unit names accepted is are = record { unit = unit; accepted = accepted; target_is = is; names_are = are }

-- one line more
pub line_more : (names : List (List ℕ)) (i : ℕ) (text : List ℕ) (old new : List (List ℕ)) (line : List ℕ) → i < length names → slice_get names i ≡ Some text
    → old ≡ map name_line (take i names) → line ≡ name_line text → new ≡ old ++ line ∷ [] → new ≡ map name_line (take (i + 1) names)
line_more names i text old new line lt at before is added =
    let here : Some (get_or names i text) ≡ Some text = sym (slice_get-get_or names i text lt) ∙ at in
    let same : get_or names i text ≡ text = cc in
    added
    ∙ ap (λ (xs : List (List ℕ)). xs ++ line ∷ []) before
    ∙ ap (λ (l : List ℕ). map name_line (take i names) ++ l ∷ []) (is ∙ ap name_line (sym same))
    ∙ sym (ap (map name_line) (take_more names i text lt) ∙ map-append name_line (take i names) (get_or names i text ∷ []))

pub allowed_unread : (end : End) → IsUnread 0 end → AllowsMangled end
allowed_unread Done u = tt
allowed_unread (Refused (Size input)) u = u
allowed_unread (Refused (Unnamed line at rule)) u = u
allowed_unread (Refused (Unfit input line directive rule)) u = absurd u
allowed_unread (Refused (NotYet input)) u = absurd u
allowed_unread (Refused (Call fault)) u = u
allowed_unread (Words fault) u = u
allowed_unread (Stopped stop) u = u
allowed_unread (ReadFault input) u = u
allowed_unread WriteFault u = absurd u
allowed_unread Memory u = tt

pub allowed_printed : (end : End) → IsPrinted end → AllowsMangled end
allowed_printed Done u = tt
allowed_printed (Refused refusal) u = absurd u
allowed_printed (Words fault) u = u
allowed_printed (Stopped stop) u = u
allowed_printed (ReadFault input) u = absurd u
allowed_printed WriteFault u = tt
allowed_printed Memory u = tt

pub line_text : (text clear full line : List ℕ) → clear ≡ [] → full ≡ clear ++ text → line ≡ full ++ 10 ∷ [] → line ≡ name_line text
line_text text clear full line none filled ended = ended ∙ ap (λ (xs : List ℕ). xs ++ 10 ∷ []) (filled ∙ ap (λ (xs : List ℕ). xs ++ text) none)
