use Rattle.std.proofs.Common.{◌≡◌, List, length, Some, ap, sym, ◌∙◌}
use Rattle.std.specs.Option.{option_map}
use Rattle.vk_format.specs.declared.rules.ObjectRule.TheVariants.{O7}
use Rattle.vk_format.specs.Format.{fault}
use Rattle.vk_code_format.specs.Codes.{Place, in_image}
use Rattle.vk_code_format.specs.Fields.{first_along}
use Rattle.vk_code_rows.specs.Sums.{capped}
use Rattle.vk_image_format.specs.declared.rows.RawEntry.{RawEntry}
use Rattle.vk_object_faults.specs.Inner.Told.{place_told}
use Rattle.vk_image_faults.specs.Inner.Told.{entries_place, entry_size, fault_in_entry}
use Rattle.vk_image_faults.proofs.Rules.{entries_told}
use Rattle.vk_image_faults.proofs.ends.entry_fault.Goals as goal

pub returns-in-Some : goal.returns-in-Some
returns-in-Some c =
    let i = c.args.image.now in
    let at = entries_place i (in_image (length i.codes)) in
    let told : c.in_ok-told.told ≡ place_told (first_along entry_size (fault_in_entry c.args.check i) 0 at i.entries) =
    c.in_ok-told.ensures at (c.entries_at.ensures ∙ ap (λ (p : Place). capped (entries_place i p)) c.in_ok-place.ensures)
    ∙ ap (λ (es : List RawEntry). place_told (first_along entry_size (fault_in_entry c.args.check i) 0 at es)) c.as_slice.ensures.items in
    ap (λ f. Some f) c.fault.ensures ∙ ap (option_map (λ n. fault n O7)) (sym c.in-Some.is) ∙ entries_told c.args.check i c.in_ok-told.told told

pub returns-in-None : goal.returns-in-None
returns-in-None c =
    let i = c.args.image.now in
    let at = entries_place i (in_image (length i.codes)) in
    let told : c.in_ok-told.told ≡ place_told (first_along entry_size (fault_in_entry c.args.check i) 0 at i.entries) =
    c.in_ok-told.ensures at (c.entries_at.ensures ∙ ap (λ (p : Place). capped (entries_place i p)) c.in_ok-place.ensures)
    ∙ ap (λ (es : List RawEntry). place_told (first_along entry_size (fault_in_entry c.args.check i) 0 at es)) c.as_slice.ensures.items in
    ap (option_map (λ n. fault n O7)) (sym c.in-None.is) ∙ entries_told c.args.check i c.in_ok-told.told told
