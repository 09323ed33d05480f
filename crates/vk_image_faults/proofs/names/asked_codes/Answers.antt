use Rattle.std.proofs.Common.{◌||◌, Bool, List, length, drop, ap, ap₂, ◌∙◌, arith}
use Rattle.std.specs.List.{list_any}
use Rattle.vk_code_format.specs.declared.rows.CodeRow.{CodeRow}
use Rattle.vk_image_format.specs.declared.rows.RawEntry.{RawEntry}
use Rattle.vk_image.specs.Inner.Rounds.{is_told}
use Rattle.vk_image_faults.specs.Inner.Told.{asks}
use Rattle.vk_image_faults.proofs.Asked.{all_asked, none_told, written_over}
use Rattle.vk_image_faults.proofs.names.asked_codes.Goals as goal

pub returns : goal.returns
returns c = λ n lt.
    let i = c.args.image.now in
    let new = c.mark_entries.new.asked in
    let value = c.deref_mut.ensures.value in
    let values = ap length value in
    let same = c.mark_entries.ensures.same in
    let long = c.deref_mut.ensures.len in
    let count = c.in_ok-asked.ensures.count in
    let codes = c.len.ensures.length in
    ap (λ (l : List Bool). is_told l n) (written_over (drop (length new) c.in_ok-asked.asked.items) new c.in_ok-asked.asked.len (omega (arith, same, long)))
    ∙ c.mark_entries.ensures.told n (omega (arith, lt, values, count, codes))
    ∙ ap (λ b. b || list_any (asks c.as_slice.result.now n) c.as_slice-2.result.now) (ap (λ (l : List Bool). is_told l n) (value ∙ c.in_ok-asked.ensures.items) ∙ none_told c.len.result n)
    ∙ ap₂ (λ (cs : List CodeRow) (es : List RawEntry). list_any (asks cs n) es) c.as_slice.ensures.items c.as_slice-2.ensures.items
    ∙ all_asked i n
