use Rattle.std.proofs.Common.{◌≡◌, ◌+◌, Some, ap, sym, ◌∙◌}
use Rattle.vk_code_format.specs.Places.{part_at}
use Rattle.vk_code_read.specs.Inner.Left.{place_of}
use Rattle.vk_code_rows.specs.Sums.{capped}
use Rattle.vk_object_faults.specs.Inner.Told.{place_told}
use Rattle.vk_object_faults.proofs.Along.{sum_told}
use Rattle.vk_image_faults.proofs.Rules.{none_code, some_code}
use Rattle.vk_image_faults.proofs.codes.fault_in_code.Goals as goal

pub returns-in-None : goal.returns-in-None
returns-in-None c = λ i k p knows asked at.
    ap place_told (sym (none_code i (place_of c.args.place) k p c.args.row.now (sym (c.in_ok-bad_part_of.ensures i k knows asked) ∙ c.in-None.is)))

pub returns-in-Some : goal.returns-in-Some
returns-in-Some c = λ i k p knows asked at.
    let row = c.args.row.now in
    let part = c.in-Some.part in
    let here = place_of c.args.place in
    let place : c.saturating_add.result ≡ capped (p + part_at here row part) =
    sum_told c.args.at c.part_at.result c.saturating_add.result p (part_at here row part) at c.part_at.ensures c.saturating_add.ensures in
    ap (λ n. Some n) place ∙ ap place_told (sym (some_code i here k p row part (sym (c.in_ok-bad_part_of.ensures i k knows asked) ∙ c.in-Some.is)))
