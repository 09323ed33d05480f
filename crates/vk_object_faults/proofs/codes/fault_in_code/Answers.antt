use Rattle.std.proofs.Common.{◌≡◌, ◌+◌, Some, ap, sym, ◌∙◌}
use Rattle.vk_code_format.specs.Codes.{in_object}
use Rattle.vk_code_format.specs.Places.{part_at}
use Rattle.vk_code_rows.specs.Sums.{capped}
use Rattle.vk_object_faults.specs.Inner.Told.{place_told}
use Rattle.vk_object_faults.proofs.Along.{sum_told}
use Rattle.vk_object_faults.proofs.CodeFaults.{none_code, some_code}
use Rattle.vk_object_faults.proofs.codes.fault_in_code.Goals as goal

pub returns-in-None : goal.returns-in-None
returns-in-None c = λ o e n p at.
    ap place_told (sym (none_code o c.args.function.now n p c.args.row.now (sym (c.in_ok-bad_part_of.ensures o e) ∙ c.in-None.is)))

pub returns-in-Some : goal.returns-in-Some
returns-in-Some c = λ o e n p at.
    let row = c.args.row.now in
    let part = c.in-Some.part in
    let place : c.saturating_add.result ≡ capped (p + part_at (in_object 0 0) row part) =
    sum_told c.args.at c.part_at.result c.saturating_add.result p (part_at (in_object 0 0) row part) at c.part_at.ensures c.saturating_add.ensures in
    ap (λ k. Some k) place ∙ ap place_told (sym (some_code o c.args.function.now n p row part (sym (c.in_ok-bad_part_of.ensures o e) ∙ c.in-Some.is)))
