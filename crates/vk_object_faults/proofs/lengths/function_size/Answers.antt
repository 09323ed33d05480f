use Rattle.std.proofs.Common.{ap, sym, ◌∙◌}
use Rattle.std.specs.List.{sum_by}
use Rattle.vk_code_rows.specs.Sums.{capped}
use Rattle.vk_object_format.specs.Object.{codes_in, front_length}
use Rattle.vk_object_faults.specs.Inner.Told.{code_size}
use Rattle.vk_object_faults.proofs.Along.{sum_told}
use Rattle.vk_object_faults.proofs.CodeFaults.{size_is}
use Rattle.vk_object_faults.proofs.lengths.function_size.Goals as goal

pub returns : goal.returns
returns c =
    let f = c.args.function.now in
    sum_told c.front_length.result c.all_codes_size.result c.saturating_add.result (front_length f) (sum_by code_size (codes_in f.codes)) c.front_length.ensures c.all_codes_size.ensures c.saturating_add.ensures
    ∙ ap capped (sym (size_is f))
