use Rattle.std.proofs.Common.{◌∙◌, ap₂, sym}
use Rattle.vk_code.specs.Valid.{environment_of}
use Rattle.vk_code_format.specs.Values.{earlier}
use Rattle.vk_code_rows.proofs.SameFault.{bad_same}
use Rattle.vk_code_rows.proofs.faults.bad_part.Goals as goal

pub returns : goal.returns
returns c =
    c.earlier.ensures ∙ ap₂ earlier c.far_part.ensures c.in_ok-bad.ensures ∙ sym (bad_same (environment_of c.args.env.now) c.args.row.now)
