use Rattle.vk_names.specs.declared.states.State.TheVariants.{Inside, Next}
use Rattle.vk_names.specs.declared.steps.Item.TheVariants.{Align}
use Rattle.std.proofs.Common.{◌∙◌, get_or}
use Rattle.vk_names.specs.Inner.Steps.{run_from, pushed}
use Rattle.vk_names.proofs.ManyBytes.{from_same, align_digits_are, align_ends}
use Rattle.vk_names.proofs.shortcuts.aligned_at.Goals as goal

pub returns : goal.returns
returns c front params =
    let got = c.digits_of-at.result in
    align_digits_are front c.args.kind params c.args.at (run_from c.args.at) c.args.bytes.now (got.0, got.1, got.2.now) (rw c.run_from.ensures at c.digits_of-at.ensures)
    ∙ from_same (Inside front got.0 (Align c.args.kind got.1)) (Next front got.0) params (pushed params c.in_ok-param.param) got.2.now c.in-len1-up.len_at_least
    (align_ends front got.0 c.args.kind got.1 params (get_or got.2.now 0 0) c.in_ok-param.param c.in_ok-param.ensures)
