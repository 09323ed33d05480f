use Rattle.vk_names.specs.declared.states.State.TheVariants.{Inside, Next}
use Rattle.vk_names.specs.declared.steps.Item.TheVariants.{Align}
use Rattle.vk_names.specs.Inner.Steps.{run_from, pushed}
use Rattle.std.proofs.Common.{◌∙◌, sym, get_or}
use Rattle.vk_names.proofs.ManyBytes.{from_next, from_same, align_begins, param_ends}
use Rattle.vk_names.proofs.shortcuts.param_from.Goals as goal

pub returns-then-opens_align : goal.returns-then-opens_align
returns-then-opens_align c front params =
    let p = c.in_ok-param.param in
    let next = c.after.result in
    rw (from_next (Inside front c.args.at c.args.item) (Inside front next (Align p.kind (run_from next))) params params c.args.bytes.now c.in-len1-up.len_at_least
    (align_begins front c.args.at next c.args.item params (get_or c.args.bytes.now 0 0) p c.in_ok-param.ensures (sym c.opens_align.ensures ∙ c.if-opens_align.true) c.after.ensures))
    (c.aligned_at.ensures front params)

pub returns-else-opens_align : goal.returns-else-opens_align
returns-else-opens_align c front params =
    let p = c.in_ok-param.param in
    from_same (Inside front c.args.at c.args.item) (Next front c.args.at) params (pushed params p) c.args.bytes.now c.in-len1-up.len_at_least
    (param_ends front c.args.at c.args.item params (get_or c.args.bytes.now 0 0) p c.in_ok-param.ensures (sym c.opens_align.ensures ∙ c.if-opens_align.false))
