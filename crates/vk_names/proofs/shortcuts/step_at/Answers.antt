use Rattle.vk_names.specs.declared.states.State.TheVariants.{Inside}
use Rattle.vk_names.specs.declared.steps.Item.TheVariants.{Bare, Digits}
use Rattle.vk_names.specs.declared.steps.Form.TheVariants.{Plain, Negative, Position}
use Rattle.std.proofs.Common.{rules, ◌∙◌, sym, get_or}
use Rattle.vk_names.proofs.ManyBytes.{from_next, negative_begins, position_begins, plain_begins}
use Rattle.vk_names.proofs.shortcuts.step_at.Goals as goal

pub returns-in-110 : goal.returns-in-110
returns-in-110 c front params =
    from_next (Inside front c.args.at (Bare c.args.kind)) (Inside front c.after-at.result (Digits c.args.kind Negative c.run_from.result)) params params c.args.bytes.now c.in-110.len_at_least
    (negative_begins front c.args.at c.after-at.result c.args.kind c.run_from.result params (get_or c.args.bytes.now 0 0) (search rules) c.after-at.ensures c.run_from.ensures)
    ∙ c.step_digits.ensures front params

pub returns-in-115 : goal.returns-in-115
returns-in-115 c front params =
    from_next (Inside front c.args.at (Bare c.args.kind)) (Inside front c.after-at-in-115.result (Digits c.args.kind Position c.run_from-in-115.result)) params params c.args.bytes.now c.in-115.len_at_least
    (position_begins front c.args.at c.after-at-in-115.result c.args.kind c.run_from-in-115.result params (get_or c.args.bytes.now 0 0) (search rules) c.after-at-in-115.ensures c.run_from-in-115.ensures)
    ∙ c.step_digits-in-115.ensures front params

pub returns-in-len1-up : goal.returns-in-len1-up
returns-in-len1-up c front params =
    from_next (Inside front c.args.at (Bare c.args.kind)) (Inside front c.after.result (Digits c.args.kind Plain c.with_byte-run.result)) params params c.args.bytes.now c.in-len1-up.len_at_least
    (plain_begins front c.args.at c.after.result c.args.kind c.with_byte-run.result params (get_or c.args.bytes.now 0 0) (sym c.is_ascii_digit.ensures.value ∙ c.if-is_ascii_digit.true) c.after.ensures (rw c.run_from-in-len1-up.ensures at c.with_byte-run.ensures))
    ∙ c.step_digits-in-len1-up.ensures front params
