use Rattle.vk_names.specs.declared.states.State.TheVariants.{Inside, Next}
use Rattle.vk_names.specs.declared.steps.Item.TheVariants.{Bare}
use Rattle.std.proofs.Common.{◌∙◌, sym, ap, get_or, Some}
use Rattle.std.proofs.lemmas.Bool.{ne_eqb}
use Rattle.vk_names.proofs.ManyBytes.{from_next, param_begins}
use Rattle.vk_names.proofs.shortcuts.param_at.Goals as goal

pub returns-in-Bare : goal.returns-in-Bare
returns-in-Bare c front params room =
    let next = c.after.result in
    let item = Bare c.in-Bare.kind in
    rw (from_next (Next front c.args.at) (Inside front next item) params params c.args.bytes.now c.in-len1-up.len_at_least
    (param_begins front c.args.at next params (get_or c.args.bytes.now 0 0) item (sym c.is_name_byte.ensures ∙ c.if-not-is_name_byte.false) (ne_eqb _ _ c.if-byte-eq95.false) (sym c.item_of.ensures ∙ c.in_ok-item.was ∙ ap Some c.in-Bare.is) room c.after.ensures)
    ∙ c.step_at-item.ensures front params)
    (c.param_from.ensures front params)

pub returns-in_default-2 : goal.returns-in_default-2
returns-in_default-2 c front params room =
    let next = c.after-in_default-2.result in
    let item = c.in_ok-item.item in
    rw (from_next (Next front c.args.at) (Inside front next item) params params c.args.bytes.now c.in-len1-up.len_at_least
    (param_begins front c.args.at next params (get_or c.args.bytes.now 0 0) item (sym c.is_name_byte.ensures ∙ c.if-not-is_name_byte.false) (ne_eqb _ _ c.if-byte-eq95.false) (sym c.item_of.ensures ∙ c.in_ok-item.was) room c.after-in_default-2.ensures))
    (c.param_from-in_default-2.ensures front params)
