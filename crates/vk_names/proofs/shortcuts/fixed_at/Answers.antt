use Rattle.vk_kinds.specs.declared.kinds.Length.{Length}
use Rattle.vk_names.specs.declared.states.State.TheVariants.{LenDigits, Next}
use Rattle.vk_kinds.specs.declared.kinds.Len.TheVariants.{Fixed}
use Rattle.std.proofs.Common.{◌∙◌, sym, get_or}
use Rattle.vk_names.proofs.ManyBytes.{from_same, len_digits_are, len_ends}
use Rattle.vk_names.proofs.shortcuts.fixed_at.Goals as goal

pub returns : goal.returns
returns c params =
    let got = c.digits_of.result in
    let front : Length = record { isa = c.args.isa; masked = c.args.masked; len = Fixed c.in_ok-lanes.lanes } in
    len_digits_are c.args.isa c.args.masked params 0 c.args.run c.args.bytes.now (got.0, got.1, got.2.now) c.digits_of.ensures
    ∙ from_same (LenDigits c.args.isa c.args.masked got.1) (Next front c.saturating_add.result) params params got.2.now c.in-len1-up.len_at_least
    (len_ends params c.args.isa c.args.masked got.1 (get_or got.2.now 0 0) c.in_ok-lanes.lanes c.saturating_add.result c.number_of.result (sym c.is_name_byte.ensures ∙ c.if-not-is_name_byte.false) (sym c.is_ascii_digit.ensures.value ∙ c.if-is_ascii_digit.false) c.number_of.ensures.value (sym c.ok.ensures.value ∙ c.in_ok-lanes.was) c.saturating_add.ensures)
