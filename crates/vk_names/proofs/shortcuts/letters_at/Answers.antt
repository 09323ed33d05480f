use Rattle.std.proofs.Common.{rules, ◌∙◌, sym}
use Rattle.vk_names.proofs.ManyBytes.{letters_are}
use Rattle.vk_names.proofs.shortcuts.letters_at.Goals as goal

pub returns : goal.returns
returns c params =
    letters_are params c.args.bytes.now c.in-AtMask.isa c.in-AtLen.isa c.in-AtLen.masked c.in-95.len_at_least
    (record { first = search rules; second = search rules; third = search rules; fourth = search rules })
    (sym c.is_name_byte.ensures ∙ c.if-not-is_name_byte.false) (sym c.is_name_byte-else-not-is_name_byte.ensures ∙ c.if-not-is_name_byte-2.false)
    (sym c.isa_on.ensures ∙ c.in-AtMask.is) (sym c.mask_on.ensures ∙ c.in-AtLen.is)
