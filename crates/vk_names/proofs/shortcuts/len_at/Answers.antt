use Rattle.vk_names.specs.declared.states.State.TheVariants.{AtLen, LenDigits, Next}
use Rattle.std.proofs.Common.{◌∙◌, sym, get_or}
use Rattle.vk_names.proofs.ManyBytes.{from_next, len_read}
use Rattle.vk_names.proofs.shortcuts.len_at.Goals as goal

pub returns-in-Next : goal.returns-in-Next
returns-in-Next c params =
    from_next (AtLen c.args.isa c.args.masked) (Next c.in-Next.front c.in-Next.at) params params c.args.bytes.now c.in-len1-up.len_at_least
    (len_read params c.args.isa c.args.masked (get_or c.args.bytes.now 0 0) (Next c.in-Next.front c.in-Next.at) (sym c.is_name_byte.ensures ∙ c.if-not-is_name_byte.false) (sym c.len_on.ensures ∙ c.in-Next.is))

pub returns-in-LenDigits : goal.returns-in-LenDigits
returns-in-LenDigits c params =
    let next = LenDigits c.in-LenDigits.isa c.in-LenDigits.masked c.in-LenDigits.run' in
    rw (from_next (AtLen c.args.isa c.args.masked) next params params c.args.bytes.now c.in-len1-up.len_at_least
    (len_read params c.args.isa c.args.masked (get_or c.args.bytes.now 0 0) next (sym c.is_name_byte.ensures ∙ c.if-not-is_name_byte.false) (sym c.len_on.ensures ∙ c.in-LenDigits.is)))
    (c.fixed_at.ensures params)
