use Rattle.std.proofs.Common.{◌≡◌, ◌+◌, true, None, length, refl, sym, arith}
use Rattle.std.specs.Prelude.{nat_lt}
use Rattle.std.proofs.lemmas.Bool.{lt-ltb}
use Rattle.vk_code_format.specs.Parameters.{kind_fits}
use Rattle.vk_image_read.proofs.entry.EntryFeed.step.Goals as goal

pub returns-in-Err-code : goal.returns-in-Err-code
returns-in-Err-code g c = λ next.
    let h = c.in-Err-code.ensures c.args.entries c.args.before.now (c.args.at + 4) next in
    let inside : nat_lt c.u32_of-number.result (length c.args.codes.now) ≡ true = lt-ltb _ _ (omega (arith, c.if-codes-number.false)) in
    rw (c.in-CodeOf.is, ← c.u32_of-number.ensures.number, inside) h

pub returns-else-not-kind_fits : goal.returns-else-not-kind_fits
returns-else-not-kind_fits g c = λ next.
    let passes : kind_fits None c.in-Some-param_kind_of.kind ≡ true = sym c.if-not-kind_fits.ensures in
    rw (c.in-ParamKind.is, ← c.u8_of-in-ParamKind.ensures.number, ← c.param_kind_of.ensures, c.in-Some-param_kind_of.is, passes) refl
