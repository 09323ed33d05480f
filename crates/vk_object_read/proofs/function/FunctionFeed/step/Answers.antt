use Rattle.std.proofs.Common.{◌≡◌, ◌+◌, true, refl, sym}
use Rattle.vk_code.specs.Valid.{is_good_simdlen}
use Rattle.vk_code_format.specs.Parameters.{align_fits, kind_fits}
use Rattle.vk_object_read.specs.Inner.LeftFunction.{type_next}
use Rattle.vk_object_read.proofs.function.FunctionFeed.step.Goals as goal

pub returns-in-Err : goal.returns-in-Err
returns-in-Err g c = λ next.
    let h = c.in-Err.ensures (c.args.at + 2) next in
    let passes : is_good_simdlen c.simdlen_of-simdlen.result ≡ true = sym c.if-not-is_good_simdlen.ensures in
    rw (c.in-Simdlen.is, ← c.u16_of-in-Simdlen.ensures.number, ← c.simdlen_of-simdlen.ensures, passes)
    (rw (c.new-in-Simdlen.ensures.empty, c.len-params.ensures.length) at h)

pub returns-in-Err-params : goal.returns-in-Err-params
returns-in-Err-params g c = λ next.
    let s = c.args.self.now in
    let h = c.in-Err-params.ensures (c.args.at + 4) next in
    let passes : align_fits (type_next s.function s.directive) c.align_of-align.result ≡ true = rw (← c.next_type-in-Align.ensures) (sym c.if-not-align_fits.ensures) in
    rw (c.in-Align.is, ← c.u32_of.ensures.number, ← c.align_of-align.ensures, passes) (rw c.in_ok-push-in-Align.ensures.ok at h)

pub returns-else-not-kind_fits : goal.returns-else-not-kind_fits
returns-else-not-kind_fits g c = λ next.
    let s = c.args.self.now in
    let passes : kind_fits (type_next s.function s.directive) c.in-Some-param_kind_of.kind ≡ true = rw (← c.next_type.ensures) (sym c.if-not-kind_fits.ensures) in
    rw (c.in-Kind.is, ← c.u8_of-in-Kind.ensures.number, ← c.param_kind_of.ensures, c.in-Some-param_kind_of.is, passes) refl
