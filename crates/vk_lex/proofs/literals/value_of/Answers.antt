use Rattle.std.proofs.Common.{◌+◌, ◌*◌, ◌^◌, ◌≤◌, ◌∙◌, ap₂, min, arith}
use Rattle.vk_lex.proofs.Values.{next_digit}
use Rattle.vk_lex.proofs.literals.value_of.Goals as goal

pub loop-digit-preserved : goal.loop-digit-preserved
loop-digit-preserved c =
    let is = c.min-value.ensures ∙ ap₂ (λ r d. min (c.loop-digit.value * r + d) (2 ^ 64)) c.radix.ensures (c.from.ensures ∙ c.digit_value.ensures) in
    let small : c.min-value.result ≤ 2 ^ 64 = omega (arith, c.min-value.ensures) in
    (next_digit c.args.base (2 ^ 64) c.args.digits.now c.loop-digit.digit-index c.loop-digit.value c.min-value.result c.loop-digit-test.true is ∙ c.loop-digit.invariant.0, small)
