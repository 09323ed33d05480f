-- The operators that work on patterns.
use Rattle.std.proofs.Common.{ap, sym, ◌∙◌, ◌≡◌, Ok, pos, ◌*ℤ◌, ◌^◌, FitsSigned, rules}
use Rattle.std.specs.Int.{w128}
use Rattle.std.proofs.lemmas.Int.{to_z-of_z}
use Rattle.vk_types.specs.Numbers.{number_of, wrap_number}
use Rattle.vk_types.specs.Operators.{shift_count}
use Rattle.vk_types.proofs.Patterns.{and_of_patterns, or_of_patterns, product_of_patterns, shifted_pattern, xor_of_patterns}
use Rattle.vk_types.proofs.operators.op2.Goals as goal

pub returns-in-Mul-clause-number : goal.returns-in-Mul-clause-number
returns-in-Mul-clause-number c =
    rw (c.in-Mul.is, c.wrap_pattern.ensures.number) (ap Ok (sym (product_of_patterns c.args.t c.args.bt c.args.a.0 c.args.b.0 c.requires.left.0 c.requires.right.0)))

pub returns-in-And-clause-number : goal.returns-in-And-clause-number
returns-in-And-clause-number c =
    rw (c.in-And.is, c.wrap_pattern-in-And.ensures.number) (ap Ok (sym (and_of_patterns c.args.t c.args.bt c.args.a.0 c.args.b.0 c.requires.left.0 c.requires.right.0)))

pub returns-in-Or-clause-number : goal.returns-in-Or-clause-number
returns-in-Or-clause-number c =
    rw (c.in-Or.is, c.wrap_pattern-in-Or.ensures.number) (ap Ok (sym (or_of_patterns c.args.t c.args.bt c.args.a.0 c.args.b.0 c.requires.left.0 c.requires.right.0)))

pub returns-in-Xor-clause-number : goal.returns-in-Xor-clause-number
returns-in-Xor-clause-number c =
    rw (c.in-Xor.is, c.wrap_pattern-in-Xor.ensures.number) (ap Ok (sym (xor_of_patterns c.args.t c.args.bt c.args.a.0 c.args.b.0 c.requires.left.0 c.requires.right.0)))

pub returns-in-Shl-clause-number : goal.returns-in-Shl-clause-number
returns-in-Shl-clause-number c =
    let fits : FitsSigned w128 c.number-y.result = search rules in
    let count : c.shift.result ≡ shift_count c.args.t (number_of c.args.bt c.args.b.0) =
    c.shift.ensures.count ∙ ap (shift_count c.args.t) (to_z-of_z w128 c.number-y.result fits ∙ c.number-y.ensures.number) in
    rw (c.in-Shl.is, c.wrap_pattern-in-Shl.ensures.number) (ap Ok (sym (shifted_pattern c.args.t c.args.a.0 c.shift.result c.requires.left.0 c.shift.ensures.less
    ∙ ap (λ n. wrap_number c.args.t (number_of c.args.t c.args.a.0 *ℤ pos (2 ^ n))) count)))
