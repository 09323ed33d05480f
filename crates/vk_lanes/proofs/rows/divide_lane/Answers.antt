use Rattle.std.proofs.Common.{◌≡◌, ◌+◌, ◌-◌, ◌∙◌, ap, cond, sym, true, ℕ, arith}
use Rattle.vk_lanes.specs.Kernels.{op2_word}
use Rattle.vk_lanes.specs.Masks.{is_on}
use Rattle.vk_lanes.specs.Words.{word_in}
use Rattle.vk_lanes.specs.Inner.Blocks.{chosen}
use Rattle.vk_lanes.proofs.InRows.{one_place}
use Rattle.vk_lanes.proofs.rows.divide_lane.Goals as goal

pub returns-then-get-clause-words : goal.returns-then-get-clause-words
returns-then-get-clause-words c =
    let rows = c.args.rows.now in
    let value = λ (i : ℕ). op2_word c.args.op c.args.t c.args.bt (word_in rows (c.args.a + i)) (word_in rows (c.args.b + i)) (word_in rows (c.args.d + i)) in
    let back : c.args.d + c.args.i - c.args.d ≡ c.args.i = omega arith in
    let live : is_on c.args.mask.now c.args.i ≡ true = sym c.get.ensures ∙ c.if-get.true in
    one_place (c.args.d + c.args.i) (c.args.d + (c.args.i + 1)) (chosen (λ j. is_on c.args.mask.now (j - c.args.d)) (λ j. value (j - c.args.d)) rows) rows c.quotient.result (omega arith) (omega arith)
    (c.quotient.ensures.word ∙ ap (λ t. cond t (value c.args.i) (word_in rows (c.args.d + c.args.i))) (sym live)
    ∙ ap (λ i. cond (is_on c.args.mask.now i) (value i) (word_in rows (c.args.d + c.args.i))) (sym back))
