use Rattle.std.proofs.Common.{◌+◌, ◌-◌, ◌*◌, ℕ, get_or, arith}
use Rattle.vk_lanes.specs.Masks.{is_on}
use Rattle.vk_lanes.specs.Words.{word_in}
use Rattle.vk_lanes.specs.Inner.Blocks.{chosen}
use Rattle.vk_lanes.specs.Inner.Patterns.{pattern}
use Rattle.vk_lanes.proofs.InRows.{eight_places, written_as}
use Rattle.vk_lanes.proofs.rows.block.Goals as goal

pub returns : goal.returns
returns c =
    let rows = c.args.rows.now in
    let at : ℕ = 8 * c.args.k in
    written_as (c.args.d + at) (c.args.d + at + 8) (c.args.d + (at + 8)) (λ j. get_or c.step-words.result (j - (c.args.d + at)) 0)
    (chosen (λ j. is_on c.args.mask.now (j - c.args.d)) (λ j. pattern c.args.op c.args.t (word_in rows (c.args.a + (j - c.args.d))) (word_in rows (c.args.b + (j - c.args.d)))) rows)
    rows c.store.new.row (omega arith)
    (eight_places (is_on c.args.mask.now) (pattern c.args.op c.args.t) rows (λ i. get_or c.load.result i 0) (λ i. get_or c.load-2.result i 0) (λ i. get_or c.load-3.result i 0)
    (λ i. get_or c.step-words.result i 0) c.args.a c.args.b c.args.d at c.load.ensures.lanes c.load-2.ensures.lanes c.load-3.ensures.lanes c.step-words.ensures.lanes)
    c.store.ensures
