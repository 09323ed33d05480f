use Rattle.std.proofs.Common.{◌≡◌, ◌+◌, ◌-◌, ◌*◌, ℕ, Bool, List, ap₂, subst, arith}
use Rattle.vk_types.specs.declared.types.Word.{Word}
use Rattle.vk_lanes.specs.Masks.{is_on, lane_count}
use Rattle.vk_lanes.specs.Words.{word_in}
use Rattle.vk_lanes.specs.Inner.Blocks.{WritesOn, chosen}
use Rattle.vk_lanes.specs.Inner.Patterns.{pattern}
use Rattle.vk_lanes.proofs.InRows.{joins_row, operand_same, row_written}
use Rattle.vk_lanes.proofs.rows.compute.Goals as goal

pub loop-k-preserved : goal.loop-k-preserved
loop-k-preserved c =
    let on : ℕ → Bool = is_on c.args.mask.now in
    let old : List Word = c.args.rows.now in
    let cur : List Word = c.loop-k.rows in
    let d : ℕ = c.args.d in
    let n : ℕ = 8 * c.loop-k.k in
    let value = λ (rows : List Word) (i : ℕ). pattern c.args.op c.args.t (word_in rows (c.args.a + i)) (word_in rows (c.args.b + i)) in
    let written = chosen (λ j. on (j - d)) (λ j. value old (j - d)) old in
    subst (λ m. WritesOn d (d + m) (λ j. on (j - d)) (λ j. value old (j - d)) old c.block.new.rows) (let e : n + 8 ≡ 8 * (c.loop-k.k + 1) = omega arith in e)
    (joins_row d n (n + 8) on (value old) (value cur) old cur c.block.new.rows (omega arith) c.loop-k.invariant c.block.ensures
    (λ i l h. ap₂ (pattern c.args.op c.args.t)
    (operand_same (lane_count c.args.mask.now) c.args.a d n written old cur c.requires.left_row (omega arith) c.loop-k.invariant i l (omega arith))
    (operand_same (lane_count c.args.mask.now) c.args.b d n written old cur c.requires.right_row (omega arith) c.loop-k.invariant i l (omega arith))))

pub loop-i-preserved : goal.loop-i-preserved
loop-i-preserved c =
    let on : ℕ → Bool = is_on c.args.mask.now in
    let old : List Word = c.args.rows.now in
    let cur : List Word = c.loop-i.rows in
    let d : ℕ = c.args.d in
    let n : ℕ = c.loop-i.i in
    let value = λ (rows : List Word) (i : ℕ). pattern c.args.op c.args.t (word_in rows (c.args.a + i)) (word_in rows (c.args.b + i)) in
    let written = chosen (λ j. on (j - d)) (λ j. value old (j - d)) old in
    joins_row d n (n + 1) on (value old) (value cur) old cur c.lane.new.rows (omega arith) c.loop-i.invariant c.lane.ensures
    (λ i l h. ap₂ (pattern c.args.op c.args.t)
    (operand_same (lane_count c.args.mask.now) c.args.a d n written old cur c.requires.left_row (omega arith) c.loop-i.invariant i l (omega arith))
    (operand_same (lane_count c.args.mask.now) c.args.b d n written old cur c.requires.right_row (omega arith) c.loop-i.invariant i l (omega arith)))

pub returns : goal.returns
returns c =
    let on : ℕ → Bool = is_on c.args.mask.now in
    let old : List Word = c.args.rows.now in
    let value = λ (i : ℕ). pattern c.args.op c.args.t (word_in old (c.args.a + i)) (word_in old (c.args.b + i)) in
    let end : c.loop-i.i ≡ lane_count c.args.mask.now = omega arith in
    row_written (lane_count c.args.mask.now) c.args.d on value old c.loop-i.rows
    (subst (λ m. WritesOn c.args.d (c.args.d + m) (λ j. on (j - c.args.d)) (λ j. value (j - c.args.d)) old c.loop-i.rows) end c.loop-i.invariant)
