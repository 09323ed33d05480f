use Rattle.std.proofs.Common.{◌≡◌, ℕ, None, Some, ap, bytes_eq, cond, ◌∙◌, rules}
use Rattle.std.specs.Option.{option_or}
use Rattle.vk_reading_rows.specs.Objects.{array_seen}
use Rattle.vk_reading_rows.specs.Inner.Noted.{noted}
use Rattle.vk_reading_rows.proofs.Positions.{one_numbered}
use Rattle.vk_reading_rows.proofs.numbers.numbers_of.Goals as goal

pub loop-number-preserved : goal.loop-number-preserved
loop-number-preserved c = λ t.
    let same : c.in-Ok.array ≡ c.loop-number.number = search rules in
    let item = c.index-objects-number.result in
    one_numbered array_seen t c.args.objects.now c.loop-number.number item c.loop-number-test.true c.index-objects-number.is (noted c.loop-number.table t) (noted c.note.new.table t)
    (c.loop-number.invariant t)
    (c.in_ok-note.ensures t ∙ ap (λ (k : ℕ). option_or (noted c.loop-number.table t) (cond (bytes_eq c.index-objects-number.result.text.now t) (Some k) None)) same)
