-- One array more.
use Rattle.std.proofs.Common.{◌≡◌, rules}
use Rattle.vk_pointer_texts.specs.Heads.{array_of}
use Rattle.vk_pointer_texts.specs.Inner.Noted.{noted}
use Rattle.vk_pointer_texts.proofs.Positions.{one_numbered}
use Rattle.vk_pointer_texts.proofs.names.numbers_of.Goals as goal

pub loop-number-preserved : goal.loop-number-preserved
loop-number-preserved c = λ t.
    let same : c.in-Ok.array ≡ c.loop-number.number = search rules in
    one_numbered array_of t c.args.heads.now c.loop-number.number _ c.in-Ok.array c.loop-number-test.true same (noted c.loop-number.table t) (noted c.note.new.table t)
    (c.loop-number.invariant t) (c.in_ok-note.ensures t)
