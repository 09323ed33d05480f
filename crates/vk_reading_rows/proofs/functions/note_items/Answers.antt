use Rattle.std.proofs.Common.{sym}
use Rattle.vk_ast.specs.Units.{item_of}
use Rattle.vk_rules.specs.Verdicts.{judged}
use Rattle.vk_reading_rows.specs.Inner.Noted.{noted}
use Rattle.vk_reading_rows.specs.Functions.{defines}
use Rattle.vk_reading_rows.proofs.Placing.{or_none, one_item_placed}
use Rattle.vk_reading_rows.proofs.functions.note_items.Goals as goal

pub loop-number-init : goal.loop-number-init
loop-number-init c = λ t. sym (or_none (noted c.args.table.now t))

pub loop-number-preserved : goal.loop-number-preserved
loop-number-preserved c = λ t.
    one_item_placed item_of (defines (judged c.args.checked.now).texts t) (λ j. record { unit = c.args.unit; item = j }) c.args.items.now c.loop-number.number c.index-items-number.result
    c.loop-number-test.true c.index-items-number.is (noted c.args.table.now t) (noted c.loop-number.table t) (noted c.note_item.new.table t) (c.loop-number.invariant t) (c.in_ok-note_item.ensures t)
