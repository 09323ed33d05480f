use Rattle.std.proofs.Common.{◌-◌, ◌∙◌, sym, arith}
use Rattle.vk_object.specs.Images.{entry_before}
use Rattle.vk_object.specs.Tables.{entry_list_of}
use Rattle.vk_image.proofs.Lists.{ascend_end}
use Rattle.vk_image.proofs.rows.do_rows_ascend.Goals as goal

pub returns : goal.returns
returns c = sym (c.loop-at.invariant ∙ ascend_end (λ a b. entry_before (entry_list_of a) (entry_list_of b)) c.args.entries.now (c.loop-at.at - 1) (omega arith))
