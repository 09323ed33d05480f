use Rattle.std.proofs.Common.{◌-◌, ◌∙◌, sym, arith}
use Rattle.vk_object.specs.Images.{array_before}
use Rattle.vk_object.specs.Tables.{array_list_of}
use Rattle.vk_image.proofs.Lists.{ascend_end}
use Rattle.vk_image.proofs.arrays.do_names_ascend.Goals as goal

pub returns : goal.returns
returns c = sym (c.loop-at.invariant ∙ ascend_end (λ a b. array_before (array_list_of a) (array_list_of b)) c.args.arrays.now (c.loop-at.at - 1) (omega arith))
