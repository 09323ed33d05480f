use Rattle.std.proofs.Common.{◌≡◌, ◌-◌, drop}
use Rattle.vk_object.specs.Images.{array_before}
use Rattle.vk_object.specs.Tables.{array_list_of}
use Rattle.vk_object.specs.Texts.{ascend}
use Rattle.vk_image.proofs.arrays.do_names_ascend.Given as goal

-- the arrays so far ascend
abbrev pub invariant-loop-at : goal.invariant-loop-at
invariant-loop-at l = ascend (λ a b. array_before (array_list_of a) (array_list_of b)) l.arrays ≡ ascend (λ a b. array_before (array_list_of a) (array_list_of b)) (drop (l.at - 1) l.arrays)
