use Rattle.std.proofs.Common.{◌≡◌, ◌-◌, drop}
use Rattle.vk_object.specs.Images.{entry_before}
use Rattle.vk_object.specs.Tables.{entry_list_of}
use Rattle.vk_object.specs.Texts.{ascend}
use Rattle.vk_image.proofs.rows.do_rows_ascend.Given as goal

-- the entries so far ascend
abbrev pub invariant-loop-at : goal.invariant-loop-at
invariant-loop-at l = ascend (λ a b. entry_before (entry_list_of a) (entry_list_of b)) l.entries ≡ ascend (λ a b. entry_before (entry_list_of a) (entry_list_of b)) (drop (l.at - 1) l.entries)
