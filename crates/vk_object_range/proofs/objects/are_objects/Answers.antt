use Rattle.std.proofs.Common.{sym, ◌∙◌}
use Rattle.vk_object.specs.Objects.{data_list_of}
use Rattle.vk_object_laws.specs.Ranges.{data_in_range}
use Rattle.vk_object_range.proofs.Lists.{all_mapped}
use Rattle.vk_object_range.proofs.objects.are_objects.Goals as goal

pub returns : goal.returns
returns c = c.each_object.ensures ∙ sym (all_mapped data_list_of data_in_range c.args.rows.now)
