use Rattle.std.proofs.Common.{sym, ◌∙◌}
use Rattle.vk_object.specs.Objects.{function_list_of}
use Rattle.vk_object_laws.specs.Ranges.{function_in_range}
use Rattle.vk_object_range.proofs.Lists.{all_mapped}
use Rattle.vk_object_range.proofs.objects.are_functions.Goals as goal

pub returns : goal.returns
returns c = c.each_function.ensures ∙ sym (all_mapped function_list_of function_in_range c.args.rows.now)
