use Rattle.std.proofs.Common.{sym, ◌∙◌}
use Rattle.vk_code.specs.Listing.{call_site_of}
use Rattle.vk_object_laws.specs.Ranges.{call_in_range}
use Rattle.vk_object_range.proofs.Lists.{all_mapped}
use Rattle.vk_object_range.proofs.codes.are_slots.Goals as goal

pub returns : goal.returns
returns c = c.each_slot.ensures ∙ sym (all_mapped call_site_of call_in_range c.args.slots.now)
