use Rattle.std.proofs.Common.{sym, ◌∙◌}
use Rattle.vk_code.specs.Listing.{listing_of}
use Rattle.vk_object_laws.specs.Ranges.{code_in_range}
use Rattle.vk_object_range.proofs.Lists.{all_mapped}
use Rattle.vk_object_range.proofs.codes.are_codes.Goals as goal

pub returns : goal.returns
returns c = c.each_code.ensures ∙ sym (all_mapped listing_of code_in_range c.args.codes.now)
