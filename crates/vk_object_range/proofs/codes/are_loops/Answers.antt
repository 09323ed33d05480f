use Rattle.std.proofs.Common.{sym, ◌∙◌}
use Rattle.vk_code.specs.Listing.{simd_site_of}
use Rattle.vk_object_laws.specs.Ranges.{loop_in_range}
use Rattle.vk_object_range.proofs.Lists.{all_mapped}
use Rattle.vk_object_range.proofs.codes.are_loops.Goals as goal

pub returns : goal.returns
returns c = c.each_loop.ensures ∙ sym (all_mapped simd_site_of loop_in_range c.args.loops.now)
