use Rattle.std.proofs.Common.{sym, ◌∙◌}
use Rattle.vk_kinds.specs.Sizes.{signature_tree}
use Rattle.vk_object_laws.specs.Ranges.{directive_in_range}
use Rattle.vk_object_range.proofs.Lists.{all_mapped}
use Rattle.vk_object_range.proofs.directives.are_directives.Goals as goal

pub returns : goal.returns
returns c = c.each_directive.ensures ∙ sym (all_mapped signature_tree directive_in_range c.args.directives.now)
