use Rattle.std.proofs.Common.{map, sym, ◌∙◌}
use Rattle.vk_object.specs.Parameters.{is_param}
use Rattle.vk_code_format.specs.Parameters.{param_of}
use Rattle.vk_image_fields.proofs.Lists.{all_mapped}
use Rattle.vk_image_fields.proofs.parameters.are_kinds.Goals as goal

pub returns : goal.returns
returns c = c.are_kinds_among.ensures ∙ sym (all_mapped param_of (is_param (map param_of c.args.rows.now)) c.args.rows.now)
