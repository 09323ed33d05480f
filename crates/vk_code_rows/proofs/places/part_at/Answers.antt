use Rattle.std.proofs.Common.{ap, sym, ◌∙◌}
use Rattle.vk_code_read.specs.Inner.Left.{place_of}
use Rattle.vk_code_rows.specs.Sums.{capped}
use Rattle.vk_code_rows.proofs.Lengths.{part_is}
use Rattle.vk_code_rows.proofs.places.part_at.Goals as goal

pub returns : goal.returns
returns c = c.before_part.ensures ∙ ap capped (sym (part_is (place_of c.args.place) c.args.row.now c.args.part))
