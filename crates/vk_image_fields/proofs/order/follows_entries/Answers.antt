use Rattle.std.proofs.Common.{Option, ap, sym, ◌∙◌}
use Rattle.std.specs.Option.{option_map}
use Rattle.vk_image_format.specs.declared.rows.RawEntry.{RawEntry}
use Rattle.vk_image_format.specs.Image.{name_before, where_some}
use Rattle.vk_image_fields.proofs.Last.{last_is}
use Rattle.vk_image_fields.proofs.order.follows_entries.Goals as goal

pub returns-in-len1-up : goal.returns-in-len1-up
returns-in-len1-up c =
    c.name_before.ensures
    ∙ sym (ap (λ (o : Option RawEntry). where_some name_before (option_map (λ e. e.front.name) o) c.args.name.now)
    (last_is c.args.entries.now c.last-item.result c.in-len1-up.len_at_least c.last-item.is))
