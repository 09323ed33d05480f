use Rattle.std.proofs.Common.{ℕ, List, Option, not, ap, sym, ◌∙◌}
use Rattle.std.specs.Option.{option_map}
use Rattle.vk_object.specs.Texts.{is_before}
use Rattle.vk_image_format.specs.declared.rows.RawEntry.{RawEntry}
use Rattle.vk_image_format.specs.Image.{keeps_order, where_some}
use Rattle.vk_image_fields.proofs.Last.{last_is}
use Rattle.vk_image_fields.proofs.order.keeps_order.Goals as goal

pub returns-in-len1-up : goal.returns-in-len1-up
returns-in-len1-up c =
    ap not (c.is_before.ensures ∙ ap (λ (x : List ℕ). is_before c.args.text.now x) c.as_slice.ensures.items)
    ∙ sym (ap (λ (o : Option RawEntry). where_some keeps_order (option_map (λ e. e.front.name) o) c.args.text.now)
    (last_is c.args.entries.now c.last-item.result c.in-len1-up.len_at_least c.last-item.is))
