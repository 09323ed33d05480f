use Rattle.std.proofs.Common.{ℕ, List, Option, ap, sym, ◌∙◌}
use Rattle.std.specs.Option.{option_map}
use Rattle.vk_object.specs.Texts.{is_before}
use Rattle.vk_code_format.specs.Fields.{comes_after}
use Rattle.vk_image_format.specs.declared.rows.RawArray.{RawArray}
use Rattle.vk_image_fields.proofs.Last.{last_is}
use Rattle.vk_image_fields.proofs.order.follows_arrays.Goals as goal

pub returns-in-len1-up : goal.returns-in-len1-up
returns-in-len1-up c =
    c.is_before.ensures
    ∙ ap (λ (x : List ℕ). is_before x c.args.text.now) c.as_slice.ensures.items
    ∙ sym (ap (λ (o : Option RawArray). comes_after is_before (option_map (λ a. a.text) o) c.args.text.now)
    (last_is c.args.arrays.now c.last-item.result c.in-len1-up.len_at_least c.last-item.is))
