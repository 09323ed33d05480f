use Rattle.std.proofs.Common.{ℕ, List, Option, ap, sym, ◌∙◌}
use Rattle.vk_object.specs.Texts.{is_before}
use Rattle.vk_code_format.specs.Fields.{comes_after}
use Rattle.vk_object_read.proofs.Last.{last_is}
use Rattle.vk_object_read.proofs.object.follows.Goals as goal

pub returns-in-len1-up : goal.returns-in-len1-up
returns-in-len1-up c =
    c.is_before.ensures
    ∙ ap (λ (x : List ℕ). is_before x c.args.text.now) c.as_slice.ensures.items
    ∙ sym (ap (λ (o : Option (List ℕ)). comes_after is_before o c.args.text.now) (last_is c.args.symbols.now c.last-item.result c.in-len1-up.len_at_least c.last-item.is))
