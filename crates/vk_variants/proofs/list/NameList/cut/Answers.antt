use Rattle.std.proofs.Common.{map, take, sym, ap, ◌∙◌}
use Rattle.std.proofs.lemmas.List.{take-map}
use Rattle.vk_variants.proofs.list.NameList.cut.Goals as goal

pub returns : goal.returns
returns c =
    ap (map (λ name. name.items)) c.truncate.ensures.items ∙ sym (take-map (λ name. name.items) c.args.len c.self.inside.names.items)
    ∙ ap (take c.args.len) c.self.view_is
