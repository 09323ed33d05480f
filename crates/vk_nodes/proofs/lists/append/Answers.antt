use Rattle.std.proofs.Common.{◌≡◌, ◌++◌, OnOk, sym, ap, ◌∙◌, rules}
use Rattle.std.proofs.lemmas.List.{map-id}
use Rattle.std.proofs.lemmas.Iterator.Adapters.{fact_from_extend, YieldsList-from_vec}
use Rattle.vk_nodes.proofs.lists.append.Goals as goal

pub returns : goal.returns
returns g c =
    let moved : OnOk c.extend.result (c.extend.new.self.items ≡ c.args.list.now.items ++ c.args.more.items) =
    fact_from_extend (λ x. x) c.extend.result c.extend.ensures.ran (λ it b. YieldsList-from_vec {s = it} _ b.0 (b.1 ∙ c.args.more.ok.0))
    (λ xs e h. h.0 ∙ ap (λ ys. c.args.list.now.items ++ ys) (sym (map-id xs) ∙ e)) in
    search rules
