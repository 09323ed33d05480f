use Rattle.std.proofs.Common.{rules, arith, ◌≡◌, ◌++◌, length, take}
use Rattle.std.proofs.lemmas.Grind.{common_steps}
use Rattle.vk_io.proofs.Fronts.{IsFront-fill}
use Rattle.vk_io.proofs.whole.read_more.Goals as goal

pub returns-clause-front : goal.returns-clause-front
returns-clause-front g c = λ told front.
    let at_end : c.len-2.result ≡ length c.args.all.now.items = search rules in
    let more : c.extend_from_slice.new.self.items ≡ c.args.all.now.items ++ take c.in_ok-count.count c.fill.new.into = grind (arith, common_steps) in
    rw more (IsFront-fill ((g.S.Store.state c.args.store.now).file c.args.name.now) _ _ _ _ at_end front (c.in_ok-count.ensures.bytes told))
