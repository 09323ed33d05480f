use Rattle.vk_names.specs.declared.feed.NameFeed.{NameFeed}
use Rattle.vk_names.proofs.StateAnswers.{fed_all}
use Rattle.vk_names.proofs.feed.NameFeed.take_all.Goals as goal

pub returns : goal.returns
returns c =
    let new : NameFeed = record { state = c.run_on-self.result; params = c.run_on-self.new.params } in
    fed_all c.args.self.now new c.args.piece.now c.run_on-self.ensures
