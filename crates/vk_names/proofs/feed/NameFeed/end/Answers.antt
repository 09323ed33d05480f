use Rattle.vk_names.proofs.StateAnswers.{feed_ends}
use Rattle.vk_names.proofs.feed.NameFeed.end.Goals as goal

pub returns-clause-spelled : goal.returns-clause-spelled
returns-clause-spelled c bytes stands = (feed_ends c.args.self.now bytes c.ended.result stands c.ended.ensures).spelled

pub returns-clause-scalar : goal.returns-clause-scalar
returns-clause-scalar c bytes stands = (feed_ends c.args.self.now bytes c.ended.result stands c.ended.ensures).scalar

pub returns-clause-used : goal.returns-clause-used
returns-clause-used c bytes stands = (feed_ends c.args.self.now bytes c.ended.result stands c.ended.ensures).used

pub returns-clause-refused : goal.returns-clause-refused
returns-clause-refused c bytes stands = (feed_ends c.args.self.now bytes c.ended.result stands c.ended.ensures).refused

pub returns-clause-every_name : goal.returns-clause-every_name
returns-clause-every_name c bytes name stands = (feed_ends c.args.self.now bytes c.ended.result stands c.ended.ensures).every_name name

pub returns-clause-every_fault : goal.returns-clause-every_fault
returns-clause-every_fault c bytes at rule stands = (feed_ends c.args.self.now bytes c.ended.result stands c.ended.ensures).every_fault at rule
