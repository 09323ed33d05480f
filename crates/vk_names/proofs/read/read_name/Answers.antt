use Rattle.std.proofs.Common.{[]}
use Rattle.vk_names.proofs.StateAnswers.{feed_ends}
use Rattle.vk_names.proofs.Places.{told_exactly}
use Rattle.vk_names.proofs.read.read_name.Goals as goal

pub returns-clause-spelled : goal.returns-clause-spelled
returns-clause-spelled c = (feed_ends c.take_all.new.self c.args.bytes.now c.finish.result (c.take_all.ensures [] c.new-feed.ensures) c.finish.ensures).spelled

pub returns-clause-scalar : goal.returns-clause-scalar
returns-clause-scalar c = (feed_ends c.take_all.new.self c.args.bytes.now c.finish.result (c.take_all.ensures [] c.new-feed.ensures) c.finish.ensures).scalar

pub returns-clause-used : goal.returns-clause-used
returns-clause-used c = (feed_ends c.take_all.new.self c.args.bytes.now c.finish.result (c.take_all.ensures [] c.new-feed.ensures) c.finish.ensures).used

pub returns-clause-refused : goal.returns-clause-refused
returns-clause-refused c = (feed_ends c.take_all.new.self c.args.bytes.now c.finish.result (c.take_all.ensures [] c.new-feed.ensures) c.finish.ensures).refused

pub returns-clause-place : goal.returns-clause-place
returns-clause-place c few = told_exactly c.args.bytes.now c.finish.result few (feed_ends c.take_all.new.self c.args.bytes.now c.finish.result (c.take_all.ensures [] c.new-feed.ensures) c.finish.ensures).refused

pub returns-clause-every_name : goal.returns-clause-every_name
returns-clause-every_name c name = (feed_ends c.take_all.new.self c.args.bytes.now c.finish.result (c.take_all.ensures [] c.new-feed.ensures) c.finish.ensures).every_name name

pub returns-clause-every_fault : goal.returns-clause-every_fault
returns-clause-every_fault c at rule = (feed_ends c.take_all.new.self c.args.bytes.now c.finish.result (c.take_all.ensures [] c.new-feed.ensures) c.finish.ensures).every_fault at rule
