use Rattle.std.proofs.Common.{ap, ◌++◌, ◌∙◌}
use Rattle.vk_format.proofs.Pieces.{advance_more, judge_advance, told_stays}
use Rattle.vk_format.specs.Format.{advance, ended}
use Rattle.vk_format.proofs.laws.pieces.Goals as goal

pub returns-clause-pieces : goal.returns-clause-pieces
returns-clause-pieces g c = advance_more

pub returns-clause-end : goal.returns-clause-end
returns-clause-end g c = judge_advance

pub returns-clause-fault : goal.returns-clause-fault
returns-clause-fault g c f at xs ys e h = judge_advance f at (xs ++ ys) ∙ ap ended (advance_more f at xs ys) ∙ told_stays (advance f at xs) e h ys
