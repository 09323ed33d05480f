use Rattle.std.proofs.Common.{nat_lt, ◌∙◌}
use Rattle.vk_frames.proofs.Writes.{all_run, lanes_empty}
use Rattle.vk_frames.proofs.frame.Frame.new.Goals as goal

pub returns-clause-empty : goal.returns-clause-empty
returns-clause-empty c = lanes_empty c.args.lanes c.args.registers 256 c.clear.new.words c.clear.ensures

pub invariant_of-result-clause-runs : goal.invariant_of-result-clause-runs
invariant_of-result-clause-runs c j = c.all.ensures.on j ∙ all_run 256 j (nat_lt j c.args.lanes)
