use Rattle.std.proofs.Common.{◌∙◌, arith, sym}
use Rattle.vk_lanes.specs.Masks.{is_on}
use Rattle.vk_object.specs.Machine.{word_in}
use Rattle.vk_frames.specs.Frames.{lanes_of}
use Rattle.vk_direct.specs.Given.{ends_on}
use Rattle.vk_direct.proofs.Results.{written}
use Rattle.vk_direct.proofs.taken.take_result.Goals as goal

pub returns : goal.returns
returns c =
    written c.args.lane (ends_on (is_on c.args.mask.now) (lanes_of c.args.frame.now)) (λ j. word_in c.args.register (lanes_of c.args.frame.now j)) c.args.results.now c.result_in.result.0
    (omega (arith, c.requires.results, c.requires.lane)) (sym c.ends_on.ensures ∙ c.if-not-ends_on.false) c.result_in.ensures
