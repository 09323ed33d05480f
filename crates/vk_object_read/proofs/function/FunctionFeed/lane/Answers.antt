use Rattle.std.proofs.Common.{◌+◌, refl}
use Rattle.vk_code_read.specs.Inner.LeftCode.{code_width}
use Rattle.vk_object_read.specs.Inner.LeftFunction.{after_lane}
use Rattle.vk_object_read.proofs.function.FunctionFeed.lane.Goals as goal

pub returns-in_ok-push : goal.returns-in_ok-push
returns-in_ok-push g c = λ next.
    let s = c.args.self.now in
    let end = c.args.at + code_width s.code in
    rw (
      c.requires.stage,
      c.in-Ok.ensures (after_lane s.functions s.function s.scalar s.lanes c.args.left next),
      c.in-Done.is,
      c.lanes.ensures end next,
      c.in_ok-push.ensures.ok,
      c.row_of.ensures,
      c.replace-code.ensures.value,
    ) refl
