use Rattle.std.proofs.Common.{List, ℕ, [], ◌∷◌, ◌++◌, ap, arith, ◌∙◌}
use Rattle.vk_cmd_mangle.proofs.Told.{line_more, line_text}
use Rattle.vk_cmd_mangle.proofs.command.lines_in.Goals as goal

pub loop-i-preserved : goal.loop-i-preserved
loop-i-preserved c =
    line_more c.args.names.now c.loop-i.i c.text.result.now c.loop-i.lines c.push-in-loop-i.new.self c.deref.result.now (let count = c.len-i-end.ensures in let below = c.loop-i-test.true in omega arith) c.text.ensures c.loop-i.invariant
    (c.deref.ensures.value ∙ line_text _ _ _ _ c.clear.ensures.items c.in_ok-extend_from_slice.ensures.items c.in_ok-push.ensures.items) c.in_ok-push-2.ensures.ok
