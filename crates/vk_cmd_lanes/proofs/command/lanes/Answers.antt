-- What the command does, step by step, and so what holds.
use Rattle.std.proofs.Common.{◌∙◌, Err, ap}
use Rattle.std.specs.List.{concat}
use Rattle.vk_ends.proofs.Acting.{acts_memory, acts_printed, acts_refused, acts_unread}
use Rattle.vk_ends.proofs.Holding.{holds}
use Rattle.vk_cmd_lanes.specs.Lanes.{asked_of}
use Rattle.vk_cmd_lanes.proofs.Lined.{one_text}
use Rattle.vk_cmd_lanes.proofs.Told.{allowed_printed, allowed_refused, allowed_unread, file_printed, file_refused, too_long}
use Rattle.vk_cmd_lanes.proofs.command.lanes.Goals as goal

pub returns-in-Err : goal.returns-in-Err
returns-in-Err g c =
    let r = asked_of c.args.call in
    let contents = (g.S.Store.state c.args.store.now).file c.args.call.unit.now in
    holds (one_text r contents)
    (acts_unread (g.O.Sink.state c.args.out.now) c.in-Err.end c.in-Err.ensures.unread
    (λ told e. too_long r contents (c.in-Err.ensures.size told (ap Err e)))
    (λ e. c.in-Err.ensures.failed (ap Err e))
    (allowed_unread c.in-Err.end c.in-Err.ensures.unread) c.read_input.ensures.reads)

pub returns-in-Err-Refused : goal.returns-in-Err-Refused
returns-in-Err-Refused g c =
    let r = asked_of c.args.call in
    let contents = (g.S.Store.state c.args.store.now).file c.args.call.unit.now in
    let due = c.call_unit.ensures.refused c.in-Err-Refused.refusal (c.in-Err-Refused.is ∙ ap Err c.in-Err-Refused.field-0-is) in
    holds (one_text r contents)
    (acts_refused (g.O.Sink.state c.args.out.now) c.in-Err-Refused.refusal
    (λ told. file_refused r contents c.in-Ok.bytes.items c.deref.result.now c.in-Err-Refused.refusal (c.in-Ok.ensures.found told) c.deref.ensures.value due)
    (allowed_refused r c.deref.result.now c.in-Err-Refused.refusal due) c.read_input.ensures.reads)

pub returns-in-Err-Memory : goal.returns-in-Err-Memory
returns-in-Err-Memory g c =
    let r = asked_of c.args.call in
    holds (one_text r ((g.S.Store.state c.args.store.now).file c.args.call.unit.now)) (acts_memory (g.O.Sink.state c.args.out.now) tt c.read_input.ensures.reads)

pub returns : goal.returns
returns g c =
    let r = asked_of c.args.call in
    let contents = (g.S.Store.state c.args.store.now).file c.args.call.unit.now in
    let text = concat c.in-Ok-call_unit.lines in
    holds (one_text r contents)
    (acts_printed (g.O.Sink.state c.args.out.now) (g.O.Sink.state c.print.new.out) text c.print.result
    (λ told. file_printed r contents c.in-Ok.bytes.items c.deref.result.now text (c.in-Ok.ensures.found told) c.deref.ensures.value c.in-Ok-call_unit.ensures.lines)
    c.print.ensures.possible (λ tells. c.print.ensures.prints tells) c.print.ensures.unwritten c.print.ensures.stays
    (allowed_printed c.print.result c.print.ensures.possible) c.read_input.ensures.reads)
