-- What the command does, step by step, and so what holds.
use Rattle.std.proofs.Common.{◌≡◌, ◌∙◌, Err, ap, refl}
use Rattle.std.specs.List.{concat}
use Rattle.vk_ends.specs.declared.ends.Refusal.TheVariants.{NotYet, Unit as Unfit}
use Rattle.vk_ends.proofs.Acting.{acts_printed, acts_refused, acts_unread}
use Rattle.vk_ends.proofs.Holding.{holds}
use Rattle.vk_cmd_mangle.proofs.Lined.{one_text}
use Rattle.vk_cmd_mangle.proofs.Told.{all_printed, allowed_printed, allowed_unread, rule_refused, simd_refused, too_long}
use Rattle.vk_cmd_mangle.proofs.command.mangle.Goals as goal

pub returns-in-Err : goal.returns-in-Err
returns-in-Err g c =
    let contents = (g.S.Store.state c.args.store.now).file c.args.unit.now in
    holds (one_text c.args.target contents)
    (acts_unread (g.O.Sink.state c.args.out.now) c.in-Err.end c.in-Err.ensures.unread
    (λ told e. too_long c.args.target contents (c.in-Err.ensures.size told (ap Err e)))
    (λ e. c.in-Err.ensures.failed (ap Err e))
    (allowed_unread c.in-Err.end c.in-Err.ensures.unread) c.read_input.ensures.reads)

pub returns-in-Err-Rule : goal.returns-in-Err-Rule
returns-in-Err-Rule g c =
    let contents = (g.S.Store.state c.args.store.now).file c.args.unit.now in
    holds (one_text c.args.target contents)
    (acts_refused (g.O.Sink.state c.args.out.now) (Unfit 0 c.in-Err-Rule.line c.in-Err-Rule.directive c.in-Err-Rule.rule)
    (λ told. rule_refused c.args.target contents c.in-Ok.bytes.items c.deref.result.now c.in-Err-Rule.line c.in-Err-Rule.directive c.in-Err-Rule.rule
    (c.in-Ok.ensures.found told) c.deref.ensures.value c.in-Ok.ensures.fits
    (c.lines_of.ensures.refused c.in-Err-Rule.line c.in-Err-Rule.directive c.in-Err-Rule.rule (c.in-Err-Rule.is ∙ ap Err c.in-Err-Rule.field-0-is)))
    refl c.read_input.ensures.reads)

pub returns-in-Err-NotYet : goal.returns-in-Err-NotYet
returns-in-Err-NotYet g c =
    let contents = (g.S.Store.state c.args.store.now).file c.args.unit.now in
    holds (one_text c.args.target contents)
    (acts_refused (g.O.Sink.state c.args.out.now) (NotYet 0)
    (λ told. simd_refused c.args.target contents c.in-Ok.bytes.items c.deref.result.now
    (c.in-Ok.ensures.found told) c.deref.ensures.value c.in-Ok.ensures.fits
    (c.lines_of.ensures.not_yet (c.in-Err-NotYet.is ∙ ap Err c.in-Err-NotYet.field-0-is)))
    refl c.read_input.ensures.reads)

pub returns : goal.returns
returns g c =
    let contents = (g.S.Store.state c.args.store.now).file c.args.unit.now in
    let named = c.in-Ok-lines_of.ensures.named in
    holds (one_text c.args.target contents)
    (acts_printed (g.O.Sink.state c.args.out.now) (g.O.Sink.state c.print.new.out) (concat c.in-Ok-lines_of.lines) c.print.result
    (λ told. all_printed c.args.target contents c.in-Ok.bytes.items c.deref.result.now c.in-Ok-lines_of.lines named.0
    (c.in-Ok.ensures.found told) c.deref.ensures.value c.in-Ok.ensures.fits named.1 named.2)
    c.print.ensures.possible (λ tells. c.print.ensures.prints tells) c.print.ensures.unwritten c.print.ensures.stays
    (allowed_printed c.print.result c.print.ensures.possible) c.read_input.ensures.reads)
