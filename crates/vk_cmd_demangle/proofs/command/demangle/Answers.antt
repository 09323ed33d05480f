-- What the command does, step by step, and so what holds.
use Rattle.std.proofs.Common.{◌≡◌, ◌∙◌, Err, ap, refl}
use Rattle.std.specs.List.{concat}
use Rattle.vk_ends.specs.declared.ends.Refusal.TheVariants.{Name as Unnamed}
use Rattle.vk_ends.proofs.Acting.{acts_printed, acts_refused, acts_unread}
use Rattle.vk_ends.proofs.Holding.{holds}
use Rattle.vk_cmd_demangle.specs.Demangle.{AllowsNames, PrintsNames, RefusesNames}
use Rattle.vk_cmd_demangle.proofs.Lined.{one_text}
use Rattle.vk_cmd_demangle.proofs.Told.{all_printed, allowed_printed, allowed_unread, line_refused, too_long}
use Rattle.vk_cmd_demangle.proofs.command.demangle.Goals as goal

pub returns-in-Err : goal.returns-in-Err
returns-in-Err g c =
    let contents = (g.S.Store.state c.args.store.now).file c.args.file.now in
    holds (one_text contents)
    (acts_unread (g.O.Sink.state c.args.out.now) c.in-Err.end c.in-Err.ensures.unread
    (λ told e. too_long contents (c.in-Err.ensures.size told (ap Err e)))
    (λ e. c.in-Err.ensures.failed (ap Err e))
    (allowed_unread c.in-Err.end c.in-Err.ensures.unread) c.read_input.ensures.reads)

pub returns-in-Err-Name : goal.returns-in-Err-Name
returns-in-Err-Name g c =
    let contents = (g.S.Store.state c.args.store.now).file c.args.file.now in
    holds (one_text contents)
    (acts_refused (g.O.Sink.state c.args.out.now) (Unnamed c.in-Err-Name.line c.in-Err-Name.at c.in-Err-Name.rule)
    (λ told. line_refused contents c.in-Ok.bytes.items c.deref.result.now c.in-Err-Name.line c.in-Err-Name.at c.in-Err-Name.rule
    (c.in-Ok.ensures.found told) c.deref.ensures.value c.in-Ok.ensures.fits
    (c.demangled.ensures.refused c.in-Err-Name.line c.in-Err-Name.at c.in-Err-Name.rule (c.in-Err-Name.is ∙ ap Err c.in-Err-Name.field-0-is)))
    tt c.read_input.ensures.reads)

pub returns : goal.returns
returns g c =
    let contents = (g.S.Store.state c.args.store.now).file c.args.file.now in
    let named = c.in-Ok-demangled.ensures.names in
    holds (one_text contents)
    (acts_printed (g.O.Sink.state c.args.out.now) (g.O.Sink.state c.print.new.out) (concat c.in-Ok-demangled.lines) c.print.result
    (λ told. all_printed contents c.in-Ok.bytes.items c.deref.result.now (concat c.in-Ok-demangled.lines)
    (c.in-Ok.ensures.found told) c.deref.ensures.value c.in-Ok.ensures.fits named.0 named.1 (c.in-Ok-demangled.ensures.printed named.0 named.1))
    c.print.ensures.possible (λ tells. c.print.ensures.prints tells) c.print.ensures.unwritten c.print.ensures.stays
    (allowed_printed c.print.result c.print.ensures.possible) c.read_input.ensures.reads)
