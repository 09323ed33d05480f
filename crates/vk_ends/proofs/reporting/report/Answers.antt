use Rattle.std.proofs.Common.{◌≡◌, IsTrue, List, ℕ, rules, subst, sym, map}
use Rattle.vk_io.specs.Sink.{Puts}
use Rattle.vk_ends.specs.Ends.{message_of}
use Rattle.vk_ends.specs.Reports.{Reports}
use Rattle.vk_ends.specs.declared.ends.End.{End}
use Rattle.vk_ends.proofs.Messages.{reports_told}
use Rattle.vk_ends.proofs.reporting.report.Goals as goal

pub returns-clause-reports : goal.returns-clause-reports
returns-clause-reports g c =
    let text : c.as_bytes.result.now ≡ message_of (map (λ file. file.now) c.args.files.now) c.args.end = search rules in
    subst (λ (e : End). Reports (map (λ file. file.now) c.args.files.now) e (g.E.Sink.state c.args.err.now) (g.E.Sink.state c.put-put.new.self)) (sym c.told.ensures)
    (reports_told (map (λ file. file.now) c.args.files.now) c.args.end _ _ c.put-put.result
    (λ told. subst (λ (t : List ℕ). Puts (g.E.Sink.state c.args.err.now).bytes (g.E.Sink.state c.put-put.new.self).bytes c.put-put.result t) text (c.put-put.ensures.put told))
    c.put-put.ensures.failed c.put-put.ensures.memory c.put-put.ensures.calls c.put-put.ensures.stays)

pub returns-in-Err-clause-reports : goal.returns-in-Err-clause-reports
returns-in-Err-clause-reports g c = c.report_memory.ensures.reports (map (λ file. file.now) c.args.files.now)
