use Rattle.std.proofs.Common.{◌≡◌, IsTrue, List, [], ℕ, rules, subst, sym}
use Rattle.vk_io.specs.Sink.{Puts}
use Rattle.vk_ends.specs.Ends.{message_of}
use Rattle.vk_ends.specs.declared.ends.End.TheVariants.{Memory}
use Rattle.vk_ends.proofs.Messages.{reports_memory}
use Rattle.vk_ends.proofs.reporting.report_memory.Goals as goal

pub returns-clause-reports : goal.returns-clause-reports
returns-clause-reports g c files =
    let text : c.as_bytes.result.now ≡ message_of [] Memory = search rules in
    reports_memory files _ _ c.put.result
    (λ told. subst (λ (t : List ℕ). Puts (g.E.Sink.state c.args.err.now).bytes (g.E.Sink.state c.put.new.self).bytes c.put.result t) text (c.put.ensures.put told))
    c.put.ensures.calls c.put.ensures.stays
