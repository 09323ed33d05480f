use Rattle.std.proofs.Common.{◌≡◌, ◌⊎◌, ◌∙◌, [], List, ℕ, Err, ap, sym, subst}
use Rattle.vk_ends.specs.declared.ends.End.{End}
use Rattle.vk_ends.specs.declared.ends.End.TheVariants.{Words, Memory}
use Rattle.vk_requests.specs.Command.{IsCommand, IsWordFault, files_of}
use Rattle.vk_cli.specs.Commands.{CommandHolds}
use Rattle.vk_cli.proofs.Answered.{memory_holds}
use Rattle.vk_cli.proofs.call.vfabi.Goals as goal

pub returns-in-Err-Fault-clause-words_when : goal.returns-in-Err-Fault-clause-words_when
returns-in-Err-Fault-clause-words_when g c rule is =
    subst (λ r. (c.report.result ≡ Words (record { rule = r })) ⊎ (c.report.result ≡ Memory))
    (c.request_of.ensures.every rule (subst (λ (ws : List (List ℕ)). IsWordFault ws rule) (sym c.texts.ensures) is) c.in-Err-Fault.rule (c.in-Err-Fault.is ∙ ap Err c.in-Err-Fault.field-0-is))
    c.report.ensures.end

pub returns-in-Err-Fault-clause-reports : goal.returns-in-Err-Fault-clause-reports
returns-in-Err-Fault-clause-reports g c k is =
    absurd (c.request_of.ensures.due k (subst (λ (ws : List (List ℕ)). IsCommand ws k) (sym c.texts.ensures) is) c.in-Err-Fault.rule (c.in-Err-Fault.is ∙ ap Err c.in-Err-Fault.field-0-is))

pub returns-in-Err-Memory-clause-reports : goal.returns-in-Err-Memory-clause-reports
returns-in-Err-Memory-clause-reports g c k is = c.report_memory.ensures.reports (files_of k)

pub returns-in-Err-Memory-clause-words_reports : goal.returns-in-Err-Memory-clause-words_reports
returns-in-Err-Memory-clause-words_reports g c none = c.report_memory.ensures.reports []

pub returns-in-Err-Memory-clause-command : goal.returns-in-Err-Memory-clause-command
returns-in-Err-Memory-clause-command g c k is =
    let store = g.S.Store.state c.args.store.now in
    let out = g.O.Sink.state c.args.out.now in
    subst (λ (end : End). CommandHolds k store store out out end) (sym c.report_memory.ensures.end) (memory_holds k store out)
