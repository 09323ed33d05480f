use Rattle.std.proofs.Common.{◌≡◌, ℕ, List, ◌++◌, length, subst}
use Rattle.vk_names.specs.Pieces.{IfDone}
use Rattle.vk_names.proofs.Staying.{text_stays, ended_stays, name_stays, due_stays, refusal_stays}
use Rattle.vk_names.proofs.StateAnswers.{feed_answers}
use Rattle.vk_names.proofs.feed.NameFeed.feed.Goals as goal

pub returns-clause-more : goal.returns-clause-more
returns-clause-more c bytes stands = (feed_answers c.take_all.new.self bytes c.progress.result stands c.progress.ensures).more

pub returns-clause-ended : goal.returns-clause-ended
returns-clause-ended c bytes stands = (feed_answers c.take_all.new.self bytes c.progress.result stands c.progress.ensures).ended

pub returns-clause-spelled : goal.returns-clause-spelled
returns-clause-spelled c bytes stands = (feed_answers c.take_all.new.self bytes c.progress.result stands c.progress.ensures).spelled

pub returns-clause-scalar : goal.returns-clause-scalar
returns-clause-scalar c bytes stands = (feed_answers c.take_all.new.self bytes c.progress.result stands c.progress.ensures).scalar

pub returns-clause-used : goal.returns-clause-used
returns-clause-used c bytes stands = (feed_answers c.take_all.new.self bytes c.progress.result stands c.progress.ensures).used

pub returns-clause-refused : goal.returns-clause-refused
returns-clause-refused c bytes stands = (feed_answers c.take_all.new.self bytes c.progress.result stands c.progress.ensures).refused

pub returns-clause-due : goal.returns-clause-due
returns-clause-due c bytes at rule stands = (feed_answers c.take_all.new.self bytes c.progress.result stands c.progress.ensures).due at rule

pub returns-clause-every_name : goal.returns-clause-every_name
returns-clause-every_name c bytes name stands = (feed_answers c.take_all.new.self bytes c.progress.result stands c.progress.ensures).every_name name

pub returns-clause-every_fault : goal.returns-clause-every_fault
returns-clause-every_fault c bytes at rule stands = (feed_answers c.take_all.new.self bytes c.progress.result stands c.progress.ensures).every_fault at rule

pub returns-clause-again_name : goal.returns-clause-again_name
returns-clause-again_name c bytes name stands ended spelled =
    let all = c.take_all.ensures bytes stands in
    (feed_answers c.take_all.new.self (bytes ++ c.args.piece.now) c.progress.result all c.progress.ensures).every_name name (ended_stays bytes c.args.piece.now ended) (name_stays bytes c.args.piece.now name ended spelled)

pub returns-clause-again_used : goal.returns-clause-again_used
returns-clause-again_used c bytes stands ended =
    let all = c.take_all.ensures bytes stands in
    subst (λ (t : List ℕ). IfDone c.progress.result (λ r. r.used ≡ length t)) (text_stays bytes c.args.piece.now ended)
    (feed_answers c.take_all.new.self (bytes ++ c.args.piece.now) c.progress.result all c.progress.ensures).used

pub returns-clause-again_fault : goal.returns-clause-again_fault
returns-clause-again_fault c bytes at rule stands due refused =
    let all = c.take_all.ensures bytes stands in
    (feed_answers c.take_all.new.self (bytes ++ c.args.piece.now) c.progress.result all c.progress.ensures).every_fault at rule (due_stays bytes c.args.piece.now at rule due) (refusal_stays bytes c.args.piece.now at rule due refused)
