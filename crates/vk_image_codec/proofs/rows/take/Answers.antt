use Rattle.std.proofs.Common.{◌≡◌, ◌+◌, ◌&&◌, true, Some, None, is_none, rules, ap, ap₂, sym, ◌∙◌}
use Rattle.vk_image_read.specs.Stages.{is_done}
use Rattle.vk_image_faults.specs.Ends.{faults_at}
use Rattle.vk_image_faults.proofs.Rules.{same_end}
use Rattle.vk_image_codec.specs.Rows.{rows_width}
use Rattle.vk_image_codec.specs.Inner.Wanted.{done_left}
use Rattle.vk_image_codec.proofs.Feeding.{last_refused}
use Rattle.vk_image_codec.proofs.rows.take.Goals as goal

pub returns-in-Ok-Some-clause-step : goal.returns-in-Ok-Some-clause-step
returns-in-Ok-Some-clause-step c =
    let s = c.take_next.new.fields in
    let end = c.args.at + rows_width c.args.fields.now in
    let done : is_done s.stage ≡ true = sym c.if-not-is_done.ensures in
    let broken : faults_at s.image end ≡ Some c.in-Ok-Some.fault = search rules in
    c.in-Ok.ensures ∙ done_left s end done ∙ last_refused (faults_at s.image end) c.in-Ok-Some.fault s.image broken

pub returns-in-Ok-None-clause-judged : goal.returns-in-Ok-None-clause-judged
returns-in-Ok-None-clause-judged c = λ e.
    let s = c.take_next.new.fields in
    let end = c.args.at + rows_width c.args.fields.now in
    let done : is_done s.stage ≡ true = sym c.if-not-is_done.ensures in
    let whole : faults_at s.image end ≡ None = search rules in
    ap₂ (λ a b. a && b) done (same_end s.image 0 end ∙ ap is_none whole)
