use Rattle.std.proofs.Common.{◌≡◌, ◌+◌, true, Some, rules, sym, ◌∙◌}
use Rattle.vk_object_codec.specs.Rows.{faults_of, is_done, rows_width}
use Rattle.vk_object_codec.specs.Inner.Wanted.{done_left}
use Rattle.vk_object_codec.proofs.Feeding.{last_refused}
use Rattle.vk_object_codec.proofs.rows.take.Goals as goal

pub returns-in-Ok-Some-clause-step : goal.returns-in-Ok-Some-clause-step
returns-in-Ok-Some-clause-step c =
    let s = c.take_next.new.fields in
    let done : is_done s.stage ≡ true = sym c.if-not-is_done.ensures in
    let broken : faults_of s.object ≡ Some c.in-Ok-Some.fault = search rules in
    c.in-Ok.ensures
    ∙ done_left s (c.args.at + rows_width c.args.fields.now) done
    ∙ last_refused (faults_of s.object) c.in-Ok-Some.fault s.object broken
