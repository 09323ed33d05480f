use Rattle.std.proofs.lemmas.Result.{IfOk-weaker}
use Rattle.std.proofs.Common.{◌≡◌, ℕ}
use Rattle.vk_object_format.specs.Object.{object_faults}
use Rattle.vk_object_codec.specs.Rows.{faults_of}
use Rattle.vk_object_codec.proofs.rows.broken.Goals as goal

pub returns : goal.returns
unfolding faults_of
returns c =
    IfOk-weaker c.object_faults.result (λ told. (end : ℕ) → told ≡ object_faults c.args.tables.now end) (λ told. told ≡ object_faults c.args.tables.now 0) (λ told h. h 0) c.object_faults.ensures
