use Rattle.std.proofs.Common.{◌≡◌, ℕ, ◌+◌, ap, sym, ◌∙◌}
use Rattle.std.proofs.lemmas.Result.{IfOk-weaker}
use Rattle.vk_code.specs.Valid.{environment_of}
use Rattle.vk_code_rows.specs.Sums.{capped}
use Rattle.vk_object.specs.Objects.{names_of}
use Rattle.vk_object_format.specs.declared.rows.RawObject.{RawObject}
use Rattle.vk_object_format.specs.Object.{codes_in, front_length}
use Rattle.vk_object_format.specs.Values.{object_of}
use Rattle.vk_object_faults.specs.Inner.Told.{fault_in_function, faults_along, place_told}
use Rattle.vk_object_faults.proofs.Along.{sum_told}
use Rattle.vk_object_faults.proofs.CodeFaults.{function_is}
use Rattle.vk_object_faults.proofs.codes.fault_in_function.Goals as goal

pub returns : goal.returns
returns c =
    let f = c.args.function.now in
    IfOk-weaker c.fault_in_codes.result
    (λ told. (o : RawObject) → environment_of c.args.env.now ≡ names_of (object_of o) → (p : ℕ) → c.saturating_add-codes_at.result ≡ capped p → told ≡ place_told (faults_along o f 0 p (codes_in f.codes)))
    (λ told. (o : RawObject) → environment_of c.args.env.now ≡ names_of (object_of o) → (n p : ℕ) → c.args.at ≡ capped p → told ≡ place_told (fault_in_function o n p f))
    (λ told h o e n p at.
    h o e (p + front_length f) (sum_told c.args.at c.front_length.result c.saturating_add-codes_at.result p (front_length f) at c.front_length.ensures c.saturating_add-codes_at.ensures)
    ∙ ap place_told (sym (function_is o f n p)))
    c.fault_in_codes.ensures
