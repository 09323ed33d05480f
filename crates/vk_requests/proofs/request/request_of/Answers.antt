use Rattle.std.proofs.Common.{refl}
use Rattle.std.specs.Prelude.{Result, Ok, Err, IfOk, IsErr}
use Rattle.vk_requests.specs.Command.{command_of}
use Rattle.std.proofs.lemmas.Result.{IfOk-weaker}
use Rattle.vk_requests.proofs.Unique.{command_same, fault_same, no_fault}
use Rattle.vk_requests.proofs.request.request_of.Goals as goal

pub returns-clause-only : goal.returns-clause-only
returns-clause-only c = λ k a. IfOk-weaker c.judged.result _ _ (λ r f. command_same _ _ k f a) c.judged.ensures.found

pub returns-clause-due : goal.returns-clause-due
returns-clause-due c = λ k a rule e. no_fault _ k rule a (c.judged.ensures.fault rule e)

pub returns-clause-every : goal.returns-clause-every
returns-clause-every c = λ rule f r e. fault_same _ r rule (c.judged.ensures.fault r e) f

err_of : {T E : Type 0} (r : Result T E) (P : T → Type 0) → IfOk r P → ((x : T) → P x → ⊥) → IsErr r
err_of (Ok x) P h none = absurd (none x h)
err_of (Err e) P h none = refl

pub returns-clause-none : goal.returns-clause-none
returns-clause-none c = λ rule f. err_of c.judged.result _ c.judged.ensures.found (λ r asked. no_fault _ (command_of r) rule asked f)
