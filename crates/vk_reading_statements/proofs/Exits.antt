-- Exits of `?`, and actions that are the same.
use Rattle.std.proofs.Common.{◌≡◌, Bool, List, Result, Ok, Err, refl, sym, ap, subst, ◌∙◌}
use Rattle.std.specs.Result.{IsErrAnd}
use Rattle.std.proofs.lemmas.Result.{err_from_is_err_and}
use Rattle.vk_meaning.specs.World.{Array}
use Rattle.vk_meaning.specs.Data.{Action, given}
use Rattle.vk_meaning.specs.Statements.{Effect, Evaluation}
use Rattle.vk_reading.specs.declared.held.Held.{Held}
use Rattle.vk_reading.specs.declared.held.Halt.{Halt}
use Rattle.vk_reading.specs.Held.{datum_of}
use Rattle.vk_reading_steps.specs.Runs.{Run, Does}
use Rattle.vk_reading_steps.proofs.Steps.{does_settled}
use Rattle.vk_reading_statements.specs.declared.flow.Flow.{Flow}
use Rattle.vk_reading_statements.specs.Acts.{Acts, Decides}

pub is_err : {T : Type 0} (r : Result T Halt) (x : Halt) → IsErrAnd r (λ e. e ≡ x) → r ≡ Err x
is_err r x h = let p = err_from_is_err_and r h in p.1 ∙ ap Err p.2

module _ {arrays : List Array} {b n : Run} where
  pub exit_does : {a : Action} {x : Halt} (r : Result Held Halt) → IsErrAnd r (λ e. e ≡ x) → Does arrays b a n (Err x) → Does arrays b a n r
  exit_does {a = a} {x = x} r h d = subst (λ (q : Result Held Halt). Does arrays b a n q) (sym (is_err r x h)) d

  pub exit_acts : {vs last : List Held} {e : Effect} {x : Halt} (r : Result Flow Halt) → IsErrAnd r (λ e. e ≡ x) → Acts arrays b vs e n last (Err x) → Acts arrays b vs e n last r
  exit_acts {vs = vs} {last = last} {e = e} {x = x} r h d = subst (λ (q : Result Flow Halt). Acts arrays b vs e n last q) (sym (is_err r x h)) d

  pub exit_decides : {vs : List Held} {e : Evaluation} {x : Halt} (r : Result Bool Halt) → IsErrAnd r (λ y. y ≡ x) → Decides arrays b vs e n (Err x) → Decides arrays b vs e n r
  exit_decides {vs = vs} {e = e} {x = x} r h d = subst (λ (q : Result Bool Halt). Decides arrays b vs e n q) (sym (is_err r x h)) d

  pub same_test : {vs : List Held} {e e' : Evaluation} {r : Result Bool Halt} → e ≡ e' → Decides arrays b vs e n r → Decides arrays b vs e' n r
  same_test {vs = vs} {r = r} is d = subst (λ (x : Evaluation). Decides arrays b vs x n r) is d

  pub same_action : {a a' : Action} {r : Result Held Halt} → a ≡ a' → Does arrays b a n r → Does arrays b a' n r
  same_action {r = r} e d = subst (λ (x : Action). Does arrays b x n r) e d

pub does_given : {arrays : List Array} (s : Run) (h : Held) → Does arrays s (given (datum_of h)) s (Ok h)
does_given s h = does_settled s (given (datum_of h)) (Ok h) (λ start w k. refl)
