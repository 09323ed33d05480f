use Rattle.std.proofs.Common.{◌≡◌, ℕ, Option, None, Some, sym, subst, Bor}
use Rattle.std.specs.Prelude.{option_map}
use Rattle.clap.specs.Words.{Text}
use Rattle.vk_words.specs.Asked.{IsVl, IsVlText}
use Rattle.vk_words.proofs.values.vl_of.Goals as goal

no_vl : (t : Text) → ((n : ℕ) → IsVlText t n → ⊥) → (vl : Option ℕ) → IsVl (Some t) vl → ⊥
no_vl t h None e = e
no_vl t h (Some n) e = h n e

pub returns-in-None-vl_of_text-clause-none : goal.returns-in-None-vl_of_text-clause-none
returns-in-None-vl_of_text-clause-none c = λ h. subst (λ (o : Option (Bor Text)). (vl : Option ℕ) → IsVl (option_map (λ s. s.now) o) vl → ⊥) (sym c.in-Some.is)
    (no_vl c.in-Some.text.now (c.in-None-vl_of_text.ensures.none h))
