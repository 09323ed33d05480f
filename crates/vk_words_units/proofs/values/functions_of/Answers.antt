use Rattle.std.proofs.Common.{◌∙◌, ◌≡◌, sym, ap, List, ℕ, arith, Ok, Err, Result, true≢false}
use Rattle.std.specs.Prelude.{decimal}
use Rattle.std.proofs.lemmas.Slice.Eq.{bytes_eq-Decides}
use Rattle.std.specs.Str.Parse.{ParsesUnsigned}
use Rattle.std.proofs.lemmas.Fmt.{parse-decimal}
use Rattle.vk_words_units.specs.Asked.{IsFunctionsText}
use Rattle.vk_words_units.proofs.values.functions_of.Goals as goal
use Rattle.vk_words_units.proofs.values.functions_of.Goals.{else-n-ge1-via-then-n-ge1+then-n-le-MAX_FUNCTIONS+else-eq, else-n-ge1-via-then-n-ge1+else-n-le-MAX_FUNCTIONS, else-n-ge1-via-else-n-ge1}

parsed : {E : Type 0} (text : List ℕ) (r : Result ℕ E) (n : ℕ) → ParsesUnsigned 32 10 text r → IsFunctionsText text n → r ≡ Ok n
parsed text r n p t = let most = t.most in parse-decimal 32 n text r (omega arith) (omega arith) t.spelled p

ok_same : {E : Type 0} (r : Result ℕ E) (m n : ℕ) → r ≡ Ok m → r ≡ Ok n → m ≡ n
ok_same r m n a b = cc

not_both : {E : Type 0} (r : Result ℕ E) (e : E) (n : ℕ) → r ≡ Err e → r ≡ Ok n → ⊥
not_both r e n a b = cc

pub returns-in_default-clause-none : goal.returns-in_default-clause-none
returns-in_default-clause-none c = λ _ n t. not_both c.parse.result _ n c.in_default.is (parsed c.args.text.now c.parse.result n c.parse.ensures.value.0 t)

pub returns-else-n-ge1-clause-none : goal.returns-else-n-ge1-clause-none
returns-else-n-ge1-clause-none c = λ _ n t.
    let same = ok_same c.parse.result c.in-Ok.n n c.in-Ok.is (parsed c.args.text.now c.parse.result n c.parse.ensures.value.0 t) in
    let most = t.most in
    let least = t.least in
    elim c.else-n-ge1.branch [
      | else-n-ge1-via-then-n-ge1+then-n-le-MAX_FUNCTIONS+else-eq w ↦
          true≢false (sym ((bytes_eq-Decides w.format.result.now c.args.text.now).1 (w.format.ensures.text ∙ (ap decimal same ∙ sym t.spelled))) ∙ (sym w.eq.ensures ∙ w.if-eq.false))
      | else-n-ge1-via-then-n-ge1+else-n-le-MAX_FUNCTIONS w ↦ let f = w.if-n-le-MAX_FUNCTIONS.false in absurd (omega arith)
      | else-n-ge1-via-else-n-ge1 w ↦ let f = w.if-n-ge1.false in absurd (omega arith)
    ]
