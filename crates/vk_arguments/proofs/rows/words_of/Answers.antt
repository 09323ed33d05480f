-- The rows of the first texts are those of all, where there are as many as parameters.
use Rattle.std.proofs.Common.{◌≡◌, ℕ, ◌⊎◌, List, Err, arith, length, map, subst, sym, ap, ◌∙◌, inl, inr}
use Rattle.std.proofs.lemmas.Bool.{cases_lt}
use Rattle.std.proofs.lemmas.List.{length-map}
use Rattle.std.proofs.lemmas.Result.{err_from_is_err_and}
use Rattle.vk_arguments.specs.Arguments.{IsLeastPair, IsWrongAt}
use Rattle.vk_arguments.specs.Inner.Rows.{AreRows}
use Rattle.vk_arguments.proofs.Appended.{given_wrong, least_at_end, least_of_first, none_is_wrong}
use Rattle.vk_arguments.proofs.rows.words_of.Goals as goal

pub returns-in_err-words-clause-wrong : goal.returns-in_err-words-clause-wrong
returns-in_err-words-clause-wrong g c p lane is =
    let texts : List (List ℕ) = map (λ s. s.now) c.args.texts.now in
    let size : length texts ≡ length c.args.texts.now = length-map c.args.texts.now (λ s. s.now) in
    let q = err_from_is_err_and c.from_residual.result c.from_residual.ensures.1 in
    let part = c.in_err-words.ensures.wrong p lane (ap Err (sym q.2) ∙ sym q.1 ∙ is) in
    least_of_first (g.V.Values.meaning c.args.values.now) c.args.lanes c.min-both.result c.args.types.now texts p lane (omega arith) (omega arith) part

pub returns-then-texts-types-clause-wrong : goal.returns-then-texts-types-clause-wrong
returns-then-texts-types-clause-wrong g c p lane is =
    let word = g.V.Values.meaning c.args.values.now in
    let texts : List (List ℕ) = map (λ s. s.now) c.args.texts.now in
    let size : length texts ≡ length c.args.texts.now = length-map c.args.texts.now (λ s. s.now) in
    let one : (length texts ≡ c.min-both.result) ⊎ (length c.args.types.now ≡ c.min-both.result) =
    elim (cases_lt (length c.args.texts.now) (length c.args.types.now)) [ inl lt ↦ inl (omega arith) | inr le ↦ inr (omega arith) ] in
    given_wrong (IsLeastPair (IsWrongAt word c.args.lanes c.args.types.now texts)) c.min-both.result 0 p lane is
    (least_at_end word (g.V.Values.arrays c.args.values.now) c.args.lanes c.min-both.result c.args.types.now texts c.in_ok-words.words.items (omega arith) (omega arith) one
    (λ e. c.if-texts-types.true (sym size ∙ e)) c.in_ok-words.ensures.rows)

pub returns-clause-right : goal.returns-clause-right
returns-clause-right g c =
    let word = g.V.Values.meaning c.args.values.now in
    let arrays = g.V.Values.arrays c.args.values.now in
    let texts : List (List ℕ) = map (λ s. s.now) c.args.texts.now in
    let same : length texts ≡ length c.args.types.now = length-map c.args.texts.now (λ s. s.now) ∙ c.if-texts-types.false in
    let all : c.min-both.result ≡ length c.args.types.now = omega (arith, c.if-texts-types.false) in
    none_is_wrong word arrays c.args.lanes c.args.types.now texts c.in_ok-words.words.items same
    (subst (λ k. AreRows word arrays c.args.lanes k c.args.types.now texts c.in_ok-words.words.items) all c.in_ok-words.ensures.rows)
