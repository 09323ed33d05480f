-- One more text, and the first one that is wrong.
use Rattle.std.proofs.Common.{◌≡◌, ℕ, ◌+◌, ◌≤◌, ◌++◌, List, arith, map, subst, sym, ap, ap₂, ◌∙◌}
use Rattle.vk_kinds.specs.declared.heads.CType.{CType}
use Rattle.vk_meaning.specs.Types.{type_at}
use Rattle.vk_arguments.specs.Arguments.{IsLeastPair}
use Rattle.vk_arguments.specs.Texts.{IsFaultOfValues, values_at, values_of}
use Rattle.vk_arguments.specs.Inner.Rows.{AreRows, AreValues, IsRow, IsWrongIn}
use Rattle.vk_arguments.proofs.Appended.{given_wrong, least_wrong, rows_more, text_read, type_read}
use Rattle.vk_arguments.proofs.rows.rows_of.Goals as goal

pub loop-parameter-preserved : goal.loop-parameter-preserved
loop-parameter-preserved g c =
    let word = g.V.Values.meaning c.args.values.now in
    let arrays = g.V.Values.arrays c.args.values.now in
    let texts : List (List ℕ) = map (λ s. s.now) c.args.texts.now in
    let k : ℕ = c.loop-parameter.parameter in
    let t : CType = type_at c.args.types.now k in
    let typed : AreValues arrays t c.deref.result.now =
    subst (AreValues arrays t) (sym c.deref.ensures.value) (subst (λ u. AreValues arrays u c.in_ok-found.found.items) (type_read c.args.types.now k _ (omega arith)) c.in_ok-found.ensures.typed) in
    let seen : c.deref.result.now ≡ values_at word c.args.types.now texts k =
    c.deref.ensures.value ∙ c.in_ok-found.ensures.values ∙ ap₂ (values_of word) (type_read c.args.types.now k _ (omega arith)) (text_read c.args.texts.now k _ (omega arith)) in
    let row : IsRow arrays c.args.lanes t c.deref.result.now c.in-Ok.row.items = rw c.in-Ok.is at (c.in_ok-row.ensures.row arrays t typed) in
    subst (AreRows word arrays c.args.lanes (c.loop-parameter.parameter + 1) c.args.types.now texts)
    (sym (c.in_ok-extend_from_slice-in-Ok.ensures.items ∙ ap (λ ws. c.loop-parameter.words.items ++ ws) c.deref-in-Ok.ensures.value))
    (rows_more word arrays c.args.lanes k c.args.types.now texts c.loop-parameter.words.items c.in-Ok.row.items c.loop-parameter.invariant
    (subst (λ vs. IsRow arrays c.args.lanes t vs c.in-Ok.row.items) seen row))

pub returns-in-Err-clause-wrong : goal.returns-in-Err-clause-wrong
returns-in-Err-clause-wrong g c p lane is =
    let word = g.V.Values.meaning c.args.values.now in
    let arrays = g.V.Values.arrays c.args.values.now in
    let texts : List (List ℕ) = map (λ s. s.now) c.args.texts.now in
    let k : ℕ = c.loop-parameter.parameter in
    let seen : c.deref.result.now ≡ values_at word c.args.types.now texts k =
    c.deref.ensures.value ∙ c.in_ok-found.ensures.values ∙ ap₂ (values_of word) (type_read c.args.types.now k _ (omega arith)) (text_read c.args.texts.now k _ (omega arith)) in
    let wrong : IsFaultOfValues c.args.lanes c.deref.result.now c.in-Err.lane = rw c.in-Err.is at c.in_ok-row.ensures.fault in
    let least : (other : ℕ) → IsFaultOfValues c.args.lanes c.deref.result.now other → c.in-Err.lane ≤ other = rw c.in-Err.is at c.in_ok-row.ensures.least in
    given_wrong (IsLeastPair (IsWrongIn word c.args.lanes c.args.count c.args.types.now texts)) k c.in-Err.lane p lane is
    (least_wrong word arrays c.args.lanes c.args.count c.args.types.now texts c.loop-parameter.words.items k c.in-Err.lane c.loop-parameter-test.true c.loop-parameter.invariant
    (subst (λ vs. IsFaultOfValues c.args.lanes vs c.in-Err.lane) seen wrong)
    (λ other fault. least other (subst (λ vs. IsFaultOfValues c.args.lanes vs other) (sym seen) fault)))
