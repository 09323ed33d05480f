use Rattle.std.proofs.Common.{◌≡◌, ℕ, Some, slice_get, subst, unwrap_or, ◌∙◌, rules}
use Rattle.vk_reading_rows.specs.Inner.Noted.{noted}
use Rattle.vk_reading_rows.proofs.Noting.{one_name_more}
use Rattle.vk_reading_rows.proofs.texts.names_noted.Goals as goal

pub loop-number-preserved : goal.loop-number-preserved
loop-number-preserved g c =
    let same : c.in-Ok.id ≡ c.loop-number.number = search rules in
    c.in_ok-push.ensures.items
    ∙ one_name_more (λ t. unwrap_or (noted c.args.table.now t) c.args.other) c.args.names.now c.loop-number.number c.text.result.now c.loop-number.list.items c.noted_or.result
    (subst (λ (k : ℕ). slice_get c.args.names.now k ≡ Some c.text.result.now) same c.text.ensures) c.loop-number.invariant c.noted_or.ensures
