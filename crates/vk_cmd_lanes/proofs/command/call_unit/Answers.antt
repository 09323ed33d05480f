-- An accepted unit of another form is not run yet.
use Rattle.std.proofs.Common.{◌≡◌, ◌∙◌, Some, inr, refl, subst}
use Rattle.vk_ends.specs.declared.ends.Refusal.{Refusal}
use Rattle.vk_ends.specs.declared.ends.Refusal.TheVariants.{NotYet}
use Rattle.vk_rules.specs.Verdicts.{judged}
use Rattle.vk_cmd_lanes.specs.Lanes.{RefusesLanes, asked_of}
use Rattle.vk_cmd_lanes.proofs.command.call_unit.Goals as goal

pub returns-in_default-clause-refused : goal.returns-in_default-clause-refused
returns-in_default-clause-refused c refusal is =
    let same : NotYet 0 ≡ refusal = cc in
    subst (λ (x : Refusal). RefusesLanes (asked_of c.args.call) (Some c.args.bytes.now) x) same (
      c.requires.size,
      refl,
      inr (record {
        unit = judged c.in-Ok.checked;
        is = record { accepted = c.in-Ok.ensures.accepted; target_is = c.in-Ok.ensures.target ∙ c.target_of.ensures };
        formless = c.in_default.ensures.none refl;
      }),
    )
