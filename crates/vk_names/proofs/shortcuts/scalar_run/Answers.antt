use Rattle.vk_names.specs.declared.states.Found.{Found}
use Rattle.vk_names.specs.declared.states.State.TheVariants.{Scalar}
use Rattle.std.proofs.Common.{◌∙◌, sym, get_or, eqb-true}
use Rattle.vk_names.proofs.ManyBytes.{from_nil, from_next, scalar_on_name}
use Rattle.vk_names.proofs.shortcuts.scalar_run.Goals as goal

pub loop-rest-preserved : goal.loop-rest-preserved
loop-rest-preserved c =
    let found : Found = record { front = c.args.found.front; scalar_at = c.args.found.scalar_at; used = c.loop-rest.used } in
    let longer : Found = record { front = c.args.found.front; scalar_at = c.args.found.scalar_at; used = c.after-used.result } in
    sym (from_next (Scalar found) (Scalar longer) c.args.params.now.items c.args.params.now.items c.loop-rest.rest.now c.in-len1-up.len_at_least
    (scalar_on_name found c.args.params.now.items (get_or c.loop-rest.rest.now 0 0) c.after-used.result (sym c.scalar_goes_on.ensures ∙ c.if-scalar_goes_on.true) c.after-used.ensures))
    ∙ c.loop-rest.invariant

pub returns-then-is_empty : goal.returns-then-is_empty
returns-then-is_empty c =
    let found : Found = record { front = c.args.found.front; scalar_at = c.args.found.scalar_at; used = c.loop-rest.used } in
    sym (from_nil (Scalar found) c.args.params.now.items c.loop-rest.rest.now (eqb-true _ _ (sym c.is_empty.ensures ∙ c.if-is_empty.true)))
    ∙ c.loop-rest.invariant
