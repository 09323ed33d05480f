use Rattle.vk_names.specs.declared.states.State.TheVariants.{Scalar, Next}
use Rattle.std.proofs.Common.{◌∙◌, sym, get_or, rules, ◌≡◌}
use Rattle.vk_names.specs.Inner.Steps.{underscore_on}
use Rattle.vk_names.proofs.ManyBytes.{from_next, params_end}
use Rattle.vk_names.proofs.shortcuts.params_run.Goals as goal

pub returns : goal.returns
returns c =
    let params = c.loop-rest.params.items in
    let ends : underscore_on c.args.front params c.loop-rest.at ≡ Scalar c.in-Scalar.found = rw c.as_slice.ensures.value at (sym c.underscore_on.ensures ∙ c.in-Scalar.is) in
    c.scalar_run.ensures
    ∙ sym (from_next (Next c.args.front c.loop-rest.at) (Scalar c.in-Scalar.found) params params c.loop-rest.rest.now c.in-95.len_at_least
    (params_end c.args.front c.loop-rest.at params (get_or c.loop-rest.rest.now 0 0) c.in-Scalar.found (search rules) ends))
    ∙ c.loop-rest.invariant
