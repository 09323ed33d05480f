use Rattle.std.proofs.Common.{ap, sym, ◌∙◌, to_z-of_z}
use Rattle.vk_types.specs.Numbers.{word_of, wrap_number}
use Rattle.vk_steps.proofs.Results.{word_back}
use Rattle.vk_args.proofs.numbers.wrapped.Goals as goal

pub returns : goal.returns
returns c =
    sym (word_back c.args.ty c.wrap.result.0 c.wrap.ensures.canonical.0)
    ∙ (ap word_of c.wrap.ensures.number ∙ ap (λ z. word_of (wrap_number c.args.ty z)) (to_z-of_z c.ranges.number))
