use Rattle.vk_rules.specs.Verdicts.{judged}
use Rattle.vk_selection.proofs.Vectors.{none_selected}
use Rattle.vk_selection.proofs.selection.selected_in.Goals as goal

pub returns-in-None-clause-none : goal.returns-in-None-clause-none
returns-in-None-clause-none c none =
    none_selected (judged c.args.unit.now) c.args.isa c.args.vl c.args.name.now c.scalar_in.result none c.scalar_in.ensures c.in-None.ensures
