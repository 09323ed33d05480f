use Rattle.vk_joins.specs.Carries.{units_of}
use Rattle.vk_settings.proofs.Agreeing.{has_objects, lanes_agree, ordinary_agrees, scalar_agrees}
use Rattle.vk_settings.proofs.laws.codes_agree.Goals as goal

pub returns-clause-ordinary : goal.returns-clause-ordinary
returns-clause-ordinary c ps image program p text d manner e x plan running turns code alone =
    ordinary_agrees ps image program (λ v a. c.expressions_have_types.ensures v a.grammatical.types a.sound) p text d manner e x plan running turns alone.limit code alone.code_is alone.no_loops (has_objects ps image program (λ v a. c.expressions_have_types.ensures v a.grammatical.types a.sound) p text d manner e x plan running turns alone.limit code alone.code_is alone.objects alone.few)
    (c.stands_in_any_run.ensures (units_of ps) turns) (c.depth_is_of_no_matter.ensures.unfolds (units_of ps) turns text (c.calls_are_shallow.ensures ps program.links text))

pub returns-clause-scalar : goal.returns-clause-scalar
returns-clause-scalar c ps image program p text d manner e x plan running turns code alone =
    scalar_agrees ps image program (λ v a. c.expressions_have_types.ensures v a.grammatical.types a.sound) p text d manner e x plan running turns alone.limit code alone.code_is alone.no_loops (has_objects ps image program (λ v a. c.expressions_have_types.ensures v a.grammatical.types a.sound) p text d manner e x plan running turns alone.limit code alone.code_is alone.objects alone.few)
    (c.stands_in_any_run.ensures (units_of ps) turns) (c.depth_is_of_no_matter.ensures.unfolds (units_of ps) turns text (c.calls_are_shallow.ensures ps program.links text))

pub returns-clause-lanes : goal.returns-clause-lanes
returns-clause-lanes c ps image program p text d manner e x plan running turns code alone =
    lanes_agree ps image program (λ v a. c.expressions_have_types.ensures v a.grammatical.types a.sound) p text d manner e x plan running turns alone.limit code alone.code_is alone.no_loops (has_objects ps image program (λ v a. c.expressions_have_types.ensures v a.grammatical.types a.sound) p text d manner e x plan running turns alone.limit code alone.code_is alone.objects alone.few)
    (c.stands_in_any_run.ensures (units_of ps) turns) (c.depth_is_of_no_matter.ensures.unfolds (units_of ps) turns text (c.calls_are_shallow.ensures ps program.links text))
