use Rattle.vk_settings.proofs.Calls.{calls_are_right}
use Rattle.vk_settings.proofs.laws.calls_in_images_are_right.Goals as goal

pub returns : goal.returns
returns c ps image program p text d manner e x plan running turns limit code is = calls_are_right ps image program (λ v a. c.expressions_have_types.ensures v a.grammatical.types a.sound) p text d manner e x plan running turns limit code is
