use Rattle.vk_construct.proofs.Logical.{tree_and, tree_choice, tree_or}
use Rattle.vk_construct.proofs.laws.cases_have_masks.Goals as goal

pub returns-clause-and : goal.returns-clause-and
returns-clause-and c = λ c0 c1 c3 c4 c5 e scope tb l p s t left right r r' d m f it lm hl hr tr p1 p2 p3 p4 p5. tree_and c0 c1 c3 c4 c5 scope tb l p s t left right r r' d m f it lm hl hr tr p1 p2 e p3 p4 p5

pub returns-clause-or : goal.returns-clause-or
returns-clause-or c = λ c0 c1 c3 c4 c5 e scope tb l p s t left right r r' d m f it lm hl hr tr p1 p2 p3 p4 p5. tree_or c0 c1 c3 c4 c5 scope tb l p s t left right r r' d m f it lm hl hr tr p1 p2 e p3 p4 p5

pub returns-clause-choice : goal.returns-clause-choice
returns-clause-choice c = tree_choice
