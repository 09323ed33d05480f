use Rattle.std.proofs.Common.{◌∙◌, sym}
use Rattle.vk_image.proofs.image.image_of.Goals as goal

pub returns-then-not-branch-clause-valid : goal.returns-then-not-branch-clause-valid
returns-then-not-branch-clause-valid c = sym c.if-not-branch.true ∙ c.in_ok-is_image.ensures

pub returns-clause-valid : goal.returns-clause-valid
returns-clause-valid c = sym c.if-not-branch.false ∙ c.in_ok-is_image.ensures
