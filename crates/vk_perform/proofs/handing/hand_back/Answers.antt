use Rattle.std.proofs.Common.{subst}
use Rattle.vk_object.specs.declared.image.Image.{Image}
use Rattle.vk_access.specs.Stores.{FitsStore}
use Rattle.vk_perform.proofs.handing.hand_back.Goals as goal

pub returns : goal.returns
returns c = subst (λ (i : Image). FitsStore i c.args.memory.now) c.requires.callee.image c.requires.store
