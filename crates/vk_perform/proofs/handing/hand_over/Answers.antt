use Rattle.std.proofs.Common.{subst, sym}
use Rattle.vk_object.specs.declared.image.Image.{Image}
use Rattle.vk_access.specs.Stores.{FitsStore}
use Rattle.vk_perform.proofs.handing.hand_over.Goals as goal

pub returns : goal.returns
returns c = record {
  sound = c.requires.callee.sound;
  fits = c.requires.fits;
  store = subst (λ (i : Image). FitsStore i c.args.memory.now) (sym c.requires.callee.image) c.requires.store;
  room = c.requires.room;
}
