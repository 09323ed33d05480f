-- Frames of as many registers, masks and lanes.
use Rattle.std.proofs.Common.{◌+◌, ◌*◌, ap₂, ◌∙◌}
use Rattle.vk_frames.specs.declared.frame.Frame.{Frame}
use Rattle.vk_frames.specs.Frames.{FitsAs}

pub fits_then : (a b c : Frame) → FitsAs a b → FitsAs b c → FitsAs a c
fits_then a b c p q = record {
  registers_are = q.registers_are ∙ p.registers_are;
  masks_are = q.masks_are ∙ p.masks_are;
  lanes_are = q.lanes_are ∙ p.lanes_are;
  short = p.short;
  few = p.few;
  words = q.words ∙ ap₂ (λ m n. m * n) (ap₂ (λ m n. m + n) p.registers_are p.masks_are) p.lanes_are;
}
