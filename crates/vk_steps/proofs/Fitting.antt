-- A frame fits its place after each step.
use Rattle.std.proofs.Common.{◌≡◌, ℕ, ◌+◌, ◌*◌, ◌≤◌, Bool, true, false, cond, nat_lt, length, Some, refl, ap₂, arith, subst, sym, ◌∙◌}
use Rattle.std.proofs.lemmas.Bool.{ltb-true}
use Rattle.vk_code.specs.declared.instruction.Instr.{Instr}
use Rattle.vk_code.specs.declared.instruction.Operation.{Operation}
use Rattle.vk_object.specs.Images.{names_of}
use Rattle.vk_object.specs.Lane.{LaneState}
use Rattle.vk_object.specs.Machine.{put}
use Rattle.vk_frames.specs.declared.frame.Frame.{Frame}
use Rattle.vk_frames.specs.Each.{each}
use Rattle.vk_frames.specs.Frames.{Fits, FitsAs, lanes_of}
use Rattle.vk_runs.specs.Words.{HasWords}
use Rattle.vk_runs.proofs.Operators.{HasOperator, HasSomeOperator, has_operator}
use Rattle.vk_steps.specs.declared.place.Place.{Place}
use Rattle.vk_steps.specs.Locals.{changed, is_local}
use Rattle.vk_steps.specs.Places.{FitsPlace, IsGood, entry, listing, regs, tables}
use Rattle.vk_steps.proofs.Locals.{changed_words, words_put}

pub fits_as : (registers masks lanes : ℕ) (a b : Frame) → Fits registers masks lanes a → FitsAs a b → Fits registers masks lanes b
fits_as registers masks lanes a b p q = record {
  registers_are = q.registers_are ∙ p.registers_are;
  masks_are = q.masks_are ∙ p.masks_are;
  lanes_are = q.lanes_are ∙ p.lanes_are;
  short = p.short;
  few = p.few;
  words = q.words ∙ ap₂ (λ m n. m * n) (ap₂ (λ m n. m + n) p.registers_are p.masks_are) p.lanes_are;
}

pub operator_of : (i : Instr) (o : Operation) → Rattle.vk_code.specs.Instruction.operation_of i ≡ Some o → HasOperator o
operator_of i o e = subst HasSomeOperator e (has_operator i)

-- one lane is written with words of the registers' types
pub fits_put : (p : Place) (a b : Frame) (lane : ℕ) (k : LaneState) → FitsPlace p a → FitsAs a b → HasWords (regs p) k → lanes_of b ≡ put (lanes_of a) lane k → FitsPlace p b
fits_put p a b lane k h q w e = record {
  shape = fits_as (length (regs p)) (listing p).routine.masks (entry p).lanes a b h.shape q;
  words = subst (λ (f : ℕ → LaneState). (j : ℕ) → HasWords (regs p) (f j)) (sym e) (words_put (regs p) (lanes_of a) lane k h.words w);
}

-- the operation is done in each lane
pub fits_each : (p : Place) (a b : Frame) (i : Instr) (o : Operation) → FitsPlace p a → FitsAs a b → IsGood p i o → is_local o ≡ true → (entry p).lanes ≤ 256 →
    lanes_of b ≡ each (entry p).lanes (changed (regs p) i.m o) (lanes_of a) → FitsPlace p b
fits_each p a b i o h q good local few e = record {
  shape = fits_as (length (regs p)) (listing p).routine.masks (entry p).lanes a b h.shape q;
  words = subst (λ (f : ℕ → LaneState). (j : ℕ) → HasWords (regs p) (f j)) (sym e) (λ j. by j (nat_lt j (entry p).lanes) refl);
}
  where
    by : (j : ℕ) (inside : Bool) → nat_lt j (entry p).lanes ≡ inside → HasWords (regs p) (cond inside (changed (regs p) i.m o j (lanes_of a j)) (lanes_of a j))
    by j true t = changed_words (names_of (tables p)) (listing p).routine i.m j o (lanes_of a j) (let l = ltb-true j (entry p).lanes t in omega (arith, l, few)) (operator_of i o good.is) good.typed local (h.words j)
    by j false t = h.words j
