-- A call on lanes has one answer.
use Rattle.std.proofs.Common.{◌≡◌, ◌<◌, ℕ, ◌==◌, Bool, true, false, Option, refl, sym, arith, ◌∙◌}
use Rattle.vk_types.specs.declared.types.Stop.{Stop}
use Rattle.vk_meaning.specs.World.{Memory}
use Rattle.vk_meaning.specs.Data.{number, pointer, nothing, Value, got, halts}
use Rattle.vk_meaning.specs.LaneWise.{IsResult, AreLanesOf}

same_number : (a b : ℕ) → (a == b) ≡ true → a ≡ b
same_number a b e = grind arith

different : (a b : ℕ) → (a == b) ≡ false → a ≡ b → ⊥
different a b e f = grind arith

-- numbers that are not different are the same
not_different : (a b : ℕ) → ((a ≡ b → ⊥) → ⊥) → a ≡ b
not_different a b h = go (a == b) refl
  where
    go : (q : Bool) → (a == b) ≡ q → a ≡ b
    go true e = same_number a b e
    go false e = absurd (h (different a b e))

module _ {Own : ℕ → ℕ → ℕ → Type 0} {scalar : ℕ → Value} {lanes : ℕ} {mask : ℕ → Bool} {m : Memory} {old new new' : ℕ → ℕ} {stops stops' : ℕ → Option Stop} {n n' : Memory}
    (first : AreLanesOf Own scalar lanes mask m old new stops n) (second : AreLanesOf Own scalar lanes mask m old new' stops' n') where
  pub one_memory : (a c : ℕ) → n a c ≡ n' a c
  one_memory a c = not_different (n a c) (n' a c) (λ differ.
      differ (first.others a c (λ j below on own. differ (first.own j below on a c own ∙ sym (second.own j below on a c own)))
      ∙ sym (second.others a c (λ j below on own. differ (first.own j below on a c own ∙ sym (second.own j below on a c own))))))

  same_stop : (v : Value) (o x x' : ℕ) (s s' : Option Stop) → IsResult v o x s → IsResult v o x' s' → s ≡ s'
  same_stop (got (number z) w) o x x' s s' h k = h.1 ∙ sym k.1
  same_stop (got (pointer a i) w) o x x' s s' h k = absurd h
  same_stop (got nothing w) o x x' s s' h k = h ∙ sym k
  same_stop (halts y w) o x x' s s' h k = h.1 ∙ sym k.1

  pub one_stop : (j : ℕ) → j < lanes → stops j ≡ stops' j
  one_stop j below = go (mask j) refl
    where
      go : (b : Bool) → mask j ≡ b → stops j ≡ stops' j
      go true on = same_stop (scalar j) (old j) (new j) (new' j) (stops j) (stops' j) (first.results j below on) (second.results j below on)
      go false off = (first.idle j below off).1 ∙ sym (second.idle j below off).1
