-- What a kernel does with rows of words: an operator's value in the lanes that are on (C17 6.5.3.3 and 6.5.5 to 6.5.12, OpenMP 5.2
-- section 7.7), and every other word as before.
use Rattle.std.specs.Prelude.{ℕ, ◌+◌, ◌<◌, ◌≤◌, ◌≡◌, ◌⊎◌, Bool, cond, List, ℤ, Result, Ok, Err}
use Rattle.vk_types.specs.declared.types.Ty.{Ty}
use Rattle.vk_types.specs.declared.types.Stop.{Stop}
use Rattle.vk_types.specs.declared.types.Word.{Word}
use Rattle.vk_types.specs.declared.types.Op1.{Op1}
use Rattle.vk_types.specs.declared.types.Op2.{Op2}
use Rattle.vk_types.specs.declared.types.Op2.TheVariants.{Shl, Shr}
use Rattle.vk_types.specs.Numbers.{number_of, word_of, wrap_number}
use Rattle.vk_types.specs.Operators.{op1_number, op2_number}
use Rattle.vk_lanes.specs.Words.{word_in}

-- a row of words after the call: in lane i `value i` where it is on, else as before
abbrev pub Writes : (ℕ → Bool) → (ℕ → ℕ) → List Word → List Word → Type 0
Writes on value old new = (i : ℕ) → word_in new i ≡ cond (on i) (value i) (word_in old i)

-- the same of the row that begins at place d of a list of rows; no other row changes
pub record WritesRow (lanes d : ℕ) (on : ℕ → Bool) (value : ℕ → ℕ) (old new : List Word) : Type 0 where
  pub row : (i : ℕ) → i < lanes → word_in new (d + i) ≡ cond (on i) (value i) (word_in old (d + i))
  pub below : (k : ℕ) → k < d → word_in new k ≡ word_in old k
  pub above : (k : ℕ) → d + lanes ≤ k → word_in new k ≡ word_in old k

-- two rows are one row, or have no place in common
abbrev pub AreRows : ℕ → ℕ → ℕ → Type 0
AreRows lanes a d = (a ≡ d) ⊎ ((a + lanes ≤ d) ⊎ (d + lanes ≤ a))

-- the pattern of a result, and what was there before where the operator stops
abbrev pub word_or : ℕ → Result ℤ Stop → ℕ
word_or old (Ok z) = word_of z
word_or old (Err stop) = old

-- what a lane gets of an operator, a conversion
abbrev pub op2_word : Op2 → Ty → Ty → ℕ → ℕ → ℕ → ℕ
op2_word op t bt x y old = word_or old (op2_number op t (number_of t x) (number_of bt y))

abbrev pub op1_word : Op1 → Ty → ℕ → ℕ
op1_word op t x = word_of (op1_number op t (number_of t x))

abbrev pub convert_word : Ty → Ty → ℕ → ℕ
convert_word from to x = word_of (wrap_number to (number_of from x))

-- the right operand of a shift has a type of its own
abbrev pub AreOperands : Op2 → Ty → Ty → Type 0
AreOperands Shl t bt = Unit {0}
AreOperands Shr t bt = Unit {0}
AreOperands op t bt = bt ≡ t
