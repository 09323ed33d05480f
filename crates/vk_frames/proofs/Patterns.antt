-- The words of a frame stay patterns of 64 bits.
use Rattle.std.proofs.Common.{◌≡◌, ℕ, ◌+◌, ◌-◌, ◌^◌, ◌<◌, List, Bool, true, false, cond, ℤ, Result, Ok, Err, inl, inr, arith, subst, sym}
use Rattle.std.proofs.lemmas.Bool.{cases_lt}
use Rattle.vk_types.specs.declared.types.Ty.{Ty}
use Rattle.vk_types.specs.declared.types.Stop.{Stop}
use Rattle.vk_types.specs.declared.types.Word.{Word}
use Rattle.vk_types.specs.declared.types.Op2.{Op2}
use Rattle.vk_types.specs.Numbers.{number_of}
use Rattle.vk_types.specs.Operators.{exact, result_type, wrapped}
use Rattle.vk_lanes.specs.Kernels.{WritesRow, op2_word, word_or}
use Rattle.vk_lanes.specs.Words.{word_in}
use Rattle.vk_lanes.proofs.Typed.{canonical_wrap}

-- where what is written in the lanes that are on has 64 bits
pub patterns_kept : (lanes d : ℕ) (on : ℕ → Bool) (value : ℕ → ℕ) (old new : List Word) → WritesRow lanes d on value old new → ((k : ℕ) → word_in old k < 2 ^ 64) → ((i : ℕ) → i < lanes → value i < 2 ^ 64) → (k : ℕ) → word_in new k < 2 ^ 64
patterns_kept lanes d on value old new w h v k = elim (cases_lt k d) [
  | inl below ↦ subst (λ n. n < 2 ^ 64) (sym (w.below k below)) (h k)
  | inr from ↦ elim (cases_lt k (d + lanes)) [
    | inl inside ↦ subst (λ n. word_in new n < 2 ^ 64) (let e : d + (k - d) ≡ k = omega (arith, from) in e)
        (subst (λ n. n < 2 ^ 64) (sym (w.row (k - d) (omega (arith, from, inside)))) (chosen (on (k - d)) (k - d) (omega (arith, from, inside))))
    | inr past ↦ subst (λ n. n < 2 ^ 64) (sym (w.above k past)) (h k)
  ]
]
  where
    chosen : (b : Bool) (i : ℕ) → i < lanes → cond b (value i) (word_in old (d + i)) < 2 ^ 64
    chosen true i l = v i l
    chosen false i l = h (d + i)

word_small : (t : Ty) (r : Result ℤ Stop) (old : ℕ) → old < 2 ^ 64 → word_or old (wrapped t r) < 2 ^ 64
word_small t (Ok z) old h = (canonical_wrap t z).0
word_small t (Err x) old h = h

pub op2_small : (op : Op2) (t bt : Ty) (x y old : ℕ) → old < 2 ^ 64 → op2_word op t bt x y old < 2 ^ 64
op2_small op t bt x y old h = word_small (result_type op t) (exact op t (number_of t x) (number_of bt y)) old h
