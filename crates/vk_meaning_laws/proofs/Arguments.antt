-- The arguments of a lane, one by one.
use Rattle.std.proofs.Common.{◌≡◌, ◌<◌, ℕ, zero, suc, ◌+◌, List, [], ◌∷◌, length, get_or, ap, arith, ◌∙◌}
use Rattle.vk_kinds.specs.declared.heads.CType.{CType}
use Rattle.vk_meaning.specs.Types.{type_at}
use Rattle.vk_meaning.specs.Data.{nothing}
use Rattle.vk_meaning.specs.Lanes.{Words, datum_of, data_from, argument}

data_at : (q : ℕ) (ts : List CType) (words : Words) (lane p : ℕ) → p < length ts → get_or (data_from q ts words lane) p nothing ≡ datum_of (type_at ts p) (words (q + p) lane)
data_at q [] words lane p h = absurd (omega arith)
data_at q (t ∷ ts) words lane zero h = ap (λ (n : ℕ). datum_of t (words n lane)) (plus_zero q)
  where
    plus_zero : (n : ℕ) → n ≡ n + 0
    plus_zero n = omega arith
data_at q (t ∷ ts) words lane (suc p) h =
    data_at (q + 1) ts words lane p (omega (arith, h)) ∙ ap (λ (n : ℕ). datum_of (type_at ts p) (words n lane)) (one_more q p)
  where
    one_more : (n m : ℕ) → n + 1 + m ≡ n + suc m
    one_more n m = omega arith

pub argument_is : (ts : List CType) (words : Words) (p lane : ℕ) → p < length ts → argument ts words p lane ≡ datum_of (type_at ts p) (words p lane)
argument_is ts words p lane h = data_at 0 ts words lane p h ∙ ap (λ (n : ℕ). datum_of (type_at ts p) (words n lane)) (from_zero p)
  where
    from_zero : (n : ℕ) → 0 + n ≡ n
    from_zero n = omega arith
