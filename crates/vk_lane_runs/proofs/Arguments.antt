-- Arguments and their words.
use Rattle.std.proofs.Common.{arith, sym, ◌≡◌, ℤ, ℕ, zero, suc, ◌+◌, ◌<◌, ◌≤◌, true, false, List, [], ◌∷◌, length, get_or, refl, ap, ◌∙◌, true≢false}
use Rattle.vk_types.specs.declared.types.Ty.{Ty}
use Rattle.vk_kinds.specs.declared.heads.CType.{CType}
use Rattle.vk_kinds.specs.declared.heads.CType.TheVariants.{Void, Int, Ptr}
use Rattle.vk_meaning.specs.Data.{nothing, pointer}
use Rattle.vk_meaning.specs.Types.{is_written_type, type_at}
use Rattle.vk_meaning.specs.Lanes.{ReadsArray, Words, argument, arguments_of, data_from, datum_of}

from_words : (n : ℕ) (ts : List CType) (words : Words) (p lane : ℕ) → p < length ts → get_or (data_from n ts words lane) p nothing ≡ datum_of (type_at ts p) (words (n + p) lane)
from_words n [] words p lane l = absurd (omega (arith, l))
from_words n (t ∷ ts) words zero lane l = ap (λ q. datum_of t (words q lane)) (omega arith)
from_words n (t ∷ ts) words (suc p) lane l = from_words (n + 1) ts words p lane (omega (arith, l)) ∙ ap (λ q. datum_of (type_at ts p) (words q lane)) (omega arith)

-- an argument is what its word stands for
pub argument_is : (ts : List CType) (words : Words) (p lane : ℕ) → p < length ts → argument ts words p lane ≡ datum_of (type_at ts p) (words p lane)
argument_is ts words p lane l = from_words 0 ts words p lane l ∙ ap (λ q. datum_of (type_at ts p) (words q lane)) (omega arith)

no_more : (n : ℕ) (ts : List CType) (words : Words) (p lane : ℕ) → length ts ≤ p → get_or (data_from n ts words lane) p nothing ≡ nothing
no_more n [] words p lane l = refl
no_more n (t ∷ ts) words zero lane l = absurd (omega (arith, l))
no_more n (t ∷ ts) words (suc p) lane l = no_more (n + 1) ts words p lane (omega (arith, l))

is_nothing_pointer : (a : ℕ) (o : ℤ) → nothing ≡ pointer a o → ⊥
is_nothing_pointer a o e = cc

-- a pointer among the arguments is one of a parameter
pub reads_below : (ts : List CType) (words : Words) (lane a : ℕ) (r : ReadsArray ts (arguments_of ts words lane) a) → r.parameter < length ts
reads_below ts words lane a r = below (length ts) r.parameter (λ past. is_nothing_pointer a r.offset (sym (no_more 0 ts words r.parameter lane past) ∙ r.points))
  where
    below : (n p : ℕ) → (n ≤ p → ⊥) → p < n
    below n p h = grind (arith, h)

-- it may only be read
pub reads_type : (t : CType) (w a : ℕ) (o : ℤ) → is_written_type t ≡ false → datum_of t w ≡ pointer a o → (to : Ty) × (t ≡ Ptr to false)
reads_type Void w a o e f = cc
reads_type (Int u) w a o e f = cc
reads_type (Ptr to true) w a o e f = absurd (true≢false e)
reads_type (Ptr to false) w a o e f = (to, refl)

pub written_type : (t : CType) → is_written_type t ≡ true → (to : Ty) × (t ≡ Ptr to true)
written_type Void e = absurd (true≢false (sym e))
written_type (Int u) e = absurd (true≢false (sym e))
written_type (Ptr to true) e = (to, refl)
written_type (Ptr to false) e = absurd (true≢false (sym e))
