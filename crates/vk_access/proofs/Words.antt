-- Words of arrays' types.
use Rattle.std.proofs.Common.{◌≡◌, ℕ, ◌^◌, ◌<◌, ◌==◌, ◌&&◌, Bool, true, false, cond, List, Some, ap, subst, sym, ◌∙◌, rules}
use Rattle.std.specs.Prelude.{slice_get}
use Rattle.std.proofs.lemmas.Bool.{eqb-true}
use Rattle.std.proofs.lemmas.Option.{same_Some}
use Rattle.vk_types.specs.declared.types.Ty.{Ty}
use Rattle.vk_types.specs.Numbers.{IsCanonical, number_of}
use Rattle.vk_code.specs.Valid.{is_canonical}
use Rattle.vk_code.proofs.Faults.{and_left}
use Rattle.vk_object.specs.Memory.{Extent}
use Rattle.vk_runs.proofs.Words.{canonical_in_range}
use Rattle.vk_steps.proofs.Results.{word_back}
use Rattle.vk_access.specs.Accesses.{put_cell}

pub canonical_from : (t : Ty) (w : ℕ) → w < 2 ^ 64 → is_canonical t w ≡ true → IsCanonical t w
canonical_from t w h k = search rules

pub is_so : (t : Ty) (w : ℕ) → IsCanonical t w → is_canonical t w ≡ true
is_so t w h = subst (λ v. is_canonical t v ≡ true) (word_back t w h.0) (canonical_in_range t (number_of t w) h.1)

-- a word of an array's type is put into it
pub put_words : (arrays : List Extent) (cells : ℕ → ℕ → ℕ) (array index w : ℕ) (e : Extent) → slice_get arrays array ≡ Some e → is_canonical e.ty w ≡ true →
    ((a i : ℕ) (x : Extent) → slice_get arrays a ≡ Some x → is_canonical x.ty (cells a i) ≡ true) → (a i : ℕ) (x : Extent) → slice_get arrays a ≡ Some x → is_canonical x.ty (put_cell cells array index w a i) ≡ true
put_words arrays cells array index w e found good h a i x f = by ((a == array) && (i == index)) (λ t. eqb-true a array (and_left (a == array) (i == index) t))
  where
    by : (b : Bool) → (b ≡ true → a ≡ array) → is_canonical x.ty (cond b w (cells a i)) ≡ true
    by true same = subst (λ (y : Extent). is_canonical y.ty w ≡ true) (same_Some e x (sym found ∙ (ap (slice_get arrays) (sym (same Rattle.std.proofs.Common.refl)) ∙ f))) good
    by false same = h a i x f
