-- The first words of arrays are words of their types.
use Rattle.std.proofs.Common.{◌≡◌, ℕ, zero, suc, ◌<◌, ◌≤◌, List, [], ◌∷◌, map, length, get_or, pos, unwrap_or, refl, sym, ap, subst, ◌∙◌, arith, rules}
use Rattle.vk_types.specs.declared.types.Ty.{Ty}
use Rattle.vk_types.specs.declared.types.Ty.TheVariants.{I8, I16, I32, I64, U8, U16, U32, U64}
use Rattle.vk_types.specs.Numbers.{IsCanonical, IsInRange, number_of, wrap_number, word_of}
use Rattle.vk_ast.specs.Tree.{Tree}
use Rattle.vk_ast.specs.Units.{object_of}
use Rattle.vk_numbers.proofs.Numbers.{wrap_in_range, wrap_keeps, canonical_word, word_of-number}
use Rattle.vk_meaning.specs.World.{array_at}
use Rattle.vk_meaning.specs.Programs.{initial_number}
use Rattle.vk_reading_rows.specs.declared.objects.Placed.{Placed}
use Rattle.vk_reading_rows.specs.Objects.{AreGivenWithin, array_seen}
use Rattle.vk_reading_rows.specs.Inner.Rows.{given_words}

zero_in_range : (t : Ty) → IsInRange t (pos 0)
zero_in_range I8 = search rules
zero_in_range I16 = search rules
zero_in_range I32 = search rules
zero_in_range I64 = search rules
zero_in_range U8 = search rules
zero_in_range U16 = search rules
zero_in_range U32 = search rules
zero_in_range U64 = search rules

given_canonical : (t : Ty) (es : List Tree) (i : ℕ) → IsCanonical t (get_or (given_words t es) i 0)
given_canonical t [] i = canonical_word t (pos 0) (zero_in_range t)
given_canonical t (e ∷ es) zero = canonical_word t (wrap_number t (initial_number e)) (wrap_in_range t (initial_number e))
given_canonical t (e ∷ es) (suc i) = given_canonical t es i

word_of_zero : word_of (pos 0) ≡ 0
word_of_zero = refl

-- the word of the number 0
pub zero_word : (t : Ty) (w : ℕ) → number_of t w ≡ wrap_number t (pos 0) → IsCanonical t w → w ≡ 0
zero_word t w e h = sym (word_of-number t w h) ∙ ap word_of (e ∙ wrap_keeps t (pos 0) (zero_in_range t)) ∙ word_of_zero

-- an array of a list has no more given elements than it has
pub given_within : (ps : List Placed) (i : ℕ) (p : Placed) → i < length ps → p ≡ get_or ps i p → AreGivenWithin (map array_seen ps) → length (array_seen p).given ≤ (array_seen p).length
given_within [] i p below is h = absurd (omega arith)
given_within (q ∷ qs) zero p below is h = subst (λ (x : Placed). length (array_seen x).given ≤ (array_seen x).length) (sym is) (h zero)
given_within (q ∷ qs) (suc i) p below is h = given_within qs i p (omega arith) is (λ a. h (suc a))

pub arrays_canonical : (ps : List Placed) (a i : ℕ) → IsCanonical (array_at (map array_seen ps) a).ty (get_or (array_at (map array_seen ps) a).given i 0)
arrays_canonical [] a i = canonical_word U8 (pos 0) (zero_in_range U8)
arrays_canonical (p ∷ ps) zero i = given_canonical p.object.now.ty (unwrap_or (object_of p.object.now).init []) i
arrays_canonical (p ∷ ps) (suc a) i = arrays_canonical ps a i
