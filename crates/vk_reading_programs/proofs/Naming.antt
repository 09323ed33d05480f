-- Tables of names, one unit after another.
use Rattle.std.proofs.Common.{◌≡◌, ℕ, zero, suc, ◌+◌, ◌-◌, ◌<◌, min, List, [], ◌∷◌, ◌++◌, length, map, take, get_or, slice_get, Option, Some, None, unwrap_or, refl, sym, ap, subst, ◌∙◌, arith}
use Rattle.std.proofs.lemmas.List.{take_more, map-append}
use Rattle.std.proofs.lemmas.Option.{none-some, same_Some}
use Rattle.std.specs.Option.{option_and_then}
use Rattle.vk_ast.specs.declared.names.NameId.{NameId}
use Rattle.vk_rules_book.specs.Rules.{Subject}
use Rattle.vk_rules_book.specs.Scopes.{text_of}
use Rattle.vk_reading_steps.specs.Settings.{row_in}
use Rattle.vk_reading_rows.specs.declared.functions.FunctionPlace.{FunctionPlace}
use Rattle.vk_reading_calls.specs.declared.program.ProgramUnit.{ProgramUnit}
use Rattle.vk_reading_calls.specs.Right.{AreRightIn, IsRight, place_in, subject_of, subjects_of}

-- ---- rows of names

at_end : {T : Type 0} (f : List ℕ → T) (names : List (List ℕ)) (n : ℕ) → slice_get (map f (names ++ [] ∷ [])) (min n (length names)) ≡ Some (f (unwrap_or (slice_get names n) []))
at_end f [] n = let e : min n 0 ≡ 0 = omega arith in ap (slice_get (map f ([] ∷ []))) e
at_end f (x ∷ names) zero = let e : min 0 (suc (length names)) ≡ 0 = omega arith in ap (slice_get (map f ((x ∷ names) ++ [] ∷ []))) e
at_end f (x ∷ names) (suc n) = let e : min (suc n) (suc (length names)) ≡ suc (min n (length names)) = omega arith in
    ap (slice_get (map f ((x ∷ names) ++ [] ∷ []))) e ∙ at_end f names n

rows_count : {T : Type 0} (f : List ℕ → T) (names : List (List ℕ)) → length (map f (names ++ [] ∷ [])) ≡ suc (length names)
rows_count f [] = refl
rows_count f (x ∷ names) = ap suc (rows_count f names)

-- the row of a name
pub row_is : {T : Type 0} (f : List ℕ → T) (rows : List T) (names : List (List ℕ)) (id : NameId) → rows ≡ map f (names ++ [] ∷ []) → row_in rows id ≡ Some (f (text_of names id))
row_is f rows names id e =
    let count = ap length e ∙ rows_count f names in
    let last : length rows - 1 ≡ length names = omega (arith, count) in
    ap (λ (n : ℕ). slice_get rows (min id.0 n)) last ∙ ap (λ xs. slice_get xs (min id.0 (length names))) e ∙ at_end f names id.0

-- ---- one unit more

pub one_unit_more : {X : Type 0} (v : X → Subject) (xs : List X) (i : ℕ) (x : X) (old : List ProgramUnit) (u : ProgramUnit) → i < length xs → x ≡ get_or xs i x → subjects_of old ≡ map v (take i xs) →
    subject_of u ≡ v x → subjects_of (old ++ u ∷ []) ≡ map v (take (i + 1) xs)
one_unit_more v xs i x old u below is e here =
    map-append subject_of old (u ∷ []) ∙ ap (λ us. us ++ subject_of u ∷ []) e ∙ ap (λ s. map v (take i xs) ++ s ∷ []) here
    ∙ sym (ap (map v) (take_more xs i x below ∙ ap (λ y. take i xs ++ y ∷ []) (sym is)) ∙ map-append v (take i xs) (x ∷ []))

pub one_right_more : (program : List Subject) (old : List ProgramUnit) (u : ProgramUnit) → AreRightIn program old → IsRight program u → AreRightIn program (old ++ u ∷ [])
one_right_more program [] u h r zero w e = subst (IsRight program) (same_Some u w e) r
one_right_more program [] u h r (suc k) w e = absurd (none-some w e)
one_right_more program (x ∷ old) u h r zero w e = h zero w e
one_right_more program (x ∷ old) u h r (suc k) w e = one_right_more program old u (λ j. h (suc j)) r k w e
