-- The values of a text, and their lanes.
use Rattle.std.proofs.Common.{◌≡◌, ℕ, ◌<◌, ◌≢◌, List, [], ◌∷◌, ◌++◌, length, get_or, cond, eqb, refl, ap, arith, Option, Some, None, map, sym, ◌∙◌, subst, zero, suc, IsUtf8, append_assoc, slice_get, IfSome}
use Rattle.std.specs.Option.{option_flatten}
use Rattle.std.proofs.Math.ListN.{length-append}
use Rattle.std.proofs.Math.Seq.{drop-append-add, get_or-append_seam}
use Rattle.std.proofs.lemmas.Bool.Decides.{nat_tests}
use Rattle.std.proofs.lemmas.Str.{IsUtf8-drop, IsCharBoundary-after_ascii}
use Rattle.vk_types.specs.declared.types.Word.{Word}
use Rattle.vk_kinds.specs.declared.heads.CType.{CType}
use Rattle.vk_meaning.specs.World.{Array}
use Rattle.vk_arguments.specs.Texts.{Meaning, parts, value_of_lane, values_of, with_front}
use Rattle.vk_arguments.specs.Typed.{IsValue}
use Rattle.vk_arguments.specs.Inner.Rows.{AreValues}

-- the parts of a text with no comma, and of one that has a first one
no_comma : (c : ℕ) (xs ys : List (List ℕ)) → c ≢ 44 → cond (eqb c 44) xs ys ≡ ys
no_comma c xs ys h = grind (arith, nat_tests)

pub parts_one : (bs : List ℕ) → ((i : ℕ) → i < length bs → get_or bs i 0 ≢ 44) → parts bs ≡ bs ∷ []
parts_one [] h = refl
parts_one (c ∷ cs) h = no_comma c ([] ∷ parts cs) (with_front c (parts cs)) (h 0 (omega arith)) ∙ ap (with_front c) (parts_one cs (λ i l. h (suc i) (omega arith)))

pub parts_cut : (xs ys : List ℕ) → ((i : ℕ) → i < length xs → get_or xs i 0 ≢ 44) → parts (xs ++ (44 ∷ ys)) ≡ xs ∷ parts ys
parts_cut [] ys h = refl
parts_cut (x ∷ xs) ys h =
    no_comma x ([] ∷ parts (xs ++ (44 ∷ ys))) (with_front x (parts (xs ++ (44 ∷ ys)))) (h 0 (omega arith)) ∙ ap (with_front x) (parts_cut xs ys (λ i l. h (suc i) (omega arith)))

-- one more part of what is left, and the last one
pub values_cut : (word : Meaning) (t : CType) (so_far : List (Option Word)) (text rest part after : List ℕ) → so_far ++ values_of word t rest ≡ values_of word t text →
    rest ≡ part ++ (44 ∷ after) → ((i : ℕ) → i < length part → get_or part i 0 ≢ 44) → (so_far ++ (word t part ∷ [])) ++ values_of word t after ≡ values_of word t text
values_cut word t so_far text rest part after before e h =
    append_assoc so_far (word t part ∷ []) (values_of word t after) ∙ ap (λ ps. so_far ++ map (word t) ps) (sym (parts_cut part after h))
    ∙ ap (λ (bs : List ℕ). so_far ++ values_of word t bs) (sym e) ∙ before

pub values_one : (word : Meaning) (t : CType) (so_far : List (Option Word)) (text rest : List ℕ) → so_far ++ values_of word t rest ≡ values_of word t text →
    ((i : ℕ) → i < length rest → get_or rest i 0 ≢ 44) → so_far ++ (word t rest ∷ []) ≡ values_of word t text
values_one word t so_far text rest before h = ap (λ ps. so_far ++ map (word t) ps) (sym (parts_one rest h)) ∙ before

-- one more value of the type
pub values_more : (arrays : List Array) (t : CType) (values : List (Option Word)) (v : Option Word) → AreValues arrays t values → IfSome v (IsValue arrays t) →
    AreValues arrays t (values ++ v ∷ [])
values_more arrays t [] v before here = (here, tt)
values_more arrays t (x ∷ xs) v before here = (before.0, values_more arrays t xs v before.1 here)

-- a lane's value is of the type
some_value : (arrays : List Array) (t : CType) (v : Option Word) (w : Word) → IfSome v (IsValue arrays t) → v ≡ Some w → IsValue arrays t w
some_value arrays t None w typed e = cc
some_value arrays t (Some x) w typed e = let same : x ≡ w = cc in subst (IsValue arrays t) same typed

got_value : (arrays : List Array) (t : CType) (values : List (Option Word)) (lane : ℕ) (w : Word) → AreValues arrays t values → option_flatten (slice_get values lane) ≡ Some w →
    IsValue arrays t w
got_value arrays t [] lane w typed e = cc
got_value arrays t (v ∷ vs) zero w typed e = some_value arrays t v w typed.0 e
got_value arrays t (v ∷ vs) (suc lane) w typed e = got_value arrays t vs lane w typed.1 e

pub lane_value : (arrays : List Array) (t : CType) (values : List (Option Word)) (lane : ℕ) (w : Word) → AreValues arrays t values → value_of_lane values lane ≡ Some w →
    IsValue arrays t w
lane_value arrays t [] lane w typed e = cc
lane_value arrays t (v ∷ []) lane w typed e = some_value arrays t v w typed.0 e
lane_value arrays t (v ∷ u ∷ vs) lane w typed e = got_value arrays t (v ∷ u ∷ vs) lane w typed e

-- what follows a comma is text
pub text_after : (text part after : List ℕ) → IsUtf8 text → text ≡ part ++ (44 ∷ after) → IsUtf8 after
text_after text part after u e =
    let whole : IsUtf8 (part ++ (44 ∷ after)) = subst IsUtf8 e u in
    let comma : get_or (part ++ (44 ∷ after)) (length part) 0 ≡ 44 = get_or-append_seam part 44 after 0 in
    let inside : length part < length (part ++ (44 ∷ after)) = omega (arith, length-append part (44 ∷ after)) in
    subst IsUtf8 (drop-append-add part (44 ∷ after) 1) (IsUtf8-drop _ _ whole (IsCharBoundary-after_ascii (part ++ (44 ∷ after)) (length part) whole inside (omega arith)))
