-- The place that a text says, by its first signs.
use Rattle.std.proofs.Common.{◌≡◌, ℕ, ◌<◌, ◌≢◌, List, ◌∷◌, ◌++◌, length, get_or, ap, ◌∙◌, Some, pos, neg_ℤ, option_map}
use Rattle.vk_pointer_texts.specs.Texts.{minus_place, place_of, plus_place, split_at_first, steps_of}
use Rattle.vk_pointer_texts.proofs.Splits.{split_cut, split_none}

pub plus : (text name digits : List ℕ) → (text ≡ name ++ (43 ∷ digits)) × ((i : ℕ) → i < length name → get_or name i 0 ≢ 43) →
    place_of text ≡ record { name = name; offset = option_map pos (steps_of digits) }
plus text name digits h = ap (plus_place text) (ap (split_at_first 43) h.0 ∙ split_cut 43 name digits h.1)

pub minus : (text name digits : List ℕ) → ((i : ℕ) → i < length text → get_or text i 0 ≢ 43) → (text ≡ name ++ (45 ∷ digits)) × ((i : ℕ) → i < length name → get_or name i 0 ≢ 45) →
    place_of text ≡ record { name = name; offset = option_map (λ n. neg_ℤ (pos n)) (steps_of digits) }
minus text name digits none h = ap (plus_place text) (split_none 43 text none) ∙ ap (minus_place text) (ap (split_at_first 45) h.0 ∙ split_cut 45 name digits h.1)

pub plain : (text : List ℕ) → ((i : ℕ) → i < length text → get_or text i 0 ≢ 43) → ((i : ℕ) → i < length text → get_or text i 0 ≢ 45) →
    place_of text ≡ record { name = text; offset = Some (pos 0) }
plain text none bare = ap (plus_place text) (split_none 43 text none) ∙ ap (minus_place text) (split_none 45 text bare)
