-- Functions one item after another.
use Rattle.std.proofs.Common.{◌≡◌, ℕ, ◌+◌, ◌<◌, List, [], ◌∷◌, ◌++◌, length, map, take, get_or, Option, sym, ap, subst, ◌∙◌}
use Rattle.vk_ast.specs.declared.items.Item.{Item}
use Rattle.vk_ast.specs.Units.{ItemTree, item_of}
use Rattle.vk_rules_book.specs.declared.faults.Fault.{Fault}
use Rattle.vk_rules_book.specs.Noting.{found}
use Rattle.vk_rules_book.specs.Rules.{Subject}
use Rattle.vk_rules_book.specs.Visits.{along, function_part}
use Rattle.vk_rules_book.proofs.Along.{along_push}
use Rattle.vk_rules_book.proofs.Noting.{found_append, found_none}
use Rattle.vk_rules_names.specs.declared.known.Place.{Place}
use Rattle.vk_rules_names.specs.Seen.{HasFirst, item_at}
use Rattle.vk_rules_names.proofs.Tables.{grown}
use Rattle.vk_rules_functions.specs.Parts.{Declares}

-- nothing is noted at an item without a function
pub nothing_noted : (unit : Subject) (texts : List (List ℕ)) (before : List ItemTree) (x y : Item) (old : Option Fault) → x ≡ y → function_part texts before (item_of y) ≡ []
    → old ≡ found unit old (function_part texts before (item_of x))
nothing_noted unit texts before x y old is none =
    sym (ap (λ z. found unit old (function_part texts before (item_of z))) is ∙ ap (found unit old) none ∙ found_none unit old)

-- ---- one item more

-- the place behind one item more
pub declares_next : (place : Place) (first : List (Option ℕ)) (k : ℕ) (x : Item) → place.first.now ≡ first → k < length place.items.now → x ≡ get_or place.items.now k x
    → HasFirst place.items.now first (k + 1) → Declares place (map item_of (take k place.items.now) ++ item_of x ∷ [])
declares_next place first k x same lt is has =
    subst (Declares place) (grown place.items.now k x lt is) (λ id. ap (λ (f : List (Option ℕ)). item_at place.items.now f id) same ∙ has id)

-- what was noted behind it
pub next_noted : (unit : Subject) (texts : List (List ℕ)) (items : List Item) (k : ℕ) (x : Item) (old before next : Option Fault) → k < length items → x ≡ get_or items k x
    → before ≡ found unit old (along (function_part texts) [] (map item_of (take k items)))
    → next ≡ found unit before (function_part texts (map item_of (take k items)) (item_of x))
    → next ≡ found unit old (along (function_part texts) [] (map item_of (take (k + 1) items)))
next_noted unit texts items k x old before next lt is told noted =
    noted ∙ ap (λ o. found unit o (function_part texts (map item_of (take k items)) (item_of x))) told
    ∙ sym (ap (λ xs. found unit old (along (function_part texts) [] xs)) (grown items k x lt is)
    ∙ ap (found unit old) (along_push (function_part texts) [] (map item_of (take k items)) (item_of x))
    ∙ found_append unit old (along (function_part texts) [] (map item_of (take k items))) _)
