-- Items one after another.
use Rattle.std.proofs.Common.{◌≡◌, ℕ, ◌+◌, ◌<◌, List, [], ◌∷◌, ◌++◌, length, map, take, get_or, Option, refl, sym, ap, ap₂, ◌∙◌}
use Rattle.vk_ast.specs.declared.items.Item.{Item}
use Rattle.vk_ast.specs.Directives.{DirectiveTree}
use Rattle.vk_ast.specs.Units.{FunctionTree, ObjectTree, ItemTree, function, object, lost_line, item_of}
use Rattle.vk_unit_rules.specs.declared.rules.UnitRule.TheVariants.{D12}
use Rattle.vk_rules_book.specs.Faults.{directive_fault, first_among}
use Rattle.vk_rules_book.specs.Items.{item_faults}
use Rattle.vk_rules_book.specs.Scopes.{Scope, file_scope}
use Rattle.vk_rules_book.specs.declared.faults.Fault.{Fault}
use Rattle.vk_rules_book.specs.Noting.{found}
use Rattle.vk_rules_book.specs.Rules.{Subject}
use Rattle.vk_rules_book.specs.Visits.{along, item, item_part, length_visits}
use Rattle.vk_rules_book.proofs.Along.{along_push}
use Rattle.vk_rules_book.proofs.Noting.{found_append, found_first, found_none, found_one}
use Rattle.vk_rules_names.proofs.Tables.{grown}
use Rattle.vk_rules_items.specs.Inner.Parts.{front_part, back_part}

-- an item is visited in two parts
parts : (texts : List (List ℕ)) (before : List ItemTree) (i : ItemTree) → front_part texts before i ++ back_part texts (before ++ i ∷ []) i ≡ item_part texts before i
parts texts before (function f) = refl
parts texts before (object o) = refl
parts texts before (lost_line d) = refl

-- ---- the parts of an item

module _ (unit : Subject) (before : List ItemTree) (old : Option Fault) where
  pub front_function : (i : ItemTree) (f : FunctionTree) (new : Option Fault) → i ≡ function f → new ≡ first_among old (item_faults unit.texts unit.items before (function f))
      → new ≡ found unit old (front_part unit.texts before i)
  front_function i f new is noted =
      noted ∙ sym (ap (λ x. found unit old (front_part unit.texts before x)) is ∙ found_one unit old (item before (function f)))

  pub front_object : (i : ItemTree) (o : ObjectTree) (middle new : Option Fault) (u : Subject) (s : Scope) → i ≡ object o → u ≡ unit → s ≡ file_scope unit.texts before
      → middle ≡ first_among old (item_faults unit.texts unit.items before (object o)) → new ≡ found u middle (length_visits s o.array) → new ≡ found unit old (front_part unit.texts before i)
  front_object i o middle new u s is same scope front back =
      back ∙ ap₂ (λ (v : Subject) (t : Scope). found v middle (length_visits t o.array)) same scope
      ∙ ap (λ m. found unit m (length_visits (file_scope unit.texts before) o.array)) front
      ∙ sym (ap (λ x. found unit old (front_part unit.texts before x)) is ∙ found_first unit old (item before (object o)) (length_visits (file_scope unit.texts before) o.array))

  pub front_line : (i : ItemTree) (d : DirectiveTree) (fault : Fault) (new : Option Fault) → i ≡ lost_line d → fault ≡ directive_fault d d.token D12 → new ≡ first_among old (fault ∷ [])
      → new ≡ found unit old (front_part unit.texts before i)
  unfolding item_faults
  front_line i d fault new is told noted =
      noted ∙ ap (λ f. first_among old (f ∷ [])) told
      ∙ sym (ap (λ x. found unit old (front_part unit.texts before x)) is ∙ found_one unit old (item before (lost_line d)))

  -- there is no part behind a function or a line
  pub no_back_function : (i : ItemTree) (f : FunctionTree) → i ≡ function f → old ≡ found unit old (back_part unit.texts before i)
  no_back_function i f is = sym (ap (λ x. found unit old (back_part unit.texts before x)) is ∙ found_none unit old)

  pub no_back_line : (i : ItemTree) (d : DirectiveTree) → i ≡ lost_line d → old ≡ found unit old (back_part unit.texts before i)
  no_back_line i d is = sym (ap (λ x. found unit old (back_part unit.texts before x)) is ∙ found_none unit old)

-- what is noted at one item
pub item_noted : (unit : Subject) (texts : List (List ℕ)) (items : List Item) (k n : ℕ) (x : Item) (old middle new : Option Fault) → k < length items → x ≡ get_or items k x → n ≡ k + 1
    → middle ≡ found unit old (front_part texts (map item_of (take k items)) (item_of x))
    → new ≡ found unit middle (back_part texts (map item_of (take n items)) (item_of x))
    → new ≡ found unit old (item_part texts (map item_of (take k items)) (item_of x))
item_noted unit texts items k n x old middle new lt is on front back =
    back ∙ ap₂ (λ (o : Option Fault) (m : ℕ). found unit o (back_part texts (map item_of (take m items)) (item_of x))) front on
    ∙ ap (λ xs. found unit (found unit old (front_part texts (map item_of (take k items)) (item_of x))) (back_part texts xs (item_of x))) (grown items k x lt is)
    ∙ sym (found_append unit old (front_part texts (map item_of (take k items)) (item_of x)) (back_part texts (map item_of (take k items) ++ item_of x ∷ []) (item_of x)))
    ∙ ap (found unit old) (parts texts (map item_of (take k items)) (item_of x))

-- what was noted behind one item more
pub next_noted : (unit : Subject) (texts : List (List ℕ)) (items : List Item) (k n : ℕ) (x : Item) (old before next : Option Fault) → k < length items → x ≡ get_or items k x → n ≡ k
    → before ≡ found unit old (along (item_part texts) [] (map item_of (take k items)))
    → next ≡ found unit before (item_part texts (map item_of (take n items)) (item_of x))
    → next ≡ found unit old (along (item_part texts) [] (map item_of (take (k + 1) items)))
next_noted unit texts items k n x old before next lt is same told noted =
    noted ∙ ap₂ (λ (o : Option Fault) (m : ℕ). found unit o (item_part texts (map item_of (take m items)) (item_of x))) told same
    ∙ sym (ap (λ xs. found unit old (along (item_part texts) [] xs)) (grown items k x lt is)
    ∙ ap (found unit old) (along_push (item_part texts) [] (map item_of (take k items)) (item_of x))
    ∙ found_append unit old (along (item_part texts) [] (map item_of (take k items))) _)
