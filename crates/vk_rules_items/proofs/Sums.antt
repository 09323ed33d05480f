-- Sums of costs.
use Rattle.std.proofs.Common.{◌≡◌, ℕ, ◌+◌, ◌<◌, ◌||◌, Bool, true, false, cond, List, [], ◌∷◌, ◌++◌, map, length, take, get_or, is_some, refl, sym, ap, ap₂, ◌∙◌, arith}
use Rattle.std.proofs.lemmas.List.{append-nil, append_assoc}
use Rattle.vk_ast.specs.declared.items.Item.{Item}
use Rattle.vk_ast.specs.Units.{FunctionTree, ItemTree, function, item_of}
use Rattle.vk_rules_book.specs.Items.{cost, cost_at, costs}
use Rattle.vk_rules_book.specs.Scopes.{first_declaration, is_print}
use Rattle.vk_rules_names.proofs.Tables.{grown}
use Rattle.vk_rules_items.specs.Inner.Counts.{up_to_limit}
use Rattle.vk_rules_items.proofs.Limits.{sum_told}

pub no_costs : (texts : List (List ℕ)) (unit before : List ItemTree) → costs texts unit before [] ≡ 0
unfolding costs
no_costs texts unit before = refl

costs_push : (texts : List (List ℕ)) (unit before xs : List ItemTree) (x : ItemTree) → costs texts unit before (xs ++ x ∷ []) ≡ costs texts unit before xs + cost_at texts unit (before ++ xs) x
unfolding costs
costs_push texts unit before [] x =
    let here : cost_at texts unit before x ≡ cost_at texts unit (before ++ []) x = ap (λ ys. cost_at texts unit ys x) (sym (append-nil before)) in
    omega (arith, here)
costs_push texts unit before (y ∷ xs) x =
    let on : costs texts unit (before ++ y ∷ []) (xs ++ x ∷ []) ≡ costs texts unit (before ++ y ∷ []) xs + cost_at texts unit ((before ++ y ∷ []) ++ xs) x = costs_push texts unit (before ++ y ∷ []) xs x in
    let same : cost_at texts unit ((before ++ y ∷ []) ++ xs) x ≡ cost_at texts unit (before ++ y ∷ xs) x = ap (λ ys. cost_at texts unit ys x) (append_assoc before (y ∷ []) xs) in
    omega (arith, on, same)

-- the sum with one item more
pub next_cost : (texts : List (List ℕ)) (unit : List ItemTree) (items : List Item) (k : ℕ) (x : Item) (old new c : ℕ) → k < length items → x ≡ get_or items k x
    → old ≡ up_to_limit (costs texts unit [] (map item_of (take k items))) → c ≡ up_to_limit (cost_at texts unit (map item_of (take k items)) (item_of x))
    → new ≡ up_to_limit (old + c) → new ≡ up_to_limit (costs texts unit [] (map item_of (take (k + 1) items)))
next_cost texts unit items k x old new c lt is before told more =
    more ∙ ap₂ (λ (a b : ℕ). up_to_limit (a + b)) before told
    ∙ sum_told (costs texts unit [] (map item_of (take k items))) (cost_at texts unit (map item_of (take k items)) (item_of x))
    ∙ sym (ap (λ xs. up_to_limit (costs texts unit [] xs)) (grown items k x lt is) ∙ ap up_to_limit (costs_push texts unit [] (map item_of (take k items)) (item_of x)))

-- ---- what one item adds

-- nothing where its name was declared before
pub free_declared : (texts : List (List ℕ)) (unit before : List ItemTree) (f : FunctionTree) (d : Bool) → d ≡ is_some (first_declaration before f.name) → d ≡ true
    → 0 ≡ up_to_limit (cost_at texts unit before (function f))
free_declared texts unit before f d is declared = ap (λ b. up_to_limit (cond (b || is_print texts f.name) 0 (cost unit f))) (sym declared ∙ is)

-- nothing for `print`
pub free_print : (texts : List (List ℕ)) (unit before : List ItemTree) (f : FunctionTree) (p : Bool) → p ≡ is_print texts f.name → p ≡ true
    → 0 ≡ up_to_limit (cost_at texts unit before (function f))
free_print texts unit before f p is prints =
    nothing (is_some (first_declaration before f.name)) (cost unit f)
    ∙ ap (λ b. up_to_limit (cond (is_some (first_declaration before f.name) || b) 0 (cost unit f))) (sym prints ∙ is)
  where
    nothing : (b : Bool) (c : ℕ) → 0 ≡ up_to_limit (cond (b || true) 0 c)
    nothing true c = refl
    nothing false c = refl

-- else its cost
pub full_cost : (texts : List (List ℕ)) (unit before : List ItemTree) (f : FunctionTree) (d p : Bool) (c : ℕ) → d ≡ is_some (first_declaration before f.name) → d ≡ false
    → p ≡ is_print texts f.name → p ≡ false → c ≡ up_to_limit (cost unit f) → c ≡ up_to_limit (cost_at texts unit before (function f))
full_cost texts unit before f d p c is new is_printed other told =
    told ∙ ap₂ (λ (a b : Bool). up_to_limit (cond (a || b) 0 (cost unit f))) (sym new ∙ is) (sym other ∙ is_printed)
