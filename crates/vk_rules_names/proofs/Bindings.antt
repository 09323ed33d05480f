-- The last binding of a list, from its end.
use Rattle.std.proofs.Common.{◌≡◌, ℕ, ◌+◌, ◌-◌, ◌<◌, ◌≤◌, Bool, true, false, cond, List, [], ◌∷◌, ◌++◌, length, take, slice_index_or, Option, Some, None, refl, sym, ap, ◌∙◌, arith}
use Rattle.std.proofs.lemmas.List.{take_more}
use Rattle.std.specs.Option.{option_or}
use Rattle.vk_ast.specs.declared.names.NameId.{NameId}
use Rattle.vk_rules_book.specs.declared.contexts.Binding.{Binding}
use Rattle.vk_rules_book.specs.Scopes.{last_binding, same_name}

abbrev pub own : NameId → Binding → Option Binding
own id b = cond (same_name b.name id) (Some b) None

or_assoc : (x y z : Option Binding) → option_or (option_or x y) z ≡ option_or x (option_or y z)
or_assoc None y z = refl
or_assoc (Some b) y z = refl

or_none : (x : Option Binding) → x ≡ option_or x None
or_none None = refl
or_none (Some b) = refl

pub last_none : (id : NameId) → last_binding [] id ≡ None
unfolding last_binding
last_none id = refl

last_push : (bs : List Binding) (b : Binding) (id : NameId) → last_binding (bs ++ b ∷ []) id ≡ option_or (own id b) (last_binding bs id)
unfolding last_binding
last_push [] b id = or_none (own id b)
last_push (x ∷ bs) b id = ap (λ o. option_or o (own id x)) (last_push bs b id) ∙ or_assoc (own id b) (last_binding bs id) (own id x)

last_step : (bs : List Binding) (n : ℕ) (d : Binding) (id : NameId) → 0 < n → n ≤ length bs
    → last_binding (take n bs) id ≡ option_or (own id (slice_index_or bs (n - 1) d)) (last_binding (take (n - 1) bs) id)
last_step bs n d id some within =
    let back : n ≡ n - 1 + 1 = omega (arith, some) in
    ap (λ k. last_binding (take k bs) id) back
    ∙ ap (λ xs. last_binding xs id) (take_more bs (n - 1) d (omega (arith, some, within)))
    ∙ last_push (take (n - 1) bs) (slice_index_or bs (n - 1) d) id

-- the last of these bindings is the one at their end, where it has the name, else the last of those before it
pub last_here : (bs : List Binding) (n : ℕ) (d : Binding) (id : NameId) (last : Option Binding) (named : Bool) → 0 < n → n ≤ length bs → last ≡ last_binding (take n bs) id
    → named ≡ same_name (slice_index_or bs (n - 1) d).name id → named ≡ true → Some (slice_index_or bs (n - 1) d) ≡ last
last_here bs n d id last named some within is test yes_named =
    sym (is ∙ last_step bs n d id some within
    ∙ ap (λ t. option_or (cond t (Some (slice_index_or bs (n - 1) d)) None) (last_binding (take (n - 1) bs) id)) (sym test ∙ yes_named))

pub last_left : (bs : List Binding) (n : ℕ) (d : Binding) (id : NameId) (last : Option Binding) (named : Bool) → 0 < n → n ≤ length bs → last ≡ last_binding (take n bs) id
    → named ≡ same_name (slice_index_or bs (n - 1) d).name id → named ≡ false → last ≡ last_binding (take (n - 1) bs) id
last_left bs n d id last named some within is test other =
    is ∙ last_step bs n d id some within
    ∙ ap (λ t. option_or (cond t (Some (slice_index_or bs (n - 1) d)) None) (last_binding (take (n - 1) bs) id)) (sym test ∙ other)

pub last_end : (bs : List Binding) (n : ℕ) (id : NameId) (last : Option Binding) → n ≤ 0 → last ≡ last_binding (take n bs) id → None ≡ last
last_end bs n id last end is =
    let zero : n ≡ 0 = omega (arith, end) in sym (is ∙ ap (λ k. last_binding (take k bs) id) zero ∙ last_none id)
