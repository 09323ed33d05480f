-- Types of parameters one after another.
use Rattle.std.proofs.Common.{◌≡◌, ℕ, suc, ◌+◌, ◌<◌, ◌≤◌, Bool, true, false, ◌&&◌, List, [], ◌∷◌, length, drop, get_or, refl, sym, ap, ap₂, ◌∙◌, arith}
use Rattle.std.proofs.lemmas.List.{drop_more, drop_all}
use Rattle.vk_kinds.specs.declared.heads.CType.{CType}
use Rattle.vk_ast.specs.declared.items.ParamDecl.{ParamDecl}
use Rattle.vk_rules_book.specs.Scopes.{types_of}
use Rattle.vk_rules_book.specs.Items.{same_ctype, same_ctypes}

pub none_taken : (ps : List ParamDecl) → 1 ≤ length ps → false ≡ same_ctypes (types_of ps) []
unfolding same_ctypes
none_taken [] h = absurd (omega (arith, h))
none_taken (p ∷ ps) h = refl

and_false : (b : Bool) → false ≡ (b && false)
and_false true = refl
and_false false = refl

pub one_taken : (ps : List ParamDecl) (t : CType) → 2 ≤ length ps → false ≡ same_ctypes (types_of ps) (t ∷ [])
unfolding same_ctypes
one_taken [] t h = absurd (omega (arith, h))
one_taken (p ∷ []) t h = absurd (omega (arith, h))
one_taken (p ∷ (q ∷ ps)) t h = and_false (same_ctype p.ctype t)

-- lists of two lengths differ
pub other_length : (ps qs : List ParamDecl) → (length ps ≡ length qs → ⊥) → false ≡ same_ctypes (types_of ps) (types_of qs)
unfolding same_ctypes
other_length [] [] differ = absurd (differ refl)
other_length [] (q ∷ qs) differ = refl
other_length (p ∷ ps) [] differ = refl
other_length (p ∷ ps) (q ∷ qs) differ =
    and_false (same_ctype p.ctype q.ctype) ∙ ap (λ b. same_ctype p.ctype q.ctype && b) (other_length ps qs (λ e. differ (ap suc e)))

cons_same : (p q : ParamDecl) (ps qs : List ParamDecl) → same_ctypes (types_of (p ∷ ps)) (types_of (q ∷ qs)) ≡ (same_ctype p.ctype q.ctype && same_ctypes (types_of ps) (types_of qs))
unfolding same_ctypes
cons_same p q ps qs = refl

none_same : same_ctypes (types_of []) (types_of []) ≡ true
unfolding same_ctypes
none_same = refl

-- whether the parameters from this one on have the same types
abbrev pub rest_same : List ParamDecl → List ParamDecl → ℕ → Bool
rest_same ps qs i = same_ctypes (types_of (drop i ps)) (types_of (drop i qs))

pub next_same : (ps qs : List ParamDecl) (i : ℕ) (d e : ParamDecl) (same here : Bool) → i < length ps → length ps ≡ length qs
    → here ≡ same_ctype (get_or ps i d).ctype (get_or qs i e).ctype → here ≡ same → rest_same ps qs i ≡ (same && rest_same ps qs (i + 1))
next_same ps qs i d e same here below len told is =
    ap₂ (λ (xs ys : List ParamDecl). same_ctypes (types_of xs) (types_of ys)) (drop_more ps i d below) (drop_more qs i e (omega (arith, below, len)))
    ∙ cons_same (get_or ps i d) (get_or qs i e) (drop (i + 1) ps) (drop (i + 1) qs)
    ∙ ap (λ b. b && rest_same ps qs (i + 1)) (sym told ∙ is)

pub end_same : (ps qs : List ParamDecl) (i : ℕ) → length ps ≤ i → length ps ≡ length qs → rest_same ps qs i ≡ true
end_same ps qs i past len =
    ap₂ (λ (xs ys : List ParamDecl). same_ctypes (types_of xs) (types_of ys)) (drop_all i ps past) (drop_all i qs (omega (arith, past, len))) ∙ none_same
