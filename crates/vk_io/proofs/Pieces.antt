-- Laws of a buffer of texts.
use Rattle.std.proofs.Common.{◌≡◌, ℕ, ◌≤◌, List, [], ◌∷◌, ◌++◌, length, take, drop, refl, sym, ◌∙◌, ap, ap₂, subst, arith}
use Rattle.std.proofs.lemmas.List.{append-nil, drop-append-le, drop_all, length-append, take-append-le, take_all}
use Rattle.vk_io.specs.Inner.Lines.{Fill, pieces}

-- bytes behind a full buffer are one more text
pub pieces-more : (ns bytes more : List ℕ) → Fill ns bytes → pieces (ns ++ (length more ∷ [])) (bytes ++ more) ≡ pieces ns bytes ++ (more ∷ [])
pieces-more [] bytes more full = ap (λ t. t ∷ []) (ap (λ b. take (length more) (b ++ more)) full ∙ take_all (length more) more (omega arith))
pieces-more (n ∷ ns) bytes more full =
    ap₂ (λ t b. t ∷ pieces (ns ++ (length more ∷ [])) b) (take-append-le n bytes more full.0) (drop-append-le n bytes more full.0)
    ∙ ap (λ t. take n bytes ∷ t) (pieces-more ns (drop n bytes) more full.1)

-- and the buffer is full with it
pub Fill-more : (ns bytes more : List ℕ) → Fill ns bytes → Fill (ns ++ (length more ∷ [])) (bytes ++ more)
Fill-more [] bytes more full =
    subst (λ b. Fill (length more ∷ []) (b ++ more)) (sym full) (omega arith, drop_all (length more) more (omega arith))
Fill-more (n ∷ ns) bytes more full =
    let room = full.0 in
    (omega (arith, length-append bytes more), subst (λ b. Fill (ns ++ (length more ∷ [])) b) (sym (drop-append-le n bytes more full.0)) (Fill-more ns (drop n bytes) more full.1))
