-- A place of C5 stands behind each token up to which some text goes.
use Rattle.std.proofs.Common.{◌≡◌, ℕ, ◌<◌, inl, inr, List, [], ◌∷◌, ◌++◌, length, refl, sym, ap, ◌∙◌, subst, arith, length-append}
use Rattle.std.proofs.lemmas.Bool.{cases_lt}
use Rattle.vk_grammar_expr.specs.declared.symbols.Sym.{Sym}
use Rattle.vk_grammar_expr.specs.Texts.{Begins, IsDead, IsPlace, IsDeepPlace}

dead_behind : (Text : List Sym → Type 0) (y : Sym) (b r : List Sym) → IsDead Text (y ∷ b) r → IsDead (λ u. Text (y ∷ u)) b r
dead_behind Text y b [] dead = dead
dead_behind Text y b (t ∷ r) dead = dead

not_dead : (Text : List Sym → Type 0) (v s b r : List Sym) → v ++ s ≡ b ++ r → length s < length r → Begins Text v → IsDead Text b r → ⊥
not_dead Text v s [] [] e l alive dead = absurd (omega arith)
not_dead Text [] s [] (t ∷ r) e l alive dead = absurd (omega (arith, ap length e))
not_dead Text (z ∷ v) s [] (t ∷ r) e l alive dead =
    let first : z ≡ t = cc in
    dead (v ++ alive.0) (subst (λ (x : Sym). Text (x ∷ (v ++ alive.0))) first alive.1)
not_dead Text [] s (y ∷ b) r e l alive dead = absurd (omega (arith, ap length e, length-append b r))
not_dead Text (z ∷ v) s (y ∷ b) r e l alive dead =
    let first : z ≡ y = cc in
    let rest : v ++ s ≡ b ++ r = cc in
    not_dead (λ u. Text (y ∷ u)) v s b r rest l (alive.0, subst (λ (x : Sym). Text (x ∷ (v ++ alive.0))) first alive.1) (dead_behind Text y b r dead)

joined : (b : List Sym) (t : Sym) (r : List Sym) → b ++ (t ∷ r) ≡ (b ++ (t ∷ [])) ++ r
joined [] t r = refl
joined (x ∷ b) t r = ap (λ (l : List Sym). x ∷ l) (joined b t r)

-- so C5 is behind C6
pub place_behind : (Text Kept : List Sym → Type 0) (w : List Sym) (n m : ℕ) → IsDeepPlace Text Kept w n → IsPlace Text w m → m < n
place_behind Text Kept w n m d p =
    elim (cases_lt m n) [
      | inl less ↦ less
      | inr more ↦
          absurd (not_dead Text (d.before ++ (d.at ∷ [])) d.rest p.before p.rest (sym (joined d.before d.at d.rest) ∙ sym d.parts ∙ p.parts) (omega (arith, more, d.left, p.left)) d.alive p.dead)
    ]

-- a text within the limits has no place of C6
pub kept_not_deep : (Text Kept : List Sym → Type 0) (w : List Sym) (n : ℕ) → IsDeepPlace Text Kept w n → Kept w → ⊥
kept_not_deep Text Kept w n d kept = d.deep d.rest (subst Kept d.parts kept)
