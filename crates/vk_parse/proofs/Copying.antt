-- Copying a table of names, one after the other.
use Rattle.std.proofs.Common.{◌≡◌, ℕ, zero, suc, ◌+◌, ◌<◌, List, [], ◌∷◌, ◌++◌, take, slice_get, Some, inl, inr, sym, ap, ◌∙◌, arith}
use Rattle.std.proofs.lemmas.List.{take_more}
use Rattle.std.proofs.lemmas.Option.{none-some, slice_get_within, get_or_from_slice_get}
use Rattle.vk_ast.specs.Names.{AreDistinct, IsAdded}

-- what the front of a list has at a place, the list has there, and the place is in the front
in_front : (xs : List (List ℕ)) (i k : ℕ) (x : List ℕ) → slice_get (take i xs) k ≡ Some x → (k < i) × (slice_get xs k ≡ Some x)
in_front [] zero k x e = absurd (none-some x e)
in_front [] (suc i) k x e = absurd (none-some x e)
in_front (y ∷ ys) zero k x e = absurd (none-some x e)
in_front (y ∷ ys) (suc i) zero x e = (omega arith, e)
in_front (y ∷ ys) (suc i) (suc k) x e = let rest = in_front ys i k x e in (omega (arith, rest.0), rest.1)

pub copied : (names new : List (List ℕ)) (i : ℕ) (text : List ℕ) (id : ℕ) → AreDistinct names → slice_get names i ≡ Some text → IsAdded (take i names) new text id → new ≡ take (i + 1) names
copied names new i text id distinct at added =
    elim added.grows [
      | inl same ↦
          let there = in_front names i id text (ap (λ (ts : List (List ℕ)). slice_get ts id) (sym same) ∙ added.has) in
          absurd (omega (arith, there.0, distinct id i text there.1 at))
      | inr longer ↦
          longer ∙ sym (take_more names i text (slice_get_within names i text at) ∙ ap (λ (t : List ℕ). take i names ++ t ∷ []) (get_or_from_slice_get names i text text at))
    ]
