-- Laws of what a sink has grown by, for callers that put one text behind another.
use Rattle.std.proofs.Common.{◌≡◌, ℕ, ◌<◌, List, [], ◌++◌, length, take, drop, get_or, suc, refl, sym, ◌∙◌, ap, subst, append_assoc}
use Rattle.std.proofs.Math.Seq.{drop-cons}
use Rattle.std.proofs.lemmas.Bool.{false≢true}
use Rattle.std.proofs.lemmas.List.{append-nil, take-append-drop}
use Rattle.std.proofs.lemmas.List.Concat.{flat_map-cons}
use Rattle.std.proofs.lemmas.Grind.{flat_map-append}
use Rattle.std.specs.Prelude.{Result, Ok, Err, IsErr}
use Rattle.std.specs.List.{flat_map}
use Rattle.vk_io.specs.declared.outside.Outside.{Outside}
use Rattle.vk_io.specs.Sink.{GrowsWithin, Puts}

-- nothing is a front of any text
pub GrowsWithin-none : (old text : List ℕ) → GrowsWithin old old text
GrowsWithin-none old text = record { front = []; rest = text; parts = refl; grown = sym (append-nil old) }

-- a whole text is a front of itself
pub GrowsWithin-whole : (old text : List ℕ) → GrowsWithin old (old ++ text) text
GrowsWithin-whole old text = record { front = text; rest = []; parts = sym (append-nil text); grown = refl }

-- a front of a text behind what was put already is a front of both together
pub GrowsWithin-after : (old done new text : List ℕ) → GrowsWithin (old ++ done) new text → GrowsWithin old new (done ++ text)
GrowsWithin-after old done new text g = record {
  front = done ++ g.front;
  rest = g.rest;
  parts = ap (λ t. done ++ t) g.parts ∙ sym (append_assoc done g.front g.rest);
  grown = g.grown ∙ append_assoc old done g.front;
}

-- a front of a text is a front of any longer one
pub GrowsWithin-before : (old new text more : List ℕ) → GrowsWithin old new text → GrowsWithin old new (text ++ more)
GrowsWithin-before old new text more g = record {
  front = g.front;
  rest = g.rest ++ more;
  parts = ap (λ t. t ++ more) g.parts ∙ append_assoc g.front g.rest more;
  grown = g.grown;
}

-- whatever a `put` answers, a front of its bytes was added
pub GrowsWithin-put : (old new : List ℕ) (r : Result (Unit {0}) Outside) (bytes : List ℕ) → Puts old new r bytes → GrowsWithin old new bytes
GrowsWithin-put old new (Ok _) bytes p = record { front = bytes; rest = []; parts = sym (append-nil bytes); grown = p }
GrowsWithin-put old new (Err _) bytes p = p

-- a `put` behind what was put already puts both together
pub Puts-after : (old done new : List ℕ) (r : Result (Unit {0}) Outside) (bytes : List ℕ) → Puts (old ++ done) new r bytes → Puts old new r (done ++ bytes)
Puts-after old done new (Ok _) bytes p = p ∙ append_assoc old done bytes
Puts-after old done new (Err _) bytes p = GrowsWithin-after old done new bytes p

-- a `put` that stopped behind a front of its bytes
pub Puts-stopped : (old new : List ℕ) (r : Result (Unit {0}) Outside) (bytes : List ℕ) → IsErr r → GrowsWithin old new bytes → Puts old new r bytes
Puts-stopped old new (Ok _) bytes h g = absurd (false≢true h)
Puts-stopped old new (Err _) bytes h g = g

-- a front of the text of one item, behind the texts of the items before it, is a front of all their texts
pub GrowsWithin-item : {X : Type 0} (f : X → List ℕ) (xs : List X) (i : ℕ) (d : X) (old new : List ℕ) → i < length xs → GrowsWithin (old ++ flat_map f (take i xs)) new (f (get_or xs i d)) → GrowsWithin old new (flat_map f xs)
GrowsWithin-item f xs i d old new inside g =
    let Grown : List ℕ → Type 0 = λ t. GrowsWithin old new t in
    let parts : flat_map f (take i xs) ++ (f (get_or xs i d) ++ flat_map f (drop (suc i) xs)) ≡ flat_map f xs =
    ap (λ t. flat_map f (take i xs) ++ t) (sym (ap (λ ys. flat_map f ys) (drop-cons xs i d inside) ∙ flat_map-cons f (get_or xs i d) (drop (suc i) xs)))
    ∙ sym (flat_map-append f (take i xs) (drop i xs))
    ∙ ap (λ ys. flat_map f ys) (take-append-drop i xs) in
    subst Grown parts (GrowsWithin-after old (flat_map f (take i xs)) new (f (get_or xs i d) ++ flat_map f (drop (suc i) xs))
    (GrowsWithin-before (old ++ flat_map f (take i xs)) new (f (get_or xs i d)) (flat_map f (drop (suc i) xs)) g))
