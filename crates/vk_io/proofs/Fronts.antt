-- Laws of the fronts of a file.
use Rattle.std.proofs.Common.{◌≡◌, ℕ, ◌+◌, ◌<◌, List, [], ◌++◌, length, take, drop, Option, None, Some, Ok, refl, sym, ◌∙◌, ap, append_assoc, arith}
use Rattle.std.proofs.lemmas.Bool.{false≢true}
use Rattle.std.proofs.lemmas.List.{length-append, take-append-drop}
use Rattle.std.proofs.Math.Seq.{drop-append_seam}
use Rattle.vk_io.specs.Store.{GivesFrom, Fills}
use Rattle.vk_io.specs.Whole.{IsFront, IsTooLong}

-- nothing is a front of any file
pub IsFront-none : (file : Option (List ℕ)) → IsFront file []
IsFront-none None = refl
IsFront-none (Some bytes) = (bytes, refl)

-- a file that begins with more bytes than the limit is too long
pub IsTooLong-front : (file : Option (List ℕ)) (all : List ℕ) (limit : ℕ) → IsFront file all → limit < length all → IsTooLong file limit
IsTooLong-front None all limit f l = let none : length all ≡ 0 = ap length f in absurd (omega arith)
IsTooLong-front (Some bytes) all limit f l =
    let parts : length bytes ≡ length all + length f.0 = ap length f.1 ∙ length-append all f.0 in
    (bytes, refl, omega arith)

-- the bytes that a file gives from the end of a front of it come next in it
given_next : (bytes front rest into : List ℕ) (at n : ℕ) → at ≡ length front → bytes ≡ front ++ rest → GivesFrom bytes at n into → take n into ≡ take n rest
given_next bytes front rest into at n e f g =
    g.given ∙ ap (λ t. take n t) (ap (λ a. drop a bytes) e ∙ ap (λ b. drop (length front) b) f ∙ drop-append_seam front rest)

-- the bytes that a `fill` gives from the end of a front make a longer front
pub IsFront-fill : (file : Option (List ℕ)) (front into : List ℕ) (at n : ℕ) → at ≡ length front → IsFront file front → Fills file at (Ok n) into → IsFront file (front ++ take n into)
IsFront-fill None front into at n e f g = absurd (false≢true g)
IsFront-fill (Some bytes) front into at n e f g = (
  drop n f.0,
  f.1 ∙ ap (λ t. front ++ t) (sym (take-append-drop n f.0))
      ∙ ap (λ t. front ++ (t ++ drop n f.0)) (sym (given_next bytes front f.0 into at n e f.1 g))
      ∙ sym (append_assoc front (take n into) (drop n f.0)),
)
