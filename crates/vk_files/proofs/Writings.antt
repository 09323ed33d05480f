-- Laws of a file that is written piece by piece.
use Rattle.std.proofs.Common.{◌≡◌, ◌∙◌, ℕ, ◌+◌, ◌<◌, ◌≤◌, List, [], ◌∷◌, ◌++◌, Bool, IsTrue, length, take, drop, Option, Some, Result, Ok, Err, get_or, suc, inl, inr, refl, sym, ap, subst, append_assoc}
use Rattle.std.proofs.Math.Seq.{drop-cons}
use Rattle.std.proofs.lemmas.Bool.{false≢true}
use Rattle.std.proofs.lemmas.List.{append-nil, take-append-drop, take_all, take_more}
use Rattle.std.proofs.lemmas.List.Concat.{flat_map-cons}
use Rattle.std.proofs.lemmas.Grind.{flat_map-append}
use Rattle.std.specs.Prelude.{IsErr}
use Rattle.std.specs.List.{flat_map}
use Rattle.vk_io.specs.declared.outside.Outside.{Outside}
use Rattle.vk_io.specs.Store.{AppendsTo, Starts, StoreState, Writes}
use Rattle.vk_io.proofs.Counting.{CountsOf-then}
use Rattle.vk_files.specs.Writing.{HoldsFront}

-- writing twice is writing
pub Writes-then : (name : List ℕ) (a b c : StoreState) → Writes name a b → Writes name b c → Writes name a c
Writes-then name a b c x y = record {
  tells = y.tells ∙ x.tells;
  is_sound = y.is_sound ∙ x.is_sound;
  file = λ q ne. y.file q ne ∙ x.file q ne;
  reads = λ q. y.reads q ∙ x.reads q;
  writes = CountsOf-then (name ∷ []) a.writes b.writes c.writes x.writes y.writes;
}

-- a file that was started is empty or as it was
pub HoldsFront-start : (text : List ℕ) (old new : Option (List ℕ)) (r : Result (Unit {0}) Outside) → Starts old new r → IsErr r → HoldsFront text old new
HoldsFront-start text old new (Ok _) s h = absurd (false≢true h)
HoldsFront-start text old new (Err _) (inl same) h = inl same
HoldsFront-start text old new (Err _) (inr empty) h = inr ([], empty, (text, refl))

-- a whole text is a front of itself
pub HoldsFront-whole : (text : List ℕ) (old new : Option (List ℕ)) → new ≡ Some text → HoldsFront text old new
HoldsFront-whole text old new whole = inr (text, whole, ([], sym (append-nil text)))

-- a front of one more piece behind a front of the text
front_more : (text done piece rest : List ℕ) (old mid new : Option (List ℕ)) (r : Result (Unit {0}) Outside) → text ≡ done ++ (piece ++ rest) → mid ≡ Some done →
    AppendsTo (Some done) new r piece → IsErr r → HoldsFront text old new
front_more text done piece rest old mid new (Ok _) parts is s h = absurd (false≢true h)
front_more text done piece rest old mid new (Err _) parts is (inl same) h = inr (done, same, (piece ++ rest, parts))
front_more text done piece rest old mid new (Err _) parts is (inr (k, more)) h =
    inr (
      done ++ take k piece,
      more,
      (
        drop k piece ++ rest,
        parts ∙ ap (λ (t : List ℕ). done ++ (t ++ rest)) (sym (take-append-drop k piece)) ∙ ap (λ (t : List ℕ). done ++ t) (append_assoc (take k piece) (drop k piece) rest)
            ∙ sym (append_assoc done (take k piece) (drop k piece ++ rest)),
      ),
    )

-- ---- piece by piece

-- the file was started, and holds the bytes of the first n pieces
pub record HasWritten {X : Type 0} (bytes : X → List ℕ) (name : List ℕ) (before now : StoreState) (pieces : List X) (n : ℕ) : Type 0 where
  pub file : IsTrue before.tells → now.file name ≡ Some (flat_map bytes (take n pieces))
  pub writes : Writes name before now

-- at the beginning it holds none
pub HasWritten-none : {X : Type 0} (bytes : X → List ℕ) (name : List ℕ) (a b : StoreState) (pieces : List X) (r : Result (Unit {0}) Outside) →
    (IsTrue a.tells → Starts (a.file name) (b.file name) r) → r ≡ Ok tt → Writes name a b → HasWritten bytes name a b pieces 0
HasWritten-none bytes name a b pieces r started ok writes = record {
  file = λ told. subst (λ (r : Result (Unit {0}) Outside). Starts (a.file name) (b.file name) r) ok (started told);
  writes = writes;
}

still_told : (a b : StoreState) → b.tells ≡ a.tells → IsTrue a.tells → IsTrue b.tells
still_told a b same told = subst (λ (t : Bool). IsTrue t) (sym same) told

-- what the call for the next piece did, told of the bytes so far
next : {X : Type 0} (bytes : X → List ℕ) (name : List ℕ) (a b c : StoreState) (pieces : List X) (n : ℕ) (r : Result (Unit {0}) Outside) (piece : List ℕ) →
    HasWritten bytes name a b pieces n → (IsTrue b.tells → AppendsTo (b.file name) (c.file name) r piece) → IsTrue a.tells →
    AppendsTo (Some (flat_map bytes (take n pieces))) (c.file name) r piece
next bytes name a b c pieces n r piece h appended told =
    subst (λ (o : Option (List ℕ)). AppendsTo o (c.file name) r piece) (h.file told) (appended (still_told a b h.writes.tells told))

-- one more piece was added
pub HasWritten-more : {X : Type 0} (bytes : X → List ℕ) (name : List ℕ) (a b c : StoreState) (pieces : List X) (n : ℕ) (d : X) (r : Result (Unit {0}) Outside) →
    HasWritten bytes name a b pieces n → n < length pieces → (IsTrue b.tells → AppendsTo (b.file name) (c.file name) r (bytes (get_or pieces n d))) → r ≡ Ok tt →
    Writes name b c → HasWritten bytes name a c pieces (n + 1)
HasWritten-more bytes name a b c pieces n d r h inside appended ok writes = record {
  file = λ told.
      let done = flat_map bytes (take n pieces) in
      let piece = bytes (get_or pieces n d) in
      let all : flat_map bytes (take (n + 1) pieces) ≡ done ++ piece =
      ap (flat_map bytes) (take_more pieces n d inside) ∙ flat_map-append bytes (take n pieces) (get_or pieces n d ∷ []) ∙ ap (λ (t : List ℕ). done ++ t) (append-nil piece) in
      subst (λ (r : Result (Unit {0}) Outside). AppendsTo (Some done) (c.file name) r piece) ok (next bytes name a b c pieces n r piece h appended told) ∙ ap Some (sym all);
  writes = Writes-then name a b c h.writes writes;
}

-- all pieces were added
pub HasWritten-all : {X : Type 0} (bytes : X → List ℕ) (name : List ℕ) (a b : StoreState) (pieces : List X) (n : ℕ) → HasWritten bytes name a b pieces n →
    length pieces ≤ n → IsTrue a.tells → b.file name ≡ Some (flat_map bytes pieces)
HasWritten-all {X = X} bytes name a b pieces n h all told = h.file told ∙ ap (λ (ps : List X). Some (flat_map bytes ps)) (take_all n pieces all)

-- the call for the next piece failed
pub HasWritten-stops : {X : Type 0} (bytes : X → List ℕ) (name : List ℕ) (a b c : StoreState) (pieces : List X) (n : ℕ) (d : X) (r : Result (Unit {0}) Outside) →
    HasWritten bytes name a b pieces n → n < length pieces → (IsTrue b.tells → AppendsTo (b.file name) (c.file name) r (bytes (get_or pieces n d))) → IsErr r →
    IsTrue a.tells → HoldsFront (flat_map bytes pieces) (a.file name) (c.file name)
HasWritten-stops bytes name a b c pieces n d r h inside appended err told =
    let done = flat_map bytes (take n pieces) in
    let piece = bytes (get_or pieces n d) in
    let rest = flat_map bytes (drop (suc n) pieces) in
    let parts : flat_map bytes pieces ≡ done ++ (piece ++ rest) =
    ap (flat_map bytes) (sym (take-append-drop n pieces)) ∙ flat_map-append bytes (take n pieces) (drop n pieces)
    ∙ ap (λ (t : List ℕ). done ++ t) (ap (flat_map bytes) (drop-cons pieces n d inside) ∙ flat_map-cons bytes (get_or pieces n d) (drop (suc n) pieces)) in
    front_more (flat_map bytes pieces) done piece rest (a.file name) (b.file name) (c.file name) r parts (h.file told) (next bytes name a b c pieces n r piece h appended told) err
