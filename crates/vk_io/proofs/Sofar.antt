-- What loops keep.
use Rattle.std.proofs.Common.{◌≡◌, ℕ, ◌+◌, ◌≤◌, List, [], ◌∷◌, ◌++◌, Bool, IsTrue, Option, length, take, drop, add-one, refl, sym, ◌∙◌, ap, subst, append_assoc, arith}
use Rattle.std.proofs.lemmas.List.{length-append, append-nil}
use Rattle.std.proofs.lemmas.List.Folds.{concat-append}
use Rattle.std.specs.List.{concat}
use Rattle.vk_io.specs.Counts.{count_after, next_count}
use Rattle.vk_io.specs.Inner.Lines.{Fill, pieces}
use Rattle.vk_io.specs.Lines.{StopsAt}
use Rattle.vk_io.specs.Sink.{GrowsWithin, SinkState, Stays}
use Rattle.vk_io.specs.Store.{Reads, StoreState}
use Rattle.vk_io.specs.Whole.{IsFront}
use Rattle.vk_io.proofs.Counting.{Reads-none, Reads-then}
use Rattle.vk_io.proofs.Fronts.{IsFront-none}
use Rattle.vk_io.proofs.Grown.{GrowsWithin-after, GrowsWithin-before}

-- ---- texts that are put

-- a sink that was given the first texts of a buffer, and what is left of it
pub record HasPut (before now : SinkState) (lengths bytes left rest : List ℕ) : Type 0 where
  pub done : List (List ℕ)
  pub parts : pieces lengths bytes ≡ done ++ pieces left rest
  pub room : Fill left rest
  pub calls : now.calls ≡ count_after before.calls (length done)
  pub put : IsTrue before.tells → now.bytes ≡ before.bytes ++ concat done
  pub stays : Stays before now

pub HasPut-none : (a : SinkState) (lengths bytes : List ℕ) → Fill lengths bytes → HasPut a a lengths bytes lengths bytes
HasPut-none a lengths bytes room = record {
  done = [];
  parts = refl;
  room = room;
  calls = refl;
  put = λ _. sym (append-nil a.bytes);
  stays = record { tells = refl; is_lean = refl; faults = omega arith };
}

-- the first text of what is left fits
pub HasPut-fits : (a b : SinkState) (lengths bytes rest ns : List ℕ) (n : ℕ) → HasPut a b lengths bytes (n ∷ ns) rest → n ≤ length rest
HasPut-fits a b lengths bytes rest ns n h = h.room.0

-- one more text was put
pub HasPut-more : (a b c : SinkState) (lengths bytes rest ns after : List ℕ) (n : ℕ) → HasPut a b lengths bytes (n ∷ ns) rest →
    after ≡ drop n rest → c.calls ≡ next_count b.calls → (IsTrue b.tells → c.bytes ≡ b.bytes ++ take n rest) → Stays b c →
    HasPut a c lengths bytes ns after
HasPut-more a b c lengths bytes rest ns after n h at calls put stays =
    let last = take n rest in
    record {
      done = h.done ++ (last ∷ []);
      parts = h.parts ∙ ap (λ t. h.done ++ (last ∷ pieces ns t)) (sym at) ∙ sym (append_assoc h.done (last ∷ []) (pieces ns after));
      room = subst (λ t. Fill ns t) (sym at) h.room.1;
      calls = calls ∙ ap next_count h.calls ∙ ap (count_after a.calls) (sym (length-append h.done (last ∷ []) ∙ add-one (length h.done)));
      put = λ told.
          let now : IsTrue b.tells = subst (λ t. IsTrue t) (sym h.stays.tells) told in
          put now ∙ ap (λ t. t ++ last) (h.put told) ∙ append_assoc a.bytes (concat h.done) last
          ∙ ap (λ t. a.bytes ++ t) (ap (λ t. concat h.done ++ t) (sym (append-nil last)) ∙ sym (concat-append h.done (last ∷ [])));
      stays = record {
        tells = stays.tells ∙ h.stays.tells;
        is_lean = stays.is_lean ∙ h.stays.is_lean;
        faults = let first = h.stays.faults in let second = stays.faults in omega arith;
      };
    }

-- the call for the next text failed
pub HasPut-stops : (a b c : SinkState) (lengths bytes rest ns line : List ℕ) (n : ℕ) → HasPut a b lengths bytes (n ∷ ns) rest →
    line ≡ take n rest → c.calls ≡ next_count b.calls → (IsTrue b.tells → GrowsWithin b.bytes c.bytes line) →
    StopsAt (pieces lengths bytes) a c
HasPut-stops a b c lengths bytes rest ns line n h is calls grown = record {
  done = h.done;
  line = line;
  rest = pieces ns (drop n rest);
  parts = h.parts ∙ ap (λ t. h.done ++ (t ∷ pieces ns (drop n rest))) (sym is);
  calls = calls ∙ ap next_count h.calls ∙ ap (count_after a.calls) (sym (add-one (length h.done)));
  grown = λ told.
      let now : IsTrue b.tells = subst (λ t. IsTrue t) (sym h.stays.tells) told in
      subst (λ t. GrowsWithin t c.bytes line) (h.put told) (grown now);
}

-- what was put up to the text that failed is a front of all of them
pub StopsAt-front : (lines : List (List ℕ)) (a c : SinkState) → StopsAt lines a c → IsTrue a.tells → GrowsWithin a.bytes c.bytes (concat lines)
StopsAt-front lines a c s told =
    let whole : concat s.done ++ (s.line ++ concat s.rest) ≡ concat lines = sym (ap concat s.parts ∙ concat-append s.done (s.line ∷ s.rest)) in
    subst (λ t. GrowsWithin a.bytes c.bytes t) whole
    (GrowsWithin-after a.bytes (concat s.done) c.bytes (s.line ++ concat s.rest)
    (GrowsWithin-before (a.bytes ++ concat s.done) c.bytes s.line (concat s.rest) (s.grown told)))

-- ---- a file that is read

-- a store of which a front of a name's file was read so far
pub record HasRead (name : List ℕ) (before now : StoreState) (front : List ℕ) : Type 0 where
  pub stays : Reads (name ∷ []) before now
  pub read : IsTrue before.tells → IsFront (before.file name) front

-- at the beginning nothing was read
pub HasRead-none : (name : List ℕ) (a : StoreState) → HasRead name a a []
HasRead-none name a = record { stays = Reads-none (name ∷ []) a; read = λ _. IsFront-none (a.file name) }

-- one more piece was read
pub HasRead-more : (name : List ℕ) (a b c : StoreState) (front more : List ℕ) → HasRead name a b front → Reads (name ∷ []) b c
    → (IsTrue b.tells → IsFront (b.file name) front → IsFront (b.file name) more) → HasRead name a c more
HasRead-more name a b c front more h stays read = record {
  stays = Reads-then (name ∷ []) a b c h.stays stays;
  read = λ known.
      let Front : Option (List ℕ) → Type 0 = λ o. IsFront o front in
      let Longer : Option (List ℕ) → Type 0 = λ o. IsFront o more in
      let Told : Bool → Type 0 = λ b. IsTrue b in
      subst Longer (h.stays.file name) (read (subst Told (sym h.stays.tells) known) (subst Front (sym (h.stays.file name)) (h.read known)));
}

-- what a reader says of the store as it is now, of the store as it was
pub HasRead-whole : (name : List ℕ) (a b : StoreState) (front : List ℕ) (whole : Option (List ℕ)) → HasRead name a b front
    → (IsTrue b.tells → IsFront (b.file name) front → b.file name ≡ whole) → IsTrue a.tells → a.file name ≡ whole
HasRead-whole name a b front whole h end known =
    let Front : Option (List ℕ) → Type 0 = λ o. IsFront o front in
    let Told : Bool → Type 0 = λ b. IsTrue b in
    sym (h.stays.file name) ∙ end (subst Told (sym h.stays.tells) known) (subst Front (sym (h.stays.file name)) (h.read known))
