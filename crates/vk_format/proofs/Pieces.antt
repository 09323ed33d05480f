-- Bytes that come in pieces come to the same as bytes that come at once.
use Rattle.std.proofs.Common.{◌≡◌, ℕ, ◌+◌, ◌≤◌, true, false, ltb, inl, inr, List, [], ◌∷◌, ◌++◌, length, take, drop, Some, Err, refl, sym, ◌∙◌, arith}
use Rattle.std.proofs.lemmas.Bool.{cases_Bool, ltb-false, le-ltb}
use Rattle.std.proofs.lemmas.List.{take-append-le, drop-append-le, length-append}
use Rattle.vk_format.specs.declared.rules.ObjectFault.{ObjectFault}
use Rattle.vk_format.specs.Format.{Format, Field, Refused, Whole, Left, left, judge, advance, told, ended, more}

pub field_short : {A : Type 0} (width : ℕ) (next : List ℕ → Format A) (at : ℕ) (bytes : List ℕ) → ltb (length bytes) width ≡ true
    → advance (Field width next) at bytes ≡ left (Field width next) at bytes
unfolding advance
field_short width next at bytes e = rw e refl

pub field_taken : {A : Type 0} (width : ℕ) (next : List ℕ → Format A) (at : ℕ) (bytes : List ℕ) → ltb (length bytes) width ≡ false
    → advance (Field width next) at bytes ≡ advance (next (take width bytes)) (at + width) (drop width bytes)
unfolding advance
field_taken width next at bytes e = rw e refl

-- pieces: the bytes before, and then more
pub advance_more : {A : Type 0} (f : Format A) (at : ℕ) (xs ys : List ℕ) → advance f at (xs ++ ys) ≡ more (advance f at xs) ys
unfolding advance more
advance_more (Field width next) at xs ys = elim (cases_Bool (ltb (length xs) width)) [
  | inl short ↦ rw short refl
  | inr long ↦
      let wide : width ≤ length xs = ltb-false (length xs) width long in
      let wider : ltb (length (xs ++ ys)) width ≡ false = le-ltb _ _ (omega (arith, length-append xs ys)) in
      rw (long, wider, take-append-le width xs ys wide, drop-append-le width xs ys wide) (advance_more (next (take width xs)) (at + width) (drop width xs) ys)
]
advance_more (Refused place rule) at xs ys = refl
advance_more (Whole a) at xs ys = refl

-- what was taken does not change what the bytes are
pub judge_advance : {A : Type 0} (f : Format A) (at : ℕ) (bytes : List ℕ) → judge f at bytes ≡ ended (advance f at bytes)
unfolding advance ended judge
judge_advance (Field width next) at bytes = elim (cases_Bool (ltb (length bytes) width)) [
  | inl short ↦ rw (short, short) refl
  | inr long ↦ rw long (judge_advance (next (take width bytes)) (at + width) (drop width bytes))
]
judge_advance (Refused place rule) at bytes = refl
judge_advance (Whole a) at bytes = refl

pub told_stays_at : {A : Type 0} (f : Format A) (at : ℕ) (pending : List ℕ) (e : ObjectFault) → told (left f at pending) ≡ Some e → (ys : List ℕ) → judge f at (pending ++ ys) ≡ Err e
unfolding told judge
told_stays_at (Field width next) at pending e h ys = absurd cc
told_stays_at (Refused place rule) at pending e h ys = cc
told_stays_at (Whole a) at [] e h ys = absurd cc
told_stays_at (Whole a) at (b ∷ bs) e h ys = cc

-- a fault that is told is the fault of the bytes, however they go on
pub told_stays : {A : Type 0} (l : Left A) (e : ObjectFault) → told l ≡ Some e → (ys : List ℕ) → ended (more l ys) ≡ Err e
unfolding ended more
told_stays l e h ys = sym (judge_advance l.format l.at (l.pending ++ ys)) ∙ told_stays_at l.format l.at l.pending e h ys
