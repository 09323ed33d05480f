-- A format as a tree: how many bytes are wanted next, and what comes of them.
use Rattle.std.specs.Prelude.{ℕ, ◌+◌, nat_lt, if◌then◌else◌, List, [], ◌∷◌, ◌++◌, length, take, drop, Option, Some, None, Result, Ok, Err}
use Rattle.vk_format.specs.declared.rules.ObjectRule.{ObjectRule}
use Rattle.vk_format.specs.declared.rules.ObjectRule.TheVariants.{O4, O5}
use Rattle.vk_format.specs.declared.rules.ObjectFault.{ObjectFault}

-- A field of so many bytes and what is wanted after it; or refused at a place by a rule; or a value, nothing being wanted.
pub data Format (A : Type 0) : Type 0 where
  Field : ℕ → (List ℕ → Format A) → Format A
  Refused : ℕ → ObjectRule → Format A
  Whole : A → Format A

abbrev pub fault : ℕ → ObjectRule → ObjectFault
fault at rule = record { at = at; rule = rule }

-- What the bytes are that stand from this place on to the end: a value, or the first fault. O4 comes where they end inside a
-- field, O5 where some are left.
unfoldable pub judge : {A : Type 0} → Format A → ℕ → List ℕ → Result A ObjectFault
judge (Field width next) at bytes =
    if nat_lt (length bytes) width then Err (fault (at + length bytes) O4)
    else judge (next (take width bytes)) (at + width) (drop width bytes)
judge (Refused place rule) at bytes = Err (fault place rule)
judge (Whole a) at [] = Ok a
judge (Whole a) at (b ∷ bs) = Err (fault at O5)

-- ---- bytes that come in pieces

-- What is wanted after some bytes, the place of the next field, and the bytes of that field that have come.
pub record Left (A : Type 0) : Type 0 where
  pub format : Format A
  pub at : ℕ
  pub pending : List ℕ

abbrev pub left : {A : Type 0} → Format A → ℕ → List ℕ → Left A
left format at pending = record { format = format; at = at; pending = pending }

-- Each field that is whole is taken.
unfoldable pub advance : {A : Type 0} → Format A → ℕ → List ℕ → Left A
advance (Field width next) at bytes =
    if nat_lt (length bytes) width then left (Field width next) at bytes
    else advance (next (take width bytes)) (at + width) (drop width bytes)
advance (Refused place rule) at bytes = left (Refused place rule) at bytes
advance (Whole a) at bytes = left (Whole a) at bytes

-- what the bytes so far come to, if they end here
unfoldable pub ended : {A : Type 0} → Left A → Result A ObjectFault
ended l = judge l.format l.at l.pending

-- what more bytes make of it
unfoldable pub more : {A : Type 0} → Left A → List ℕ → Left A
more l bytes = advance l.format l.at (l.pending ++ bytes)

-- the fault that is told before the end: a field that is whole was refused, or bytes are left
unfoldable pub told : {A : Type 0} → Left A → Option ObjectFault
told l = told_of l.format l.at l.pending
  where
    told_of : {A : Type 0} → Format A → ℕ → List ℕ → Option ObjectFault
    told_of (Field width next) at pending = None
    told_of (Refused place rule) at pending = Some (fault place rule)
    told_of (Whole a) at [] = None
    told_of (Whole a) at (b ∷ bs) = Some (fault at O5)
