-- A table of fields: how values are written, how they are read from a place on, and which values have bytes.
use Rattle.std.specs.Prelude.{◌≡◌, ◌<◌, ◌^◌, ℕ, zero, suc, ◌+◌, ◌==◌, Bool, true, false, if◌then◌else◌, List, [], ◌∷◌, ◌++◌, length, Option, Some, None, IsSomeAnd}
use Rattle.std.specs.List.{AllByRecursion, flat_map}
use Rattle.byteorder.specs.Endian.{little_bytes, little_number}
use Rattle.vk_format.specs.declared.rules.ObjectRule.{ObjectRule}
use Rattle.vk_format.specs.declared.rules.ObjectFault.{ObjectFault}
use Rattle.vk_format.specs.Format.{Format, Field, Refused, Whole}

-- `read` is told the place where the value begins, and what is wanted behind it, by the value and the place where it ends.
pub record Codec (R A : Type 0) : Type 1 where
  pub write : A → List ℕ
  pub read : ℕ → (A → ℕ → Format R) → Format R
  pub fits : A → Type 0

-- ---- fields

-- a number of so many bytes, the lowest first
abbrev pub number : {R : Type 0} → ℕ → Codec R ℕ
number width = record {
  write = λ n. little_bytes width n;
  read = λ at next. Field width (λ bytes. next (little_number width bytes) (at + width));
  fits = λ n. n < 256 ^ width;
}

-- a field, and none where there is no byte
abbrev pub some_bytes : {R : Type 0} → ℕ → (List ℕ → Format R) → Format R
some_bytes zero next = next []
some_bytes (suc n) next = Field (suc n) next

-- so many bytes
abbrev pub block : {R : Type 0} → ℕ → Codec R (List ℕ)
block width = record {
  write = λ bytes. bytes;
  read = λ at next. some_bytes width (λ bytes. next bytes (at + width));
  fits = λ bytes. (length bytes ≡ width) × AllByRecursion (λ b. b < 256) bytes;
}

-- ---- joining

-- one after the other; the second goes by what the first is
infixr 4 ◌▸◌
abbrev pub ◌▸◌ : {R A B : Type 0} → Codec R A → (A → Codec R B) → Codec R (A × B)
c ▸ d = record {
  write = λ x. c.write x.0 ++ (d x.0).write x.1;
  read = λ at next. c.read at (λ a end. (d a).read end (λ b. next (a, b)));
  fits = λ x. c.fits x.0 × (d x.0).fits x.1;
}

-- A field of a record: what of the record it is, and the fields after it, which go by it. The last of them is `given` the record.
abbrev pub field : {R A T : Type 0} → (T → A) → Codec R A → (A → Codec R T) → Codec R T
field get c rest = record {
  write = λ t. c.write (get t) ++ (rest (get t)).write t;
  read = λ at next. c.read at (λ a end. (rest a).read end next);
  fits = λ t. c.fits (get t) × (rest (get t)).fits t;
}

abbrev pub wanted : {R B : Type 0} → ℕ → ObjectRule → Option B → (B → Format R) → Format R
wanted at rule None next = Refused at rule
wanted at rule (Some b) next = next b

-- A value that stands for another one, or for none: then the rule is broken where it begins, once it is whole.
abbrev pub meaning : {R A B : Type 0} → ObjectRule → (A → Option B) → (B → A) → Codec R A → Codec R B
meaning rule to from c = record {
  write = λ b. c.write (from b);
  read = λ at next. c.read at (λ a end. wanted at rule (to a) (λ b. next b end));
  fits = λ b. c.fits (from b) × (to (from b) ≡ Some b);
}

abbrev pub passing : {A : Type 0} → (A → Bool) → A → Option A
passing test a = if test a then Some a else None

-- the rule is broken where the value begins, once it is whole, if it does not pass the test
abbrev pub judged : {R A : Type 0} → ObjectRule → (A → Bool) → Codec R A → Codec R A
judged rule test c = meaning rule (passing test) (λ a. a) c

-- the same fields seen as another value
abbrev pub seen : {R A B : Type 0} → (A → B) → (B → A) → Codec R A → Codec R B
seen to from c = record {
  write = λ b. c.write (from b);
  read = λ at next. c.read at (λ a end. next (to a) end);
  fits = λ b. c.fits (from b) × (to (from b) ≡ b);
}

-- the same fields, where other values have bytes too
abbrev pub written_by : {R A : Type 0} → (A → List ℕ) → Codec R A → Codec R A
written_by bytes c = record {
  write = bytes;
  read = λ at next. c.read at next;
  fits = λ a. c.fits a × (bytes a ≡ c.write a);
}

-- ---- lists

-- the items that follow others; each goes by those before it
abbrev pub write_after : {R A : Type 0} → (List A → Codec R A) → List A → List A → List ℕ
write_after c before [] = []
write_after c before (x ∷ xs) = (c before).write x ++ write_after c (before ++ x ∷ []) xs

abbrev pub read_after : {R A : Type 0} → (List A → Codec R A) → ℕ → List A → ℕ → (List A → ℕ → Format R) → Format R
read_after c zero before at next = next before at
read_after c (suc n) before at next = (c before).read at (λ x end. read_after c n (before ++ x ∷ []) end next)

abbrev pub FitAfter : {R A : Type 0} → (List A → Codec R A) → List A → List A → Type 0
FitAfter c before [] = Unit {0}
FitAfter c before (x ∷ xs) = (c before).fits x × FitAfter c (before ++ x ∷ []) xs

-- so many items; each goes by those before it
abbrev pub items : {R A : Type 0} → ℕ → (List A → Codec R A) → Codec R (List A)
items n c = record {
  write = λ xs. write_after c [] xs;
  read = λ at next. read_after c n [] at next;
  fits = λ xs. (length xs ≡ n) × FitAfter c [] xs;
}

-- a count, and then so many items
abbrev pub many : {R A : Type 0} → Codec R ℕ → (ℕ → List A → Codec R A) → Codec R (List A)
many count c = seen (λ x. x.1) (λ xs. (length xs, xs)) (count ▸ λ n. items n (c n))

-- so many items alike
abbrev pub repeated : {R A : Type 0} → ℕ → Codec R A → Codec R (List A)
repeated n c = written_by (λ xs. flat_map c.write xs) (items n (λ before. c))

-- a count, and then so many items alike
abbrev pub list : {R A : Type 0} → Codec R ℕ → Codec R A → Codec R (List A)
list count c = seen (λ x. x.1) (λ xs. (length xs, xs)) (count ▸ λ n. repeated n c)

-- a text: its length in two bytes and its bytes, together one field
abbrev pub text : {R : Type 0} → Codec R (List ℕ)
text = seen (λ x. x.1) (λ bytes. (length bytes, bytes)) (number 2 ▸ λ n. block n)

-- ---- what is known without bytes, what is there or not, what has one spelling

-- known from what stands before
abbrev pub given : {R A : Type 0} → A → Codec R A
given a = record {
  write = λ x. [];
  read = λ at next. next a at;
  fits = λ x. x ≡ a;
}

abbrev pub write_some : {R A : Type 0} → Codec R A → Option A → List ℕ
write_some c None = []
write_some c (Some a) = c.write a

-- there or not, as something before it says
abbrev pub only_if : {R A : Type 0} → Bool → Codec R A → Codec R (Option A)
only_if false c = given None
only_if true c = record {
  write = λ o. write_some c o;
  read = λ at next. c.read at (λ a end. next (Some a) end);
  fits = λ o. IsSomeAnd o c.fits;
}

abbrev pub mismatch_from : ℕ → List ℕ → List ℕ → Option ℕ
mismatch_from i [] bytes = None
mismatch_from i (x ∷ xs) [] = Some i
mismatch_from i (x ∷ xs) (b ∷ bs) = if x == b then mismatch_from (i + 1) xs bs else Some i

abbrev pub spelled : {R : Type 0} → ℕ → ObjectRule → Option ℕ → Format R → Format R
spelled at rule None next = next
spelled at rule (Some i) next = Refused (at + i) rule

-- these bytes, together one field; else the rule is broken at the byte that differs
abbrev pub exactly : {R : Type 0} → ObjectRule → List ℕ → Codec R (Unit {0})
exactly rule wanted_bytes = record {
  write = λ x. wanted_bytes;
  read = λ at next. Field (length wanted_bytes) (λ bytes. spelled at rule (mismatch_from 0 wanted_bytes bytes) (next tt (at + length wanted_bytes)));
  fits = λ x. Unit {0};
}

-- this number of so many bytes, else the rule is broken
abbrev pub exactly_number : {R : Type 0} → ObjectRule → ℕ → ℕ → Codec R (Unit {0})
exactly_number rule width n = meaning rule (λ k. if k == n then Some tt else None) (λ u. n) (number width)

-- one after the other, where the first tells nothing
infixr 4 ◌▹◌
abbrev pub ◌▹◌ : {R B : Type 0} → Codec R (Unit {0}) → Codec R B → Codec R B
c ▹ d = seen (λ x. x.1) (λ b. (tt, b)) (c ▸ λ x. d)

-- ---- the whole

abbrev pub last : {R : Type 0} → Option ObjectFault → R → Format R
last None r = Whole r
last (Some e) r = Refused e.at e.rule

-- a table of fields, and what is judged once the last field is complete, at this place
abbrev pub whole : {R : Type 0} → (R → ℕ → Option ObjectFault) → Codec R R → Format R
whole faults c = c.read 0 (λ r end. last (faults r end) r)

-- the value's fields are in their ranges, and no condition over the tables is broken
abbrev pub Sound : {R : Type 0} → (R → ℕ → Option ObjectFault) → Codec R R → R → Type 0
Sound faults c r = c.fits r × (faults r (length (c.write r)) ≡ None)
