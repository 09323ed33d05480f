-- What is read was written, and what is written is read: for each way of joining fields.
use Rattle.std.proofs.Common.{flat_map, ◌≡◌, ℕ, zero, suc, ◌+◌, ◌≤◌, Bool, true, false, cond, ltb, eqb, List, [], ◌∷◌, ◌++◌, length, take, drop, map, Option, Some, None, Ok, Err, refl, sym, ap, ◌∙◌, subst, arith, append_assoc, append-nil}
use Rattle.std.proofs.lemmas.Bool.{ltb-false, le-ltb, eq-eqb, eqb-true}
use Rattle.std.proofs.lemmas.List.{length-map, take_at, drop_at, take-append-drop, length-append, length-take}
use Rattle.byteorder.specs.Endian.{little_bytes, little_number}
use Rattle.vk_format.specs.declared.rules.ObjectRule.{ObjectRule}
use Rattle.vk_format.specs.declared.rules.ObjectRule.TheVariants.{O4}
use Rattle.vk_format.specs.declared.rules.ObjectFault.{ObjectFault}
use Rattle.vk_format.specs.Format.{Format, Field, fault, judge}
use Rattle.vk_format.specs.Codec.{Codec, number, some_bytes, block, ◌▸◌, field, wanted, meaning, passing, judged, seen, written_by, write_after, read_after, FitAfter, items, many, repeated, list, text, given, only_if, mismatch_from, spelled, exactly, ◌▹◌, last, whole, Sound}
use Rattle.vk_format.specs.Bytes.{IsBytes}
use Rattle.vk_format.proofs.Bytes.{IsBytes-drop, IsBytes-take, all_bytes, bytes_again, number_fits, number_again, length-little_bytes}

-- what was read is a value's bytes, and then what is wanted behind it was read
pub record Took {R A : Type 0} (c : Codec R A) (at : ℕ) (bytes : List ℕ) (next : A → ℕ → Format R) (r : R) : Type 0 where
  pub value : A
  pub rest : List ℕ
  pub value_fits : c.fits value
  pub parts : bytes ≡ c.write value ++ rest
  pub rest_fits : IsBytes rest
  pub onward : judge (next value (at + length (c.write value))) (at + length (c.write value)) rest ≡ Ok r

pub record IsCodec {R A : Type 0} (c : Codec R A) : Type 0 where
  pub again : (a : A) → c.fits a → (at : ℕ) (rest : List ℕ) (next : A → ℕ → Format R)
      → judge (c.read at next) at (c.write a ++ rest) ≡ judge (next a (at + length (c.write a))) (at + length (c.write a)) rest
  pub takes : (at : ℕ) (bytes : List ℕ) (next : A → ℕ → Format R) (r : R) → IsBytes bytes
      → judge (c.read at next) at bytes ≡ Ok r → Took c at bytes next r

-- ---- fields

judge_field : {R : Type 0} (width : ℕ) (next : List ℕ → Format R) (at : ℕ) (front rest : List ℕ) → length front ≡ width
    → judge (Field width next) at (front ++ rest) ≡ judge (next front) (at + width) rest
unfolding judge
judge_field width next at front rest len =
    let long : ltb (length (front ++ rest)) width ≡ false = le-ltb _ _ (omega (arith, len, length-append front rest)) in
    rw (long, take_at front rest width len, drop_at front rest width len) refl

-- a field that was read to an end was there
record Field_took {R : Type 0} (width : ℕ) (next : List ℕ → Format R) (at : ℕ) (bytes : List ℕ) (r : R) : Type 0 where
  long : width ≤ length bytes
  onward : judge (next (take width bytes)) (at + width) (drop width bytes) ≡ Ok r

field_took_by : {R : Type 0} (width : ℕ) (next : List ℕ → Format R) (at : ℕ) (bytes : List ℕ) (r : R) (b : Bool) → ltb (length bytes) width ≡ b
    → cond b (Err (fault (at + length bytes) O4)) (judge (next (take width bytes)) (at + width) (drop width bytes)) ≡ Ok r
    → Field_took width next at bytes r
field_took_by width next at bytes r true e h = absurd cc
field_took_by width next at bytes r false e h = record { long = ltb-false _ _ e; onward = h }

field_took : {R : Type 0} (width : ℕ) (next : List ℕ → Format R) (at : ℕ) (bytes : List ℕ) (r : R) → judge (Field width next) at bytes ≡ Ok r → Field_took width next at bytes r
unfolding judge
field_took width next at bytes r h = field_took_by width next at bytes r (ltb (length bytes) width) refl h

length_taken : (width : ℕ) (bytes : List ℕ) → width ≤ length bytes → length (take width bytes) ≡ width
length_taken width bytes long = omega (arith, length-take width bytes)

pub number_law : {R : Type 0} (width : ℕ) → IsCodec (number {R = R} width)
number_law {R = R} width = record {
  again = λ n fits at rest next.
      let len = length-little_bytes width n in
      judge_field width (λ bytes. next (little_number width bytes) (at + width)) at (little_bytes width n) rest len
      ∙ rw (number_again width n fits, len) refl;
  takes = λ at bytes next r are h.
      let f = field_took width (λ bs. next (little_number width bs) (at + width)) at bytes r h in
      let front = take width bytes in
      let len = length_taken width bytes f.long in
      let same : little_bytes width (little_number width front) ≡ front = subst (λ w. little_bytes w (little_number w front) ≡ front) len (bytes_again front (IsBytes-take width bytes are)) in
      let written : length (little_bytes width (little_number width front)) ≡ width = length-little_bytes width (little_number width front) in
      record {
        value = little_number width front;
        rest = drop width bytes;
        value_fits = number_fits width front (IsBytes-take width bytes are);
        parts = rw same (sym (take-append-drop width bytes));
        rest_fits = IsBytes-drop width bytes are;
        onward = rw written f.onward;
      };
}

judge_some : {R : Type 0} (width : ℕ) (next : List ℕ → Format R) (at : ℕ) (front rest : List ℕ) → length front ≡ width
    → judge (some_bytes width next) at (front ++ rest) ≡ judge (next front) (at + width) rest
judge_some zero next at [] rest len = let place : at ≡ at + 0 = omega arith in ap (λ p. judge (next []) p rest) place
judge_some zero next at (x ∷ xs) rest len = absurd (omega (arith, len))
judge_some (suc n) next at front rest len = judge_field (suc n) next at front rest len

some_took : {R : Type 0} (width : ℕ) (next : List ℕ → Format R) (at : ℕ) (bytes : List ℕ) (r : R) → judge (some_bytes width next) at bytes ≡ Ok r → Field_took width next at bytes r
some_took zero next at bytes r h =
    let place : at ≡ at + 0 = omega arith in
    record { long = omega arith; onward = subst (λ p. judge (next []) p bytes ≡ Ok r) place h }
some_took (suc n) next at bytes r h = field_took (suc n) next at bytes r h

pub block_law : {R : Type 0} (width : ℕ) → IsCodec (block {R = R} width)
block_law {R = R} width = record {
  again = λ bytes fits at rest next.
      judge_some width (λ bs. next bs (at + width)) at bytes rest fits.0 ∙ rw fits.0 refl;
  takes = λ at bytes next r are h.
      let f = some_took width (λ bs. next bs (at + width)) at bytes r h in
      let len = length_taken width bytes f.long in
      record {
        value = take width bytes;
        rest = drop width bytes;
        value_fits = (len, all_bytes (take width bytes) (IsBytes-take width bytes are));
        parts = sym (take-append-drop width bytes);
        rest_fits = IsBytes-drop width bytes are;
        onward = rw len f.onward;
      };
}

-- ---- joining

pub then_law : {R A B : Type 0} (c : Codec R A) (d : A → Codec R B) → IsCodec c → ((a : A) → IsCodec (d a)) → IsCodec (c ▸ d)
then_law c d first second = record {
  again = λ x fits at rest next.
      let a = c.write x.0 in
      let b = (d x.0).write x.1 in
      let places : at + length a + length b ≡ at + length (a ++ b) = omega (arith, length-append a b) in
      ap (judge (c.read at (λ a end. (d a).read end (λ b. next (a, b)))) at) (append_assoc a b rest)
      ∙ first.again x.0 fits.0 at (b ++ rest) (λ a end. (d a).read end (λ b. next (a, b)))
      ∙ (second x.0).again x.1 fits.1 (at + length a) rest (λ b. next (x.0, b))
      ∙ ap (λ p. judge (next x p) p rest) places;
  takes = λ at bytes next r are h.
      let t = first.takes at bytes (λ a end. (d a).read end (λ b. next (a, b))) r are h in
      let a = c.write t.value in
      let u = (second t.value).takes (at + length a) t.rest (λ b. next (t.value, b)) r t.rest_fits t.onward in
      let b = (d t.value).write u.value in
      let places : at + length a + length b ≡ at + length (a ++ b) = omega (arith, length-append a b) in
      record {
        value = (t.value, u.value);
        rest = u.rest;
        value_fits = (t.value_fits, u.value_fits);
        parts = t.parts ∙ ap (λ y. a ++ y) u.parts ∙ sym (append_assoc a b u.rest);
        rest_fits = u.rest_fits;
        onward = subst (λ p. judge (next (t.value, u.value) p) p u.rest ≡ Ok r) places u.onward;
      };
}

pub field_law : {R A T : Type 0} (get : T → A) (c : Codec R A) (rest : A → Codec R T) → IsCodec c → ((a : A) → IsCodec (rest a))
    → ((a : A) (t : T) → (rest a).fits t → get t ≡ a) → IsCodec (field get c rest)
field_law get c rest first second back = record {
  again = λ t fits at behind next.
      let a = c.write (get t) in
      let b = (rest (get t)).write t in
      let places : at + length a + length b ≡ at + length (a ++ b) = omega (arith, length-append a b) in
      ap (judge (c.read at (λ x end. (rest x).read end next)) at) (append_assoc a b behind)
      ∙ first.again (get t) fits.0 at (b ++ behind) (λ x end. (rest x).read end next)
      ∙ (second (get t)).again t fits.1 (at + length a) behind next
      ∙ ap (λ p. judge (next t p) p behind) places;
  takes = λ at bytes next r are h.
      let t = first.takes at bytes (λ x end. (rest x).read end next) r are h in
      let u = (second t.value).takes (at + length (c.write t.value)) t.rest next r t.rest_fits t.onward in
      let same : get u.value ≡ t.value = back t.value u.value u.value_fits in
      let a = c.write t.value in
      let b = (rest t.value).write u.value in
      let places : at + length a + length b ≡ at + length (a ++ b) = omega (arith, length-append a b) in
      record {
        value = u.value;
        rest = u.rest;
        value_fits = rw same (t.value_fits, u.value_fits);
        parts = rw same (t.parts ∙ ap (λ y. a ++ y) u.parts ∙ sym (append_assoc a b u.rest));
        rest_fits = u.rest_fits;
        onward = rw same (subst (λ p. judge (next u.value p) p u.rest ≡ Ok r) places u.onward);
      };
}

-- a value that is wanted was there
wanted_some : {R B : Type 0} (place : ℕ) (rule : ObjectRule) (o : Option B) (next : B → Format R) (at : ℕ) (bytes : List ℕ) (r : R)
    → judge (wanted place rule o next) at bytes ≡ Ok r → (b : B) × (o ≡ Some b) × (judge (next b) at bytes ≡ Ok r)
unfolding judge
wanted_some place rule None next at bytes r h = absurd cc
wanted_some place rule (Some b) next at bytes r h = (b, refl, h)

pub meaning_law : {R A B : Type 0} (rule : ObjectRule) (to : A → Option B) (from : B → A) (c : Codec R A) → IsCodec c
    → ((a : A) (b : B) → c.fits a → to a ≡ Some b → from b ≡ a) → IsCodec (meaning rule to from c)
meaning_law rule to from c law back = record {
  again = λ b fits at rest next.
      law.again (from b) fits.0 at rest (λ a end. wanted at rule (to a) (λ b. next b end))
      ∙ ap (λ o. judge (wanted at rule o (λ x. next x (at + length (c.write (from b))))) (at + length (c.write (from b))) rest) fits.1;
  takes = λ at bytes next r are h.
      let t = law.takes at bytes (λ a end. wanted at rule (to a) (λ b. next b end)) r are h in
      let w = wanted_some at rule (to t.value) (λ b. next b (at + length (c.write t.value))) (at + length (c.write t.value)) t.rest r t.onward in
      let same : from w.0 ≡ t.value = back t.value w.0 t.value_fits w.1 in
      record {
        value = w.0;
        rest = t.rest;
        value_fits = (rw same t.value_fits, rw same w.1);
        parts = rw same t.parts;
        rest_fits = t.rest_fits;
        onward = rw same w.2;
      };
}

passing_same : {A : Type 0} (test : A → Bool) (a b : A) (t : Bool) → cond t (Some a) None ≡ Some b → b ≡ a
passing_same test a b true e = cc
passing_same test a b false e = absurd cc

pub judged_law : {R A : Type 0} (rule : ObjectRule) (test : A → Bool) (c : Codec R A) → IsCodec c → IsCodec (judged rule test c)
judged_law rule test c law = meaning_law rule (passing test) (λ a. a) c law (λ a b fits e. passing_same test a b (test a) e)

pub seen_law : {R A B : Type 0} (to : A → B) (from : B → A) (c : Codec R A) → IsCodec c
    → ((a : A) → c.fits a → from (to a) ≡ a) → IsCodec (seen to from c)
seen_law to from c law back = record {
  again = λ b fits at rest next.
      law.again (from b) fits.0 at rest (λ a end. next (to a) end)
      ∙ ap (λ x. judge (next x (at + length (c.write (from b)))) (at + length (c.write (from b))) rest) fits.1;
  takes = λ at bytes next r are h.
      let t = law.takes at bytes (λ a end. next (to a) end) r are h in
      let same : from (to t.value) ≡ t.value = back t.value t.value_fits in
      record {
        value = to t.value;
        rest = t.rest;
        value_fits = (rw same t.value_fits, rw same refl);
        parts = rw same t.parts;
        rest_fits = t.rest_fits;
        onward = rw same t.onward;
      };
}

pub written_by_law : {R A : Type 0} (bytes : A → List ℕ) (c : Codec R A) → IsCodec c → ((a : A) → c.fits a → bytes a ≡ c.write a) → IsCodec (written_by bytes c)
written_by_law bytes c law agree = record {
  again = λ a fits at rest next. rw fits.1 (law.again a fits.0 at rest next);
  takes = λ at bs next r are h.
      let t = law.takes at bs next r are h in
      let same : bytes t.value ≡ c.write t.value = agree t.value t.value_fits in
      record {
        value = t.value;
        rest = t.rest;
        value_fits = (t.value_fits, same);
        parts = rw same t.parts;
        rest_fits = t.rest_fits;
        onward = rw same t.onward;
      };
}

-- ---- lists

read_again : {R A : Type 0} (c : List A → Codec R A) → ((before : List A) → IsCodec (c before)) → (xs before : List A) → FitAfter c before xs
    → (at : ℕ) (rest : List ℕ) (next : List A → ℕ → Format R)
    → judge (read_after c (length xs) before at next) at (write_after c before xs ++ rest)
    ≡ judge (next (before ++ xs) (at + length (write_after c before xs))) (at + length (write_after c before xs)) rest
read_again c law [] before fits at rest next =
    let place : at ≡ at + 0 = omega arith in
    rw append-nil (ap (λ p. judge (next before p) p rest) place)
read_again {R = R} {A = A} c law (x ∷ xs) before fits at rest next =
    let a = (c before).write x in
    let b = write_after c (before ++ x ∷ []) xs in
    let places : at + length a + length b ≡ at + length (a ++ b) = omega (arith, length-append a b) in
    let onward : A → ℕ → Format R = λ y end. read_after c (length xs) (before ++ y ∷ []) end next in
    ap (judge ((c before).read at onward) at) (append_assoc a b rest)
    ∙ (law before).again x fits.0 at (b ++ rest) onward
    ∙ read_again c law xs (before ++ x ∷ []) fits.1 (at + length a) rest next
    ∙ ap (λ ys. judge (next ys (at + length a + length b)) (at + length a + length b) rest) (append_assoc before (x ∷ []) xs)
    ∙ ap (λ p. judge (next (before ++ x ∷ xs) p) p rest) places

-- items that were read
pub record Took_items {R A : Type 0} (c : List A → Codec R A) (n : ℕ) (before : List A) (at : ℕ) (bytes : List ℕ) (next : List A → ℕ → Format R) (r : R) : Type 0 where
  pub value : List A
  pub rest : List ℕ
  pub count : length value ≡ n
  pub value_fits : FitAfter c before value
  pub parts : bytes ≡ write_after c before value ++ rest
  pub rest_fits : IsBytes rest
  pub onward : judge (next (before ++ value) (at + length (write_after c before value))) (at + length (write_after c before value)) rest ≡ Ok r

read_takes : {R A : Type 0} (c : List A → Codec R A) → ((before : List A) → IsCodec (c before)) → (n : ℕ) (before : List A)
    (at : ℕ) (bytes : List ℕ) (next : List A → ℕ → Format R) (r : R) → IsBytes bytes
    → judge (read_after c n before at next) at bytes ≡ Ok r → Took_items c n before at bytes next r
read_takes {A = A} c law zero before at bytes next r are h = record {
  value = [];
  rest = bytes;
  count = refl;
  value_fits = tt;
  parts = refl;
  rest_fits = are;
  onward = rw append-nil (subst (λ p. judge (next before p) p bytes ≡ Ok r) (omega arith) h);
}
read_takes c law (suc n) before at bytes next r are h =
    let t = (law before).takes at bytes (λ y end. read_after c n (before ++ y ∷ []) end next) r are h in
    let a = (c before).write t.value in
    let u = read_takes c law n (before ++ t.value ∷ []) (at + length a) t.rest next r t.rest_fits t.onward in
    let b = write_after c (before ++ t.value ∷ []) u.value in
    let places : at + length a + length b ≡ at + length (a ++ b) = omega (arith, length-append a b) in
    record {
      value = t.value ∷ u.value;
      rest = u.rest;
      count = ap suc u.count;
      value_fits = (t.value_fits, u.value_fits);
      parts = t.parts ∙ ap (λ y. a ++ y) u.parts ∙ sym (append_assoc a b u.rest);
      rest_fits = u.rest_fits;
      onward = subst (λ ys. judge (next ys (at + length (a ++ b))) (at + length (a ++ b)) u.rest ≡ Ok r) (append_assoc before (t.value ∷ []) u.value)
          (subst (λ p. judge (next ((before ++ t.value ∷ []) ++ u.value) p) p u.rest ≡ Ok r) places u.onward);
    }

pub items_law : {R A : Type 0} (n : ℕ) (c : List A → Codec R A) → ((before : List A) → IsCodec (c before)) → IsCodec (items n c)
items_law n c law = record {
  again = λ xs fits at rest next.
      subst (λ k. judge (read_after c k [] at next) at (write_after c [] xs ++ rest)
      ≡ judge (next xs (at + length (write_after c [] xs))) (at + length (write_after c [] xs)) rest) fits.0
      (read_again c law xs [] fits.1 at rest next);
  takes = λ at bytes next r are h.
      let t = read_takes c law n [] at bytes next r are h in
      record { value = t.value; rest = t.rest; value_fits = (t.count, t.value_fits); parts = t.parts; rest_fits = t.rest_fits; onward = t.onward };
}

pub many_law : {R A : Type 0} (count : Codec R ℕ) (c : ℕ → List A → Codec R A) → IsCodec count → ((n : ℕ) (before : List A) → IsCodec (c n before)) → IsCodec (many count c)
many_law {A = A} count c first law =
    seen_law (λ (x : ℕ × List A). x.1) (λ xs. (length xs, xs)) (count ▸ λ n. items n (c n)) (then_law count (λ n. items n (c n)) first (λ n. items_law n (c n) (law n)))
    (λ x fits. ap (λ (k : ℕ). (k, x.1)) fits.1.0)

-- items whose bytes don't go by those before them
pub write_all : {R A B : Type 0} (c : List A → Codec R A) (f : B → A) (bytes : B → List ℕ) → ((before : List A) (x : B) → (c before).write (f x) ≡ bytes x)
    → (before : List A) (xs : List B) → write_after c before (map f xs) ≡ flat_map bytes xs
write_all c f bytes same before [] = refl
write_all c f bytes same before (x ∷ xs) = rw (same before x, write_all c f bytes same (before ++ f x ∷ []) xs) refl

pub flat_all : {R A B : Type 0} (c : Codec R A) (f : B → A) (bytes : B → List ℕ) → ((x : B) → c.write (f x) ≡ bytes x) → (xs : List B) → flat_map c.write (map f xs) ≡ flat_map bytes xs
flat_all c f bytes same [] = refl
flat_all c f bytes same (x ∷ xs) = rw (same x, flat_all c f bytes same xs) refl

-- a list of members, by the bytes of each
pub list_written : {R A B : Type 0} (width : ℕ) (c : Codec R A) (f : B → A) (bytes : B → List ℕ) → ((x : B) → c.write (f x) ≡ bytes x)
    → (xs : List B) → (list (number width) c).write (map f xs) ≡ little_bytes width (length xs) ++ flat_map bytes xs
list_written width c f bytes same xs =
    ap (λ n. little_bytes width n ++ flat_map c.write (map f xs)) (length-map xs f) ∙ ap (λ ys. little_bytes width (length xs) ++ ys) (flat_all c f bytes same xs)

-- the same where members go by those before them
pub many_written : {R A B : Type 0} (width : ℕ) (c : ℕ → List A → Codec R A) (f : B → A) (bytes : B → List ℕ) → ((n : ℕ) (before : List A) (x : B) → (c n before).write (f x) ≡ bytes x)
    → (xs : List B) → (many (number width) c).write (map f xs) ≡ little_bytes width (length xs) ++ flat_map bytes xs
many_written width c f bytes same xs =
    ap (λ n. little_bytes width n ++ write_after (c n) [] (map f xs)) (length-map xs f)
    ∙ ap (λ ys. little_bytes width (length xs) ++ ys) (write_all (c (length xs)) f bytes (same (length xs)) [] xs)

flat_written : {R A : Type 0} (c : Codec R A) (before xs : List A) → flat_map c.write xs ≡ write_after (λ b. c) before xs
flat_written c before [] = refl
flat_written c before (x ∷ xs) = ap (λ ys. c.write x ++ ys) (flat_written c (before ++ x ∷ []) xs)

pub repeated_law : {R A : Type 0} (n : ℕ) (c : Codec R A) → IsCodec c → IsCodec (repeated n c)
repeated_law n c law = written_by_law (λ xs. flat_map c.write xs) (items n (λ before. c)) (items_law n (λ before. c) (λ before. law)) (λ xs fits. flat_written c [] xs)

pub list_law : {R A : Type 0} (count : Codec R ℕ) (c : Codec R A) → IsCodec count → IsCodec c → IsCodec (list count c)
list_law {A = A} count c first law =
    seen_law (λ (x : ℕ × List A). x.1) (λ xs. (length xs, xs)) (count ▸ λ n. repeated n c) (then_law count (λ n. repeated n c) first (λ n. repeated_law n c law))
    (λ x fits. ap (λ (k : ℕ). (k, x.1)) fits.1.0.0)

pub text_law : {R : Type 0} → IsCodec (text {R = R})
text_law =
    seen_law (λ (x : ℕ × List ℕ). x.1) (λ bytes. (length bytes, bytes)) (number 2 ▸ λ n. block n) (then_law (number 2) (λ n. block n) (number_law 2) (λ n. block_law n))
    (λ x fits. ap (λ (k : ℕ). (k, x.1)) fits.1.0)

-- ---- without bytes, there or not, one spelling

pub given_law : {R A : Type 0} (a : A) → IsCodec (given {R = R} a)
given_law {R = R} a = record {
  again = λ x fits at rest next.
      let place : at ≡ at + 0 = omega arith in
      rw fits (ap (λ p. judge (next a p) p rest) place);
  takes = λ at bytes next r are h.
      let place : at ≡ at + 0 = omega arith in
      record { value = a; rest = bytes; value_fits = refl; parts = refl; rest_fits = are; onward = subst (λ p. judge (next a p) p bytes ≡ Ok r) place h };
}

there_again : {R A : Type 0} (c : Codec R A) → IsCodec c → (o : Option A) → (only_if true c).fits o → (at : ℕ) (rest : List ℕ) (next : Option A → ℕ → Format R)
    → judge ((only_if true c).read at next) at ((only_if true c).write o ++ rest) ≡ judge (next o (at + length ((only_if true c).write o))) (at + length ((only_if true c).write o)) rest
there_again c law None fits at rest next = absurd fits
there_again c law (Some a) fits at rest next = law.again a fits at rest (λ x end. next (Some x) end)

pub only_if_law : {R A : Type 0} (b : Bool) (c : Codec R A) → IsCodec c → IsCodec (only_if b c)
only_if_law {R = R} {A = A} false c law = given_law {R = R} {A = Option A} None
only_if_law true c law = record {
  again = λ o fits at rest next. there_again c law o fits at rest next;
  takes = λ at bytes next r are h.
      let t = law.takes at bytes (λ x end. next (Some x) end) r are h in
      record { value = Some t.value; rest = t.rest; value_fits = t.value_fits; parts = t.parts; rest_fits = t.rest_fits; onward = t.onward };
}

matches_itself : (i : ℕ) (xs : List ℕ) → mismatch_from i xs xs ≡ None
matches_itself i [] = refl
matches_itself i (x ∷ xs) = rw (eq-eqb x x refl) (matches_itself (i + 1) xs)

matches_by : (i : ℕ) (x : ℕ) (xs : List ℕ) (b : ℕ) (bs : List ℕ) (t : Bool) → eqb x b ≡ t → (mismatch_from (i + 1) xs bs ≡ None → xs ≡ bs)
    → cond t (mismatch_from (i + 1) xs bs) (Some i) ≡ None → x ∷ xs ≡ b ∷ bs
matches_by i x xs b bs true e same h = rw (eqb-true x b e, same h) refl
matches_by i x xs b bs false e same h = absurd cc

matches_only : (i : ℕ) (xs bs : List ℕ) → length bs ≡ length xs → mismatch_from i xs bs ≡ None → xs ≡ bs
matches_only i [] [] len h = refl
matches_only i [] (b ∷ bs) len h = absurd (omega (arith, len))
matches_only i (x ∷ xs) [] len h = absurd cc
matches_only i (x ∷ xs) (b ∷ bs) len h = matches_by i x xs b bs (eqb x b) refl (λ e. matches_only (i + 1) xs bs (omega (arith, len)) e) h

spelled_ok : {R : Type 0} (place : ℕ) (rule : ObjectRule) (o : Option ℕ) (next : Format R) (at : ℕ) (bytes : List ℕ) (r : R)
    → judge (spelled place rule o next) at bytes ≡ Ok r → (o ≡ None) × (judge next at bytes ≡ Ok r)
unfolding judge
spelled_ok place rule None next at bytes r h = (refl, h)
spelled_ok place rule (Some i) next at bytes r h = absurd cc

pub exactly_law : {R : Type 0} (rule : ObjectRule) (wanted_bytes : List ℕ) → IsCodec (exactly {R = R} rule wanted_bytes)
exactly_law rule xs = record {
  again = λ x fits at rest next.
      judge_field (length xs) (λ bytes. spelled at rule (mismatch_from 0 xs bytes) (next tt (at + length xs))) at xs rest refl
      ∙ rw (matches_itself 0 xs) refl;
  takes = λ at bytes next r are h.
      let f = field_took (length xs) (λ bytes. spelled at rule (mismatch_from 0 xs bytes) (next tt (at + length xs))) at bytes r h in
      let s = spelled_ok at rule (mismatch_from 0 xs (take (length xs) bytes)) (next tt (at + length xs)) (at + length xs) (drop (length xs) bytes) r f.onward in
      let same = matches_only 0 xs (take (length xs) bytes) (length_taken (length xs) bytes f.long) s.0 in
      record {
        value = tt;
        rest = drop (length xs) bytes;
        value_fits = tt;
        parts = sym (take-append-drop (length xs) bytes) ∙ ap (λ ys. ys ++ drop (length xs) bytes) (sym same);
        rest_fits = IsBytes-drop (length xs) bytes are;
        onward = s.1;
      };
}

pub skip_law : {R B : Type 0} (c : Codec R (Unit {0})) (d : Codec R B) → IsCodec c → IsCodec d → IsCodec (c ▹ d)
skip_law c d first second = seen_law _ _ (c ▸ λ x. d) (then_law c (λ x. d) first (λ x. second)) (λ x fits. refl)

-- ---- the whole

whole_ok : {R : Type 0} (o : Option ObjectFault) (r : R) (at : ℕ) (bytes : List ℕ) (x : R) → judge (last o r) at bytes ≡ Ok x → (o ≡ None) × (bytes ≡ []) × (r ≡ x)
unfolding judge
whole_ok None r at [] x h = (refl, refl, cc)
whole_ok None r at (b ∷ bs) x h = absurd cc
whole_ok (Some e) r at bytes x h = absurd cc

whole_again : {R : Type 0} (r : R) (at : ℕ) → judge (last None r) at [] ≡ Ok r
unfolding judge
whole_again r at = refl

module _ {R : Type 0} (faults : R → ℕ → Option ObjectFault) (c : Codec R R) (law : IsCodec c) where
  -- what is read is written so, and breaks no rule
  pub whole_takes : (bytes : List ℕ) (r : R) → IsBytes bytes → judge (whole faults c) 0 bytes ≡ Ok r → Sound faults c r × (bytes ≡ c.write r)
  whole_takes bytes r are h =
      let t = law.takes 0 bytes (λ x end. last (faults x end) x) r are h in
      let w = whole_ok (faults t.value (0 + length (c.write t.value))) t.value (0 + length (c.write t.value)) t.rest r t.onward in
      let place : 0 + length (c.write t.value) ≡ length (c.write t.value) = omega arith in
      subst (λ x. Sound faults c x × (bytes ≡ c.write x)) w.2
      ((t.value_fits, ap (faults t.value) (sym place) ∙ w.0), t.parts ∙ ap (λ ys. c.write t.value ++ ys) w.1 ∙ append-nil (c.write t.value))

  -- what breaks no rule is read from what is written
  pub whole_reads : (r : R) → Sound faults c r → judge (whole faults c) 0 (c.write r) ≡ Ok r
  whole_reads r sound =
      let place : 0 + length (c.write r) ≡ length (c.write r) = omega arith in
      let onward = λ (x : R) (end : ℕ). last (faults x end) x in
      ap (judge (c.read 0 onward) 0) (sym (append-nil (c.write r)))
      ∙ law.again r sound.0 0 [] onward
      ∙ ap (λ o. judge (last o r) (0 + length (c.write r)) []) (ap (faults r) place ∙ sound.1)
      ∙ whole_again r (0 + length (c.write r))
