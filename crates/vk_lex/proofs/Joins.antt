-- Joining lines, character by character.
use Rattle.std.proofs.Common.{◌≡◌, ℕ, suc, ◌+◌, ◌<◌, ◌≤◌, ◌==◌, Bool, true, false, ◌&&◌, List, [], ◌∷◌, ◌++◌, drop, length, refl, sym, ap, subst, ◌∙◌, append_assoc, arith, if◌then◌else◌}
use Rattle.std.proofs.lemmas.List.{append-nil, length-drop}
use Rattle.std.proofs.lemmas.Bool.{false≢true, eqb-true}
use Rattle.vk_lex.specs.Characters.{Char, numbered, joined, join_len, characters, codes_of, lines_of, text_of, newlines, last_line}

-- the codes and lines so far, the line reached, and the bytes left
pub record Joining (bytes codes lines : List ℕ) (last : ℕ) (rest : List ℕ) : Type 0 where
  pub codes_are : codes ++ codes_of (joined (numbered last rest)) ≡ text_of bytes
  pub lines_are : lines ++ lines_of (joined (numbered last rest)) ≡ lines_of (characters bytes)
  pub last_is : newlines rest + last ≡ last_line bytes
  pub small : last + length rest ≤ length bytes + 1

pub joining_start : (bytes : List ℕ) → Joining bytes [] [] 1 bytes
joining_start bytes = record { codes_are = refl; lines_are = refl; last_is = refl; small = omega arith }

pub joining_end : (bytes codes lines : List ℕ) (last : ℕ) → Joining bytes codes lines last [] → (codes ≡ text_of bytes) × (lines ≡ lines_of (characters bytes)) × (last ≡ last_line bytes)
joining_end bytes codes lines last j = (sym (append-nil codes) ∙ j.codes_are, sym (append-nil lines) ∙ j.lines_are, omega (arith, j.last_is))

-- ---- tests

both : (p q : Bool) → (p && q) ≡ true → (p ≡ true) × (q ≡ true)
both true q e = (refl, e)
both false q e = absurd (false≢true e)

and_false : (b : Bool) → (b && false) ≡ false
and_false true = refl
and_false false = refl

abbrev two : Bool → ℕ
two p = if p then 2 else 0

abbrev two_three : Bool → Bool → ℕ
two_three p q = if p then 2 else if q then 3 else 0

not_two : (p : Bool) → two p ≡ 0 → p ≡ false
not_two true e = absurd (omega (arith, e))
not_two false e = refl

not_two_three : (p q : Bool) → two_three p q ≡ 0 → (p ≡ false) × (q ≡ false)
not_two_three true q e = absurd (omega (arith, e))
not_two_three false true e = absurd (omega (arith, e))
not_two_three false false e = (refl, refl)

-- ---- a join of two bytes, one of three, and none

abbrev Left : ℕ → List ℕ → List ℕ → Type 0
Left line all rest = (joined (numbered line all) ≡ joined (numbered (line + 1) rest)) × (newlines all ≡ suc (newlines rest))

two_left : (line b c : ℕ) (bs : List ℕ) → ((b == 92) && (c == 10)) ≡ true → Left line (b ∷ c ∷ bs) bs
two_left line b c bs e =
    let parts = both (b == 92) (c == 10) e in
    subst (λ (x : ℕ). Left line (x ∷ c ∷ bs) bs) (sym (eqb-true b 92 parts.0)) (subst (λ (y : ℕ). Left line (92 ∷ y ∷ bs) bs) (sym (eqb-true c 10 parts.1)) (refl, refl))

three_left : (line b c d : ℕ) (bs : List ℕ) → ((b == 92) && ((c == 13) && (d == 10))) ≡ true → Left line (b ∷ c ∷ d ∷ bs) bs
three_left line b c d bs e =
    let parts = both (b == 92) ((c == 13) && (d == 10)) e in
    let more = both (c == 13) (d == 10) parts.1 in
    subst (λ (x : ℕ). Left line (x ∷ c ∷ d ∷ bs) bs) (sym (eqb-true b 92 parts.0))
    (subst (λ (y : ℕ). Left line (92 ∷ y ∷ d ∷ bs) bs) (sym (eqb-true c 13 more.0)) (subst (λ (z : ℕ). Left line (92 ∷ 13 ∷ z ∷ bs) bs) (sym (eqb-true d 10 more.1)) (refl, refl)))

left : (line : ℕ) (all : List ℕ) → 0 < join_len all → Left line all (drop (join_len all) all)
left line [] some = absurd (omega arith)
left line (b ∷ []) some = absurd (omega arith)
left line (b ∷ c ∷ []) some = by ((b == 92) && (c == 10)) refl some
  where
    by : (p : Bool) → ((b == 92) && (c == 10)) ≡ p → 0 < (if p then 2 else 0) → Left line (b ∷ c ∷ []) (drop (if p then 2 else 0) (b ∷ c ∷ []))
    by true e some = two_left line b c [] e
    by false e some = absurd (omega arith)
left line (b ∷ c ∷ d ∷ ds) some = by ((b == 92) && (c == 10)) ((b == 92) && ((c == 13) && (d == 10))) refl refl some
  where
    by : (p q : Bool) → ((b == 92) && (c == 10)) ≡ p → ((b == 92) && ((c == 13) && (d == 10))) ≡ q → 0 < (if p then 2 else if q then 3 else 0)
        → Left line (b ∷ c ∷ d ∷ ds) (drop (if p then 2 else if q then 3 else 0) (b ∷ c ∷ d ∷ ds))
    by true q e f some = two_left line b c (d ∷ ds) e
    by false true e f some = three_left line b c d ds f
    by false false e f some = absurd (omega arith)

abbrev next : ℕ → ℕ → ℕ
next line b = if b == 10 then line + 1 else line

abbrev Kept : ℕ → ℕ → List ℕ → Type 0
Kept line b bs = joined (numbered line (b ∷ bs)) ≡ record { code = b; line = line } ∷ joined (numbered (next line b) bs)

kept : (line b : ℕ) (bs : List ℕ) → join_len (b ∷ bs) ≡ 0 → Kept line b bs
kept line b [] e = rw (and_false (b == 92)) refl
kept line b (c ∷ []) e = rw (not_two _ e, and_false (c == 13), and_false (b == 92)) refl
kept line b (c ∷ d ∷ ds) e = let tests = not_two_three _ _ e in rw (tests.0, tests.1) refl

-- ---- turns of the loop

pub joining_join : (bytes codes lines : List ℕ) (last : ℕ) (rest : List ℕ) → 0 < join_len rest → join_len rest ≤ length rest → Joining bytes codes lines last rest → Joining bytes codes lines (last + 1) (drop (join_len rest) rest)
joining_join bytes codes lines last rest some within j =
    let l = left last rest some in
    let shorter : length (drop (join_len rest) rest) + join_len rest ≡ length rest = omega (arith, length-drop (join_len rest) rest) in
    record {
      codes_are = ap (λ (cs : List Char). codes ++ codes_of cs) (sym l.0) ∙ j.codes_are;
      lines_are = ap (λ (cs : List Char). lines ++ lines_of cs) (sym l.0) ∙ j.lines_are;
      last_is = omega (arith, j.last_is, l.1);
      small = omega (arith, j.small, shorter);
    }

turned : (p : Bool) (n last total : ℕ) → (if p then suc n else n) + last ≡ total → n + (if p then last + 1 else last) ≡ total
turned true n last total e = omega (arith, e)
turned false n last total e = e

bounded : (p : Bool) (last n total : ℕ) → last + suc n ≤ total → (if p then last + 1 else last) + n ≤ total
bounded true last n total e = omega (arith, e)
bounded false last n total e = omega (arith, e)

pub joining_char : (bytes codes lines : List ℕ) (last b : ℕ) (more : List ℕ) → join_len (b ∷ more) ≡ 0 → Joining bytes codes lines last (b ∷ more)
    → Joining bytes (codes ++ b ∷ []) (lines ++ last ∷ []) (next last b) more
joining_char bytes codes lines last b more none j = record {
  codes_are = append_assoc codes (b ∷ []) (codes_of (joined (numbered (next last b) more))) ∙ ap (λ (cs : List Char). codes ++ codes_of cs) (sym (kept last b more none)) ∙ j.codes_are;
  lines_are = append_assoc lines (last ∷ []) (lines_of (joined (numbered (next last b) more))) ∙ ap (λ (cs : List Char). lines ++ lines_of cs) (sym (kept last b more none)) ∙ j.lines_are;
  last_is = turned (b == 10) (newlines more) last (last_line bytes) j.last_is;
  small = bounded (b == 10) last (length more) (length bytes + 1) j.small;
}
