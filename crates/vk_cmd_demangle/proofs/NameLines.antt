-- The first line of a file, and what was read of its lines.
use Rattle.std.proofs.Common.{◌≡◌, ℕ, ◌+◌, ◌-◌, ◌<◌, ◌≤◌, Bool, true, false, cond, List, [], ◌∷◌, ◌++◌, length, get_or, take, drop, Some, None, arith, sym, ap, ap₂, ◌∙◌, refl, subst, zero, suc, append_assoc, eqb, ltb}
use Rattle.std.proofs.Math.ListN.{length-append}
use Rattle.std.proofs.Math.Seq.{get_or-append_seam}
use Rattle.std.specs.List.{slice_split, position_or_len, position, before_first, after_first}
use Rattle.std.specs.Str.Lines.{lines, lines_of_parts, strip_carriage_return}
use Rattle.std.proofs.lemmas.Bool.Decides.{nat_tests}
use Rattle.std.proofs.lemmas.Grind.{flat_map-append}
use Rattle.std.proofs.lemmas.List.{append-nil, get_or_append_left}
use Rattle.std.proofs.lemmas.List.Elements.{All-from_get_or}
use Rattle.std.proofs.lemmas.List.Splits.{slice_split_first, slice_split_none, length-slice_split}
use Rattle.std.proofs.lemmas.List.Sums.{fails_before_first}
use Rattle.vk_names.specs.declared.rules.NameRule.{NameRule}
use Rattle.vk_names.specs.Spelling.{Name}
use Rattle.vk_cmd_demangle.specs.Lines.{AreNames, IsFirstRefused, IsLineRefused, IsNameLine, name_line, name_lines}

abbrev is_newline : ℕ → Bool
is_newline b = eqb b 10

-- ---- one line

found : (b : Bool) (n at : ℕ) → cond b (Some n) None ≡ Some at → (b ≡ true) × (n ≡ at)
found true n at e = (refl, cc)
found false n at e = absurd (cc)

not_found : (b : Bool) (n : ℕ) → cond b (Some n) None ≡ None → b ≡ false
not_found true n e = absurd (cc)
not_found false n e = refl

part_more : (x : List ℕ) (ps : List (List ℕ)) → 0 < length ps → lines_of_parts (x ∷ ps) ≡ strip_carriage_return x ∷ lines_of_parts ps
part_more x [] h = absurd (omega arith)
part_more x (y ∷ ys) h = refl

-- a line that ends with a newline
pub lines_cut : (bs line after : List ℕ) (at : ℕ) → position is_newline bs ≡ Some at → line ≡ strip_carriage_return (take at bs) → after ≡ drop (at + 1) bs →
    lines bs ≡ line ∷ lines after
lines_cut bs line after at e l a =
    let test = found (ltb (position_or_len is_newline bs) (length bs)) (position_or_len is_newline bs) at e in
    let inside : position_or_len is_newline bs < length bs = grind (arith, nat_tests, test.0) in
    ap lines_of_parts (slice_split_first is_newline bs 0 inside)
    ∙ part_more (before_first is_newline bs) (slice_split is_newline (after_first is_newline bs)) (omega (arith, length-slice_split is_newline (after_first is_newline bs)))
    ∙ ap (λ (k : ℕ). strip_carriage_return (take k bs) ∷ lines (drop (k + 1) bs)) test.1
    ∙ ap₂ (λ (x y : List ℕ). x ∷ lines y) (sym l) (sym a)

-- the last line, where it ends with none
one_part : (bs : List ℕ) → 0 < length bs → lines_of_parts (bs ∷ []) ≡ bs ∷ []
one_part bs h = grind (arith, nat_tests)

pub lines_last : (bs : List ℕ) → position is_newline bs ≡ None → 0 < length bs → lines bs ≡ bs ∷ []
lines_last bs e h =
    let test : ltb (position_or_len is_newline bs) (length bs) ≡ false = not_found (ltb (position_or_len is_newline bs) (length bs)) (position_or_len is_newline bs) e in
    let outside : length bs ≤ position_or_len is_newline bs = grind (arith, nat_tests, test) in
    ap lines_of_parts (slice_split_none is_newline bs (All-from_get_or (λ b. is_newline b ≡ false) bs 0 (λ i k. fails_before_first is_newline bs i 0 (omega arith)))) ∙ one_part bs h

-- ---- the names of lines

none_named : (ns : List Name) → AreNames ns [] → [] ≡ name_lines ns
none_named [] h = refl
none_named (n ∷ ns) h = absurd h

names_more : (ns : List Name) (ls : List (List ℕ)) (n : Name) (l : List ℕ) → AreNames ns ls → IsNameLine n l → AreNames (ns ++ (n ∷ [])) (ls ++ (l ∷ []))
names_more [] [] n l h here = (here, tt)
names_more [] (k ∷ ks) n l h here = absurd h
names_more (m ∷ ms) [] n l h here = absurd h
names_more (m ∷ ms) (k ∷ ks) n l h here = (h.0, names_more ms ks n l h.1 here)

-- names of lines and of one more line
record AreNamesAnd (ns : List Name) (ls : List (List ℕ)) (l : List ℕ) : Type 0 where
  pub first : List Name
  pub last : Name
  pub all : ns ≡ first ++ (last ∷ [])
  pub are : AreNames first ls
  pub is : IsNameLine last l

names_cut : (ns : List Name) (ls : List (List ℕ)) (l : List ℕ) → AreNames ns (ls ++ (l ∷ [])) → AreNamesAnd ns ls l
names_cut [] [] l h = absurd h
names_cut (n ∷ []) [] l h = record { first = []; last = n; all = refl; are = tt; is = h.0 }
names_cut (n ∷ m ∷ ms) [] l h = absurd h.1
names_cut [] (k ∷ ks) l h = absurd h
names_cut (n ∷ ns) (k ∷ ks) l h =
    let cut = names_cut ns ks l h.1 in
    record { first = n ∷ cut.first; last = cut.last; all = ap (λ xs. n ∷ xs) cut.all; are = (h.0, cut.are); is = cut.is }

name_at : (ns : List Name) (ls : List (List ℕ)) (j : ℕ) → AreNames ns ls → j < length ls → (n : Name) × IsNameLine n (get_or ls j [])
name_at [] [] j h k = absurd (omega arith)
name_at [] (l ∷ ls) j h k = absurd h
name_at (n ∷ ns) [] j h k = absurd h
name_at (n ∷ ns) (l ∷ ls) zero h k = (n, h.0)
name_at (n ∷ ns) (l ∷ ls) (suc j) h k = name_at ns ls j h.1 (omega arith)

-- ---- the lines that were read

-- of all bytes the rest is left; the lines before it are this many, each is a name, and this is what is printed of them
pub record HaveRead (all rest printed : List ℕ) (number : ℕ) : Type 0 where
  pub before : List (List ℕ)
  pub names : List Name
  pub are : AreNames names before
  pub only : (ns : List Name) → AreNames ns before → printed ≡ name_lines ns
  pub parts : lines all ≡ before ++ lines rest
  pub count : number ≡ length before
  pub room : number + length rest ≤ length all

pub read_start : (all : List ℕ) → HaveRead all all [] 0
read_start all = record { before = []; names = []; are = tt; only = none_named; parts = refl; count = refl; room = omega arith }

pub read_more : (all rest line after printed text new : List ℕ) (number : ℕ) → HaveRead all rest printed number → lines rest ≡ line ∷ lines after →
    length after < length rest → (n : Name) × IsNameLine n line → ((n : Name) → IsNameLine n line → text ≡ name_line n) → new ≡ printed ++ text →
    HaveRead all after new (number + 1)
read_more all rest line after printed text new number read cut shorter named only e = record {
  before = read.before ++ (line ∷ []);
  names = read.names ++ (named.0 ∷ []);
  are = names_more read.names read.before named.0 line read.are named.1;
  only = λ ns are.
      let parts = names_cut ns read.before line are in
      e ∙ ap₂ (λ xs ys. xs ++ ys) (read.only parts.first parts.are) (only parts.last parts.is ∙ sym (append-nil (name_line parts.last)))
      ∙ sym (flat_map-append name_line parts.first (parts.last ∷ [])) ∙ sym (ap name_lines parts.all);
  parts = read.parts ∙ ap (λ ls. read.before ++ ls) cut ∙ sym (append_assoc read.before (line ∷ []) (lines after));
  count = omega (arith, length-append read.before (line ∷ []), read.count);
  room = omega (arith, read.room);
}

read_all : (all rest printed : List ℕ) (number : ℕ) (read : HaveRead all rest printed number) → lines rest ≡ [] → lines all ≡ read.before
read_all all rest printed number read e = read.parts ∙ ap (λ ls. read.before ++ ls) e ∙ append-nil read.before

pub read_names : (all rest printed : List ℕ) (number : ℕ) → HaveRead all rest printed number → lines rest ≡ [] → (ns : List Name) × AreNames ns (lines all)
read_names all rest printed number read e = (read.names, subst (AreNames read.names) (sym (read_all all rest printed number read e)) read.are)

pub read_printed : (all rest printed : List ℕ) (number : ℕ) → HaveRead all rest printed number → lines rest ≡ [] →
    (ns : List Name) → AreNames ns (lines all) → printed ≡ name_lines ns
read_printed all rest printed number read e ns are = read.only ns (subst (AreNames ns) (read_all all rest printed number read e) are)

-- the first line that is no name
pub read_refused : (all rest line after printed : List ℕ) (number at : ℕ) (rule : NameRule) → HaveRead all rest printed number → lines rest ≡ line ∷ lines after →
    IsLineRefused line at rule → IsFirstRefused (lines all) number at rule
read_refused all rest line after printed number at rule read cut refused =
    let whole : lines all ≡ read.before ++ (line ∷ lines after) = read.parts ∙ ap (λ ls. read.before ++ ls) cut in
    subst (λ ls. IsFirstRefused ls number at rule) (sym whole)
    (record {
      inside = omega (arith, length-append read.before (line ∷ lines after), read.count);
      refused = subst (λ l. IsLineRefused l at rule)
          (sym (ap (λ k. get_or (read.before ++ (line ∷ lines after)) k []) read.count ∙ get_or-append_seam read.before line (lines after) [])) refused;
      before = λ j h.
          let under : j < length read.before = omega (arith, read.count) in
          let name = name_at read.names read.before j read.are under in
          (name.0, subst (IsNameLine name.0) (sym (get_or_append_left read.before (line ∷ lines after) [] j under)) name.1);
    })

-- lines are counted from 1
pub line_number : (P : ℕ → Type 0) (line number : ℕ) → line ≡ number + 1 → P number → (0 < line) × P (line - 1)
line_number P line number e h = let same : number ≡ line - 1 = omega arith in (omega arith, subst P same h)
