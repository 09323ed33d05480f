-- A text has one first piece or one fault, and not both.
use Rattle.std.proofs.Common.{◌≡◌, ◌≢◌, ℕ, ◌==◌, Bool, true, false, not, ◌&&◌, List, [], ◌∷◌, drop, length, Option, Some, None, Result, Ok, Err, inl, inr, refl, sym, ap, subst, ◌∙◌, arith, if◌then◌else◌}
use Rattle.std.proofs.lemmas.Bool.Decides.{nat_tests, eqb_tells}
use Rattle.std.proofs.lemmas.Option.{none-some}
use Rattle.std.specs.Char.{is_ascii_digit}
use Rattle.std.specs.Option.{is_none}
use Rattle.vk_types.specs.declared.types.Ty.{Ty}
use Rattle.vk_tokens.specs.declared.tokens.Mark.{Mark}
use Rattle.vk_unit_rules.specs.declared.rules.UnitRule.{UnitRule}
use Rattle.vk_unit_rules.specs.declared.rules.UnitRule.TheVariants.{C1, C2, C4}
use Rattle.vk_lex.specs.Characters.{is_blank, is_word_start, is_word_byte, is_not_newline, run, after}
use Rattle.vk_lex.specs.Comments.{after_comment, after_close, is_open_comment}
use Rattle.vk_lex.specs.Headings.{Heading}
use Rattle.vk_lex.specs.Literals.{begins_floating, begins_fraction, literal}
use Rattle.vk_lex.specs.Signs.{mark_text}
use Rattle.vk_lex.specs.Inner.Signs.{sign_at}
use Rattle.vk_lex.proofs.Marks.{longest_is, no_mark_is}
use Rattle.vk_lex.specs.Tokens.{Kind, word, integer, sign}
use Rattle.vk_lex.specs.declared.pieces.Mode.{Mode}
use Rattle.vk_lex.specs.declared.pieces.Mode.TheVariants.{Start, Inside, Directive, Idle}
use Rattle.vk_lex.specs.Lexing.{is_floating_word, is_number_byte, IsPlain, IsOther, IsToken, a_name, a_number, a_sign, IsNoToken, floating_word, floating_number, no_literal, floating_fraction, stray_byte, going, ended, IsPiece, a_blank, a_newline, a_comment, a_heading, a_token, an_idle_byte, IsFault, open_comment, late_hash, no_heading, no_token}
use Rattle.vk_lex.proofs.Words.{heading_only}

-- what the first byte decides
data Step : Type 0 where
  takes : Option Kind → Mode → List ℕ → Step
  faults : UnitRule → Step
  heads : List ℕ → Step

abbrev literal_step : Mode → List ℕ → Result (Ty × ℕ) UnitRule → Step
literal_step m rest (Ok typed) = takes (Some (integer typed.0 typed.1)) (going m) rest
literal_step m rest (Err r) = faults r

abbrev sign_step : Mode → List ℕ → Option Mark → Step
sign_step m text (Some found) = takes (Some (sign found)) (going m) (drop (length (mark_text found)) text)
sign_step m text None = if begins_fraction text then faults C2 else faults C1

abbrev word_step : Mode → List ℕ → Step
word_step m text = if is_floating_word (run is_word_byte text) then faults C2 else takes (Some (word (run is_word_byte text))) (going m) (after is_word_byte text)

abbrev number_step : Mode → List ℕ → Step
number_step m text = if begins_floating text then faults C2 else literal_step m (after is_number_byte text) (literal (run is_number_byte text))

abbrev token_step : Mode → ℕ → List ℕ → Step
token_step m c cs = if is_word_start c then word_step m (c ∷ cs) else if is_ascii_digit c then number_step m (c ∷ cs) else sign_step m (c ∷ cs) (sign_at (c ∷ cs))

abbrev idle_step : Mode → ℕ → List ℕ → Step
idle_step Idle c cs = takes None Idle cs
idle_step Start c cs = if c == 35 then heads cs else token_step Start c cs
idle_step Inside c cs = if c == 35 then faults C1 else token_step Inside c cs
idle_step Directive c cs = if c == 35 then faults C1 else token_step Directive c cs

abbrev plain_step : Mode → ℕ → List ℕ → Step
plain_step m c cs = if c == 10 then takes (ended m) Start cs else if is_blank c then takes None m cs else idle_step m c cs

abbrev comment_step : Mode → ℕ → List ℕ → Option (List ℕ) → Step
comment_step m c cs (Some rest) = takes None m rest
comment_step m c cs None = plain_step m c cs

step : Mode → List ℕ → Step
step m [] = faults C1
step m (c ∷ cs) = if is_open_comment (c ∷ cs) then faults C1 else comment_step m c cs (after_comment (c ∷ cs))

-- what the step says of a piece, and of a fault
abbrev Seen : Step → Option Kind → Mode → List ℕ → Type 0
Seen (takes k n r) j m s = (k ≡ j) × (n ≡ m) × (r ≡ s)
Seen (faults x) j m s = ⊥
Seen (heads cs) j m s = Heading cs j m s

abbrev Faulted : Step → UnitRule → Type 0
Faulted (takes k n r) x = ⊥
Faulted (faults y) x = y ≡ x
Faulted (heads cs) x = (C4 ≡ x) × ((k : Option Kind) (n : Mode) (r : List ℕ) → Heading cs k n r → ⊥)

-- ---- tests

unequal : (a b : ℕ) → a ≢ b → (a == b) ≡ false
unequal a b ne = elim (eqb_tells a b) [ inl same ↦ absurd (ne same.1) | inr other ↦ other.0 ]

and_false : (b : Bool) → (b && false) ≡ false
and_false true = refl
and_false false = refl

same_branches : {X : Type 0} (b : Bool) (x : X) → (if b then x else x) ≡ x
same_branches true x = refl
same_branches false x = refl

-- ---- the step at each piece

plain_at : (m : Mode) (c : ℕ) (cs : List ℕ) → IsPlain (c ∷ cs) → step m (c ∷ cs) ≡ plain_step m c cs
unfolding step
plain_at m c cs p = rw (p.not_open, p.whole) refl

no_slash : (c : ℕ) (cs : List ℕ) → (c == 47) ≡ false → IsPlain (c ∷ cs)
no_slash c [] e = record { whole = refl; not_open = refl }
no_slash c (d ∷ cs) e = record { whole = rw e refl; not_open = rw e refl }

newline_at : (m : Mode) (cs : List ℕ) → step m (10 ∷ cs) ≡ takes (ended m) Start cs
newline_at m cs = plain_at m 10 cs (no_slash 10 cs refl)

blank_at : (m : Mode) (c : ℕ) (cs : List ℕ) → is_blank c ≡ true → step m (c ∷ cs) ≡ takes None m cs
blank_at m c cs b =
    let slash : (c == 47) ≡ false = grind (arith, nat_tests) in
    let newline : (c == 10) ≡ false = grind (arith, nat_tests) in
    plain_at m c cs (no_slash c cs slash) ∙ rw (newline, b) refl

closed_by : (a b d : Bool) (line : List ℕ) (close : Option (List ℕ)) (rest : List ℕ) → (b ≡ true → d ≡ false) → (if a && b then Some line else if a && d then close else None) ≡ Some rest
    → ((a && d) && is_none close) ≡ false
closed_by false b d line close rest only e = refl
closed_by true true d line close rest only e = rw (only refl) refl
closed_by true false true line close rest only e = ap is_none e
closed_by true false false line close rest only e = refl

comment_closed : (text rest : List ℕ) → after_comment text ≡ Some rest → is_open_comment text ≡ false
comment_closed [] rest e = refl
comment_closed (c ∷ []) rest e = refl
comment_closed (c ∷ d ∷ cs) rest e = closed_by (c == 47) (d == 47) (d == 42) (after is_not_newline cs) (after_close cs) rest (λ slash. grind (arith, nat_tests)) e

comment_at : (m : Mode) (text rest : List ℕ) → after_comment text ≡ Some rest → step m text ≡ takes None m rest
unfolding step
comment_at m [] rest e = absurd (none-some _ e)
comment_at m (c ∷ cs) rest e = rw (comment_closed (c ∷ cs) rest e, e) refl

idle_later : (m : Mode) (c : ℕ) (cs : List ℕ) → m ≢ Idle → (c == 35) ≡ false → idle_step m c cs ≡ token_step m c cs
idle_later Start c cs ne hash = ap (λ b. if b then heads cs else token_step Start c cs) hash
idle_later Inside c cs ne hash = ap (λ b. if b then faults C1 else token_step Inside c cs) hash
idle_later Directive c cs ne hash = ap (λ b. if b then faults C1 else token_step Directive c cs) hash
idle_later Idle c cs ne hash = absurd (ne refl)

-- what is neither blank nor newline, in a line that is not idle
later_at : (m : Mode) (c : ℕ) (cs : List ℕ) → m ≢ Idle → IsPlain (c ∷ cs) → (c == 10) ≡ false → is_blank c ≡ false → (c == 35) ≡ false → step m (c ∷ cs) ≡ token_step m c cs
later_at m c cs ne p newline blank hash =
    plain_at m c cs p ∙ ap (λ b. if b then takes (ended m) Start cs else if is_blank c then takes None m cs else idle_step m c cs) newline
    ∙ ap (λ b. if b then takes None m cs else idle_step m c cs) blank ∙ idle_later m c cs ne hash

word_at : (m : Mode) (c : ℕ) (cs : List ℕ) → m ≢ Idle → is_word_start c ≡ true → step m (c ∷ cs) ≡ word_step m (c ∷ cs)
word_at m c cs ne w =
    let slash : (c == 47) ≡ false = grind (arith, nat_tests) in
    let newline : (c == 10) ≡ false = grind (arith, nat_tests) in
    let blank : is_blank c ≡ false = grind (arith, nat_tests) in
    let hash : (c == 35) ≡ false = grind (arith, nat_tests) in
    later_at m c cs ne (no_slash c cs slash) newline blank hash
    ∙ ap (λ b. if b then word_step m (c ∷ cs) else if is_ascii_digit c then number_step m (c ∷ cs) else sign_step m (c ∷ cs) (sign_at (c ∷ cs))) w

digit_at : (m : Mode) (c : ℕ) (cs : List ℕ) → m ≢ Idle → is_ascii_digit c ≡ true → step m (c ∷ cs) ≡ number_step m (c ∷ cs)
digit_at m c cs ne d =
    let slash : (c == 47) ≡ false = grind (arith, nat_tests) in
    let newline : (c == 10) ≡ false = grind (arith, nat_tests) in
    let blank : is_blank c ≡ false = grind (arith, nat_tests) in
    let hash : (c == 35) ≡ false = grind (arith, nat_tests) in
    let start : is_word_start c ≡ false = ap (λ b. is_word_byte c && not b) d ∙ and_false (is_word_byte c) in
    later_at m c cs ne (no_slash c cs slash) newline blank hash
    ∙ ap (λ b. if b then word_step m (c ∷ cs) else if is_ascii_digit c then number_step m (c ∷ cs) else sign_step m (c ∷ cs) (sign_at (c ∷ cs))) start
    ∙ ap (λ b. if b then number_step m (c ∷ cs) else sign_step m (c ∷ cs) (sign_at (c ∷ cs))) d

other_at : (m : Mode) (c : ℕ) (cs : List ℕ) → m ≢ Idle → IsOther c → IsPlain (c ∷ cs) → step m (c ∷ cs) ≡ sign_step m (c ∷ cs) (sign_at (c ∷ cs))
other_at m c cs ne o p =
    later_at m c cs ne p (unequal c 10 o.newline) o.blank (unequal c 35 o.hash)
    ∙ ap (λ b. if b then word_step m (c ∷ cs) else if is_ascii_digit c then number_step m (c ∷ cs) else sign_step m (c ∷ cs) (sign_at (c ∷ cs))) o.word
    ∙ ap (λ b. if b then number_step m (c ∷ cs) else sign_step m (c ∷ cs) (sign_at (c ∷ cs))) o.digit

idle_at : (c : ℕ) (cs : List ℕ) → c ≢ 10 → IsPlain (c ∷ cs) → step Idle (c ∷ cs) ≡ takes None Idle cs
idle_at c cs ne p =
    plain_at Idle c cs p ∙ ap (λ b. if b then takes (ended Idle) Start cs else if is_blank c then takes None Idle cs else takes None Idle cs) (unequal c 10 ne) ∙ same_branches (is_blank c) (takes None Idle cs)

hash_at : (m : Mode) (cs : List ℕ) → step m (35 ∷ cs) ≡ idle_step m 35 cs
hash_at m cs = plain_at m 35 cs (no_slash 35 cs refl)

-- ---- what the step says

token_seen : {m : Mode} {text rest : List ℕ} {k : Kind} → m ≢ Idle → IsToken text k rest → Seen (step m text) (Some k) (going m) rest
token_seen {m = m} ne (a_name {c = c} {cs = cs} w f) =
    subst (λ (s : Step). Seen s (Some (word (run is_word_byte (c ∷ cs)))) (going m) (after is_word_byte (c ∷ cs)))
    (sym (word_at m c cs ne w ∙ ap (λ b. if b then faults C2 else takes (Some (word (run is_word_byte (c ∷ cs)))) (going m) (after is_word_byte (c ∷ cs))) f)) (refl, refl, refl)
token_seen {m = m} ne (a_number {c = c} {cs = cs} {t = t} {n = n} d f e) =
    subst (λ (s : Step). Seen s (Some (integer t n)) (going m) (after is_number_byte (c ∷ cs)))
    (sym (digit_at m c cs ne d ∙ ap (λ b. if b then faults C2 else literal_step m (after is_number_byte (c ∷ cs)) (literal (run is_number_byte (c ∷ cs)))) f
    ∙ ap (literal_step m (after is_number_byte (c ∷ cs))) e)) (refl, refl, refl)
token_seen {m = m} ne (a_sign {c = c} {cs = cs} {m = found} o p l) =
    subst (λ (s : Step). Seen s (Some (sign found)) (going m) (drop (length (mark_text found)) (c ∷ cs)))
    (sym (other_at m c cs ne o p ∙ ap (sign_step m (c ∷ cs)) (longest_is (c ∷ cs) found l))) (refl, refl, refl)

seen : {m n : Mode} {text rest : List ℕ} {k : Option Kind} → IsPiece m text k n rest → Seen (step m text) k n rest
seen {m = m} (a_blank {c = c} {cs = cs} b) = subst (λ (s : Step). Seen s None m cs) (sym (blank_at m c cs b)) (refl, refl, refl)
seen {m = m} (a_newline {cs = cs}) = subst (λ (s : Step). Seen s (ended m) Start cs) (sym (newline_at m cs)) (refl, refl, refl)
seen {m = m} {text = text} {rest = rest} (a_comment e) = subst (λ (s : Step). Seen s None m rest) (sym (comment_at m text rest e)) (refl, refl, refl)
seen (a_heading {cs = cs} {rest = rest} {k = k} {n = n} h) = subst (λ (s : Step). Seen s k n rest) (sym (hash_at Start cs)) h
seen (a_token ne t) = token_seen ne t
seen (an_idle_byte {c = c} {cs = cs} ne p) = subst (λ (s : Step). Seen s None Idle cs) (sym (idle_at c cs ne p)) (refl, refl, refl)

fault_seen : {m : Mode} {text : List ℕ} {r : UnitRule} → m ≢ Idle → IsNoToken text r → Faulted (step m text) r
fault_seen {m = m} ne (floating_word {c = c} {cs = cs} w f) =
    subst (λ (s : Step). Faulted s C2) (sym (word_at m c cs ne w ∙ ap (λ b. if b then faults C2 else takes (Some (word (run is_word_byte (c ∷ cs)))) (going m) (after is_word_byte (c ∷ cs))) f)) refl
fault_seen {m = m} ne (floating_number {c = c} {cs = cs} d f) =
    subst (λ (s : Step). Faulted s C2) (sym (digit_at m c cs ne d ∙ ap (λ b. if b then faults C2 else literal_step m (after is_number_byte (c ∷ cs)) (literal (run is_number_byte (c ∷ cs)))) f)) refl
fault_seen {m = m} ne (no_literal {c = c} {cs = cs} {r = r} d f e) =
    subst (λ (s : Step). Faulted s r)
    (sym (digit_at m c cs ne d ∙ ap (λ b. if b then faults C2 else literal_step m (after is_number_byte (c ∷ cs)) (literal (run is_number_byte (c ∷ cs)))) f
    ∙ ap (literal_step m (after is_number_byte (c ∷ cs))) e)) refl
fault_seen {m = m} ne (floating_fraction {c = c} {cs = cs} o p n f) =
    subst (λ (s : Step). Faulted s C2) (sym (other_at m c cs ne o p ∙ ap (sign_step m (c ∷ cs)) (no_mark_is (c ∷ cs) n) ∙ ap (λ b. if b then faults C2 else faults C1) f)) refl
fault_seen {m = m} ne (stray_byte {c = c} {cs = cs} o p n f) =
    subst (λ (s : Step). Faulted s C1) (sym (other_at m c cs ne o p ∙ ap (sign_step m (c ∷ cs)) (no_mark_is (c ∷ cs) n) ∙ ap (λ b. if b then faults C2 else faults C1) f)) refl

open_at : (m : Mode) (text : List ℕ) → is_open_comment text ≡ true → step m text ≡ faults C1
unfolding step
open_at m [] e = refl
open_at m (c ∷ cs) e = rw e refl

late_at : (m : Mode) (cs : List ℕ) → m ≢ Start → m ≢ Idle → idle_step m 35 cs ≡ faults C1
late_at Start cs a b = absurd (a refl)
late_at Inside cs a b = refl
late_at Directive cs a b = refl
late_at Idle cs a b = absurd (b refl)

faulted : {m : Mode} {text : List ℕ} {r : UnitRule} → IsFault m text r → Faulted (step m text) r
faulted {m = m} {text = text} (open_comment e) = subst (λ (s : Step). Faulted s C1) (sym (open_at m text e)) refl
faulted {m = m} (late_hash {cs = cs} a b) = subst (λ (s : Step). Faulted s C1) (sym (hash_at m cs ∙ late_at m cs a b)) refl
faulted (no_heading {cs = cs} none) = subst (λ (s : Step). Faulted s C4) (sym (hash_at Start cs)) (refl, none)
faulted (no_token ne t) = fault_seen ne t

-- ---- so there is one

one_step : (s : Step) (j k : Option Kind) (m n : Mode) (r t : List ℕ) → Seen s j m r → Seen s k n t → (j ≡ k) × (m ≡ n) × (r ≡ t)
one_step (takes x y z) j k m n r t a b = (sym a.0 ∙ b.0, sym a.1 ∙ b.1, sym a.2 ∙ b.2)
one_step (faults x) j k m n r t a b = absurd a
one_step (heads cs) j k m n r t a b = heading_only a b

step_or_fault : (s : Step) (k : Option Kind) (m : Mode) (r : List ℕ) (x : UnitRule) → Seen s k m r → Faulted s x → ⊥
step_or_fault (takes a b c) k m r x p f = f
step_or_fault (faults y) k m r x p f = p
step_or_fault (heads cs) k m r x p f = f.1 k m r p

one_fault_step : (s : Step) (x y : UnitRule) → Faulted s x → Faulted s y → x ≡ y
one_fault_step (takes a b c) x y f g = absurd f
one_fault_step (faults z) x y f g = sym f ∙ g
one_fault_step (heads cs) x y f g = sym f.0 ∙ g.0

pub one_piece : {m n o : Mode} {text r s : List ℕ} {j k : Option Kind} → IsPiece m text j n r → IsPiece m text k o s → (j ≡ k) × (n ≡ o) × (r ≡ s)
one_piece {m = m} {n = n} {o = o} {text = text} {r = r} {s = s} {j = j} {k = k} p q = one_step (step m text) j k n o r s (seen p) (seen q)

pub piece_or_fault : {m n : Mode} {text r : List ℕ} {k : Option Kind} {x : UnitRule} → IsPiece m text k n r → IsFault m text x → ⊥
piece_or_fault {m = m} {n = n} {text = text} {r = r} {k = k} {x = x} p f = step_or_fault (step m text) k n r x (seen p) (faulted f)

pub one_fault : {m : Mode} {text : List ℕ} {x y : UnitRule} → IsFault m text x → IsFault m text y → x ≡ y
one_fault {m = m} {text = text} {x = x} {y = y} f g = one_fault_step (step m text) x y (faulted f) (faulted g)
