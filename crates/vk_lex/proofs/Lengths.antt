-- How much shorter a text is behind its first piece.
use Rattle.std.proofs.Common.{◌≡◌, ℕ, suc, ◌+◌, ◌<◌, ◌≤◌, ◌==◌, Bool, true, false, not, ◌&&◌, ◌||◌, List, [], ◌∷◌, codes, drop, length, cond, Option, Some, None, refl, sym, ap, ◌∙◌, arith, lit<, if◌then◌else◌}
use Rattle.std.proofs.lemmas.Bool.{false≢true}
use Rattle.std.proofs.lemmas.Option.{none-some}
use Rattle.std.proofs.lemmas.List.{length-drop, length-append, take-append-drop}
use Rattle.std.specs.Char.{is_ascii_digit}
use Rattle.std.specs.List.{prefix_len}
use Rattle.std.specs.Int.{is_in_range}
use Rattle.std.specs.Option.{unwrap_or}
use Rattle.vk_tokens.specs.declared.tokens.Mark.{Mark}
use Rattle.vk_tokens.specs.declared.tokens.Mark.TheVariants.{OpenParen, CloseParen, OpenBracket, CloseBracket, OpenBrace, CloseBrace, Semicolon, Comma, Question, Colon, Assign, AddAssign, SubAssign, MulAssign, DivAssign, RemAssign, AndAssign, OrAssign, XorAssign, ShlAssign, ShrAssign, Increment, Decrement, Plus, Minus, Star, Slash, Percent, Ampersand, Bar, Caret, Tilde, Bang, ShiftLeft, ShiftRight, EqualEqual, NotEqual, Less, Greater, LessEqual, GreaterEqual, AndAnd, OrOr}
use Rattle.vk_lex.specs.Characters.{is_word_byte, is_not_newline, run, after}
use Rattle.vk_lex.specs.Comments.{Gap, a_blank as a_gap_blank, a_comment as a_gap_comment, no_gap, after_comment, after_close, begins_with}
use Rattle.vk_lex.specs.Headings.{Words, no_words, a_word, IsFile, IsDirective, a_simd, a_simdfn, Heading, an_include, a_pragma, a_directive}
use Rattle.vk_lex.specs.Signs.{mark_text}
use Rattle.vk_lex.specs.Tokens.{Kind}
use Rattle.vk_lex.specs.declared.pieces.Mode.{Mode}
use Rattle.vk_lex.specs.declared.pieces.Mode.TheVariants.{Start, Inside, Directive, Idle}
use Rattle.vk_lex.specs.Lexing.{is_number_byte, IsToken, a_name, a_number, a_sign, going, ended, IsPiece, a_blank, a_newline, a_comment, a_heading, a_token, an_idle_byte}

-- what has been told so far and what is still owed: the end of a line with a directive
abbrev pub owed : Mode → ℕ
owed Start = 0
owed Inside = 0
owed Directive = 1
owed Idle = 0

abbrev pub told : Option Kind → ℕ
told None = 0
told (Some k) = 1

dropped : {X : Type 0} (n : ℕ) (xs : List X) → length (drop n xs) ≤ length xs
dropped n xs = omega (arith, length-drop n xs)

-- ---- comments and gaps

close_length : (text rest : List ℕ) → after_close text ≡ Some rest → length rest < length text
close_length [] rest e = absurd (none-some rest e)
close_length (c ∷ cs) rest e = by ((c == 42) && begins_with 47 cs) (close_length cs rest) e
  where
    by : (b : Bool) → (after_close cs ≡ Some rest → length rest < length cs) → (if b then Some (drop 1 cs) else after_close cs) ≡ Some rest → length rest < suc (length cs)
    by true next f = let is = ap (λ o. length (unwrap_or o [])) f in omega (arith, is, dropped 1 cs)
    by false next f = let below = next f in omega arith

pub comment_length : (text rest : List ℕ) → after_comment text ≡ Some rest → length rest < length text
comment_length [] rest e = absurd (none-some rest e)
comment_length (c ∷ []) rest e = absurd (none-some rest e)
comment_length (c ∷ d ∷ cs) rest e = by ((c == 47) && (d == 47)) ((c == 47) && (d == 42)) e
  where
    by : (b q : Bool) → (if b then Some (after is_not_newline cs) else if q then after_close cs else None) ≡ Some rest → length rest < suc (suc (length cs))
    by true q f = let is = ap (λ o. length (unwrap_or o [])) f in omega (arith, is, dropped (prefix_len is_not_newline cs) cs)
    by false true f = let below = close_length cs rest f in omega arith
    by false false f = absurd (none-some rest f)

gap_length : {text rest : List ℕ} → Gap text rest → length rest ≤ length text
gap_length (a_gap_blank b g) = let below = gap_length g in omega arith
gap_length (a_gap_comment {text = text} {more = more} e g) = let first = comment_length text more e in let below = gap_length g in omega arith
gap_length (no_gap b e) = omega arith

-- ---- words and headings

run_length : (p : ℕ → Bool) (text : List ℕ) → length (run p text) + length (after p text) ≡ length text
run_length p text = sym (length-append (run p text) (after p text)) ∙ ap (λ (t : List ℕ). length t) (take-append-drop (prefix_len p text) text)

words_length : {ws : List (List ℕ)} {text rest : List ℕ} → Words ws text rest → length rest ≤ length text
words_length no_words = omega arith
words_length (a_word {at = at} g e words) =
    let first = gap_length g in let behind = words_length words in
    omega (arith, run_length is_word_byte at)

-- behind a word that is not empty
word_length : {w : List ℕ} {ws : List (List ℕ)} {text rest : List ℕ} → 0 < length w → Words (w ∷ ws) text rest → length rest < length text
word_length some (a_word {at = at} g e words) =
    let first = gap_length g in let behind = words_length words in
    omega (arith, run_length is_word_byte at, ap (λ (t : List ℕ). length t) e)

directive_length : {text rest : List ℕ} {k : Kind} → IsDirective text k rest → length rest ≤ length text
directive_length (a_simd words) = words_length words
directive_length (a_simdfn words) = words_length words

file_length : {text rest : List ℕ} → IsFile text rest → length rest ≤ length text
file_length {rest = rest} f =
    let first = gap_length f.gap in
    omega (arith, ap (λ (t : List ℕ). length t) f.file ∙ length-append (codes "<stdint.h>") rest)

heading_length : {text rest : List ℕ} {k : Option Kind} {n : Mode} → Heading text k n rest → length rest < length text
heading_length (an_include words file) = let first = word_length (lit< tt) words in let behind = file_length file in omega arith
heading_length (a_pragma words none) = word_length (lit< tt) words
heading_length (a_directive words d) = let first = word_length (lit< tt) words in let behind = directive_length d in omega arith

heading_owed : {text rest : List ℕ} {k : Option Kind} {n : Mode} → Heading text k n rest → told k + owed n ≤ 2
heading_owed (an_include words file) = omega arith
heading_owed (a_pragma words none) = omega arith
heading_owed (a_directive words d) = omega arith

-- ---- tokens

mark_some : (m : Mark) → 0 < length (mark_text m)
mark_some OpenParen = lit< tt
mark_some CloseParen = lit< tt
mark_some OpenBracket = lit< tt
mark_some CloseBracket = lit< tt
mark_some OpenBrace = lit< tt
mark_some CloseBrace = lit< tt
mark_some Semicolon = lit< tt
mark_some Comma = lit< tt
mark_some Question = lit< tt
mark_some Colon = lit< tt
mark_some Assign = lit< tt
mark_some AddAssign = lit< tt
mark_some SubAssign = lit< tt
mark_some MulAssign = lit< tt
mark_some DivAssign = lit< tt
mark_some RemAssign = lit< tt
mark_some AndAssign = lit< tt
mark_some OrAssign = lit< tt
mark_some XorAssign = lit< tt
mark_some ShlAssign = lit< tt
mark_some ShrAssign = lit< tt
mark_some Increment = lit< tt
mark_some Decrement = lit< tt
mark_some Plus = lit< tt
mark_some Minus = lit< tt
mark_some Star = lit< tt
mark_some Slash = lit< tt
mark_some Percent = lit< tt
mark_some Ampersand = lit< tt
mark_some Bar = lit< tt
mark_some Caret = lit< tt
mark_some Tilde = lit< tt
mark_some Bang = lit< tt
mark_some ShiftLeft = lit< tt
mark_some ShiftRight = lit< tt
mark_some EqualEqual = lit< tt
mark_some NotEqual = lit< tt
mark_some Less = lit< tt
mark_some Greater = lit< tt
mark_some LessEqual = lit< tt
mark_some GreaterEqual = lit< tt
mark_some AndAnd = lit< tt
mark_some OrOr = lit< tt

-- behind a run that is not empty
run_some : (p : ℕ → Bool) (c : ℕ) (cs : List ℕ) → p c ≡ true → length (after p (c ∷ cs)) < suc (length cs)
run_some p c cs e =
    let is : prefix_len p (c ∷ cs) ≡ suc (prefix_len p cs) = ap (λ b. cond b (1 + prefix_len p cs) 0) e ∙ omega arith in
    omega (arith, is, length-drop (prefix_len p (c ∷ cs)) (c ∷ cs))

first_of_both : (p q : Bool) → (p && q) ≡ true → p ≡ true
first_of_both true q e = refl
first_of_both false q e = absurd (false≢true e)

digit_number : (c : ℕ) → is_ascii_digit c ≡ true → is_number_byte c ≡ true
digit_number c d = ap (λ b. ((b || is_in_range 65 90 c) || is_in_range 97 122 c) || (c == 95) || (c == 46)) d

token_length : {text rest : List ℕ} {k : Kind} → IsToken text k rest → length rest < length text
token_length (a_name {c = c} {cs = cs} w f) = run_some is_word_byte c cs (first_of_both (is_word_byte c) (not (is_ascii_digit c)) w)
token_length (a_number {c = c} {cs = cs} d f e) = run_some is_number_byte c cs (digit_number c d)
token_length (a_sign {c = c} {cs = cs} {m = m} o p e) = let some = mark_some m in omega (arith, length-drop (length (mark_text m)) (c ∷ cs))

pub piece_length : {m n : Mode} {text rest : List ℕ} {k : Option Kind} → IsPiece m text k n rest → length rest < length text
piece_length (a_blank b) = omega arith
piece_length a_newline = omega arith
piece_length (a_comment {text = text} {rest = rest} e) = comment_length text rest e
piece_length (a_heading h) = let below = heading_length h in omega arith
piece_length (a_token ne t) = token_length t
piece_length (an_idle_byte ne p) = omega arith

going_owed : (m : Mode) → owed (going m) ≡ owed m
going_owed Start = refl
going_owed Inside = refl
going_owed Directive = refl
going_owed Idle = refl

ended_owed : (m : Mode) → told (ended m) ≡ owed m
ended_owed Start = refl
ended_owed Inside = refl
ended_owed Directive = refl
ended_owed Idle = refl

pub piece_owed : {m n : Mode} {text rest : List ℕ} {k : Option Kind} → IsPiece m text k n rest → told k + owed n + length rest ≤ owed m + length text
piece_owed {m = m} (a_blank b) = omega arith
piece_owed {m = m} a_newline = omega (arith, ended_owed m)
piece_owed {m = m} (a_comment {text = text} {rest = rest} e) = let below = comment_length text rest e in omega arith
piece_owed (a_heading h) = let below = heading_length h in let most = heading_owed h in omega arith
piece_owed {m = m} (a_token ne t) = let below = token_length t in omega (arith, going_owed m)
piece_owed (an_idle_byte ne p) = omega arith
