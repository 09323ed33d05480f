-- The tokens of a text (C17 6.4), piece by piece, and its first fault.
use Rattle.std.specs.Prelude.{◌≡◌, ◌≢◌, ℕ, ◌==◌, Bool, true, false, ◌||◌, List, [], ◌∷◌, length, drop, codes, nat_eq, Option, Some, None, Ok, Err}
use Rattle.std.specs.Char.{is_ascii_digit}
use Rattle.std.specs.List.{list_any}
use Rattle.std.specs.Cmp.Lexicographic.{pointwise}
use Rattle.vk_types.specs.declared.types.Ty.{Ty}
use Rattle.vk_tokens.specs.declared.tokens.Mark.{Mark}
use Rattle.vk_unit_rules.specs.declared.rules.UnitRule.{UnitRule}
use Rattle.vk_unit_rules.specs.declared.rules.UnitRule.TheVariants.{C1, C2, C3, C4}
use Rattle.vk_lex.specs.Characters.{is_blank, is_word_byte, is_word_start, run, after, text_of, line_of}
use Rattle.vk_lex.specs.Comments.{after_comment, is_open_comment}
use Rattle.vk_lex.specs.Headings.{Heading}
use Rattle.vk_lex.specs.Literals.{begins_floating, begins_fraction, literal}
use Rattle.vk_lex.specs.Signs.{mark_text, IsLongest, HasNoMark}
use Rattle.vk_lex.specs.Tokens.{Kind, Tok, word, integer, sign, line_end}
use Rattle.vk_lex.specs.declared.pieces.Mode.{Mode}
use Rattle.vk_lex.specs.declared.pieces.Mode.TheVariants.{Start, Inside, Directive, Idle}

-- the words of floating types
abbrev pub is_floating_word : List ℕ → Bool
is_floating_word w = list_any (pointwise nat_eq w) (codes "float" ∷ codes "double" ∷ codes "_Complex" ∷ [])

-- a byte of a number: a letter, a digit, an underscore or a point
abbrev pub is_number_byte : ℕ → Bool
is_number_byte c = is_word_byte c || (c == 46)

-- the text begins with such a byte
abbrev pub begins_by : (ℕ → Bool) → List ℕ → Bool
begins_by p [] = false
begins_by p (c ∷ cs) = p c

-- no comment begins the text, whole or open
pub record IsPlain (text : List ℕ) : Type 0 where
  pub whole : after_comment text ≡ None
  pub not_open : is_open_comment text ≡ false

-- a byte that is no blank, newline or `#`, and begins no name or number
pub record IsOther (c : ℕ) : Type 0 where
  pub blank : is_blank c ≡ false
  pub newline : c ≢ 10
  pub hash : c ≢ 35
  pub word : is_word_start c ≡ false
  pub digit : is_ascii_digit c ≡ false

-- the text begins with a byte that is no blank, newline or `#`
abbrev pub BeginsToken : List ℕ → Type 0
BeginsToken [] = ⊥
BeginsToken (c ∷ cs) = (is_blank c ≡ false) × (c ≢ 10) × (c ≢ 35)

abbrev pub BeginsOther : List ℕ → Type 0
BeginsOther [] = ⊥
BeginsOther (c ∷ cs) = IsOther c

-- ---- tokens

-- A token at the front of the text, and what follows.
pub data IsToken : (text : List ℕ) → Kind → (rest : List ℕ) → Type 0 where
  a_name : {c : ℕ} {cs : List ℕ} → is_word_start c ≡ true → is_floating_word (run is_word_byte (c ∷ cs)) ≡ false
      → IsToken (c ∷ cs) (word (run is_word_byte (c ∷ cs))) (after is_word_byte (c ∷ cs))
  a_number : {c : ℕ} {cs : List ℕ} {t : Ty} {n : ℕ} → is_ascii_digit c ≡ true → begins_floating (c ∷ cs) ≡ false
      → literal (run is_number_byte (c ∷ cs)) ≡ Ok (t, n) → IsToken (c ∷ cs) (integer t n) (after is_number_byte (c ∷ cs))
  a_sign : {c : ℕ} {cs : List ℕ} {m : Mark} → IsOther c → IsPlain (c ∷ cs) → IsLongest (c ∷ cs) m
      → IsToken (c ∷ cs) (sign m) (drop (length (mark_text m)) (c ∷ cs))

-- No token, blank, newline, comment or `#` is at the front of the text: the greatest rule that is broken there.
pub data IsNoToken : (text : List ℕ) → UnitRule → Type 0 where
  floating_word : {c : ℕ} {cs : List ℕ} → is_word_start c ≡ true → is_floating_word (run is_word_byte (c ∷ cs)) ≡ true → IsNoToken (c ∷ cs) C2
  floating_number : {c : ℕ} {cs : List ℕ} → is_ascii_digit c ≡ true → begins_floating (c ∷ cs) ≡ true → IsNoToken (c ∷ cs) C2
  no_literal : {c : ℕ} {cs : List ℕ} {r : UnitRule} → is_ascii_digit c ≡ true → begins_floating (c ∷ cs) ≡ false
      → literal (run is_number_byte (c ∷ cs)) ≡ Err r → IsNoToken (c ∷ cs) r
  floating_fraction : {c : ℕ} {cs : List ℕ} → IsOther c → IsPlain (c ∷ cs) → HasNoMark (c ∷ cs) → begins_fraction (c ∷ cs) ≡ true → IsNoToken (c ∷ cs) C2
  stray_byte : {c : ℕ} {cs : List ℕ} → IsOther c → IsPlain (c ∷ cs) → HasNoMark (c ∷ cs) → begins_fraction (c ∷ cs) ≡ false → IsNoToken (c ∷ cs) C1

-- ---- pieces

-- how a line goes on behind a token
abbrev pub going : Mode → Mode
going Start = Inside
going Inside = Inside
going Directive = Directive
going Idle = Idle

-- what the end of a line gives
abbrev pub ended : Mode → Option Kind
ended Start = None
ended Inside = None
ended Directive = Some line_end
ended Idle = None

-- The first piece of a text that stands so in its line: what it gives, how the line goes on, and what follows.
pub data IsPiece : Mode → (text : List ℕ) → Option Kind → Mode → (rest : List ℕ) → Type 0 where
  a_blank : {m : Mode} {c : ℕ} {cs : List ℕ} → is_blank c ≡ true → IsPiece m (c ∷ cs) None m cs
  a_newline : {m : Mode} {cs : List ℕ} → IsPiece m (10 ∷ cs) (ended m) Start cs
  a_comment : {m : Mode} {text rest : List ℕ} → after_comment text ≡ Some rest → IsPiece m text None m rest
  a_heading : {cs rest : List ℕ} {k : Option Kind} {n : Mode} → Heading cs k n rest → IsPiece Start (35 ∷ cs) k n rest
  a_token : {m : Mode} {text rest : List ℕ} {k : Kind} → m ≢ Idle → IsToken text k rest → IsPiece m text (Some k) (going m) rest
  an_idle_byte : {c : ℕ} {cs : List ℕ} → c ≢ 10 → IsPlain (c ∷ cs) → IsPiece Idle (c ∷ cs) None Idle cs

-- No piece begins the text: the greatest rule that is broken there.
pub data IsFault : Mode → (text : List ℕ) → UnitRule → Type 0 where
  open_comment : {m : Mode} {text : List ℕ} → is_open_comment text ≡ true → IsFault m text C1
  late_hash : {m : Mode} {cs : List ℕ} → m ≢ Start → m ≢ Idle → IsFault m (35 ∷ cs) C1
  no_heading : {cs : List ℕ} → ((k : Option Kind) (n : Mode) (rest : List ℕ) → Heading cs k n rest → ⊥) → IsFault Start (35 ∷ cs) C4
  no_token : {m : Mode} {text : List ℕ} {r : UnitRule} → m ≢ Idle → IsNoToken text r → IsFault m text r

-- ---- texts

-- `line` tells the line of a place by how many bytes are left from it on
module _ (line : ℕ → ℕ) where
  abbrev pub with_kind : Option Kind → ℕ → List Tok → List Tok
  with_kind None left ts = ts
  with_kind (Some k) left ts = record { line = line left; kind = k } ∷ ts

  -- the tokens of a text
  pub data Reads : Mode → (text : List ℕ) → List Tok → Type 0 where
    at_end : {m : Mode} → Reads m [] (with_kind (ended m) 0 [])
    a_piece : {m n : Mode} {text rest : List ℕ} {k : Option Kind} {ts : List Tok} → IsPiece m text k n rest → Reads n rest ts → Reads m text (with_kind k (length text) ts)

  -- the first fault of a text, with its line
  pub data Fails : Mode → (text : List ℕ) → ℕ → UnitRule → Type 0 where
    here : {m : Mode} {c : ℕ} {cs : List ℕ} {r : UnitRule} → IsFault m (c ∷ cs) r → Fails m (c ∷ cs) (line (length (c ∷ cs))) r
    later : {m n : Mode} {text rest : List ℕ} {k : Option Kind} {l : ℕ} {r : UnitRule} → IsPiece m text k n rest → Fails n rest l r → Fails m text l r

-- the bytes of a unit have these tokens, or this first fault
abbrev pub Lexes : List ℕ → List Tok → Type 0
Lexes bytes ts = Reads (line_of bytes) Start (text_of bytes) ts

abbrev pub Refuses : List ℕ → (line : ℕ) → UnitRule → Type 0
Refuses bytes l r = Fails (line_of bytes) Start (text_of bytes) l r

-- there is a first fault of the bytes
abbrev pub HasFault : List ℕ → Type 0
HasFault bytes = (line : ℕ) × (rule : UnitRule) × Refuses bytes line rule

-- the rules on tokens
abbrev pub IsTokenRule : UnitRule → Type 0
IsTokenRule C1 = Unit {0}
IsTokenRule C2 = Unit {0}
IsTokenRule C3 = Unit {0}
IsTokenRule C4 = Unit {0}
IsTokenRule rule = ⊥
