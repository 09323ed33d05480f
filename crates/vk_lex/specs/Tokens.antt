-- Tokens by their texts, and the state between two of them.
use Rattle.std.specs.Prelude.{◌≡◌, ℕ, ◌+◌, ◌≤◌, true, List, [], ◌∷◌, ◌++◌, if◌then◌else◌, length, slice_get, slice_index, nat_eq, Option, Some, None}
use Rattle.std.specs.Cmp.Lexicographic.{pointwise}
use Rattle.std.specs.List.{list_all, list_any}
use Rattle.vk_lex.specs.Characters.{is_word_byte, is_word_start}
use Rattle.vk_tokens.specs.Names.{IsNamed}
use Rattle.std.specs.Option.{unwrap_or}
use Rattle.vk_types.specs.declared.types.Ty.{Ty}
use Rattle.vk_lex.specs.declared.pieces.Found.{Found}
use Rattle.vk_lex.specs.declared.pieces.Found.TheVariants.{Word, Int as FoundInt, Sign as FoundSign, Simdfn as FoundSimdfn, Simd as FoundSimd, LineEnd as FoundLineEnd}
use Rattle.vk_tokens.specs.declared.tokens.Mark.{Mark}
use Rattle.vk_tokens.specs.declared.tokens.Token.{Token}
use Rattle.vk_tokens.specs.declared.tokens.TokenKind.{TokenKind}
use Rattle.vk_tokens.specs.declared.tokens.TokenKind.TheVariants.{Name, Int, Sign, Simdfn, Simd, LineEnd}

-- what a token is; a name is its text
pub data Kind : Type 0 where
  word : List ℕ → Kind
  integer : Ty → ℕ → Kind
  sign : Mark → Kind
  simdfn simd line_end : Kind

-- a token, with the line on which it begins
pub record Tok : Type 0 where
  pub line : ℕ
  pub kind : Kind

-- what the code found, the same
abbrev pub found_kind : Found → Kind
found_kind (Word text) = word text.now
found_kind (FoundInt t n) = integer t n
found_kind (FoundSign m) = sign m
found_kind FoundSimdfn = simdfn
found_kind FoundSimd = simd
found_kind FoundLineEnd = line_end

-- ---- what the tokens of a unit are, by their table of names

abbrev pub kind_of : List (List ℕ) → TokenKind → Kind
kind_of names (Name id) = word (unwrap_or (slice_get names id.0) [])
kind_of names (Int t n) = integer t n
kind_of names (Sign m) = sign m
kind_of names Simdfn = simdfn
kind_of names Simd = simd
kind_of names LineEnd = line_end

abbrev pub tok_of : List (List ℕ) → Token → Tok
tok_of names t = record { line = t.line; kind = kind_of names t.kind }

-- an identifier (C17 6.4.2.1)
pub record IsIdentifier (text : List ℕ) : Type 0 where
  pub first : is_word_start (slice_index text 0) ≡ true
  pub bytes : list_all is_word_byte text ≡ true

abbrev pub AreIdentifiers : List (List ℕ) → Type 0
AreIdentifiers names = (k : ℕ) (text : List ℕ) → slice_get names k ≡ Some text → IsIdentifier text

-- a table with this text, which goes last where it is new
abbrev pub with_text : List (List ℕ) → List ℕ → List (List ℕ)
with_text names text = if list_any (pointwise nat_eq text) names then names else names ++ text ∷ []

-- a table with the name of a token
abbrev pub with_name : List (List ℕ) → Kind → List (List ℕ)
with_name names (word text) = with_text names text
with_name names (integer t n) = names
with_name names (sign m) = names
with_name names simdfn = names
with_name names simd = names
with_name names line_end = names

-- a table that has kept its names, and has at most that of this token more
pub record Grows (old new : List (List ℕ)) (kind : Kind) : Type 0 where
  pub exact : new ≡ with_name old kind
  pub keeps : (k : ℕ) (text : List ℕ) → slice_get old k ≡ Some text → slice_get new k ≡ Some text
  pub most : length new ≤ length old + 1

-- a list of tokens and a table of names, with one token more
pub record TellsOne (line : ℕ) (kind : Kind) (old new : List Token) (before now : List (List ℕ)) : Type 0 where
  pub token : Token
  pub list : new ≡ old ++ token ∷ []
  pub is : tok_of now token ≡ record { line = line; kind = kind }
  pub named : IsNamed now token.kind
  pub grows : Grows before now kind

-- what the list and the table become with a piece
abbrev pub Tells : Option Kind → (line : ℕ) → (old new : List Token) → (before now : List (List ℕ)) → Type 0
Tells None line old new before now = (new ≡ old) × (now ≡ before)
Tells (Some k) line old new before now = TellsOne line k old new before now
