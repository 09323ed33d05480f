-- The longest punctuator of a text as the code finds it: the first one of a list with the longer ones first.
use Rattle.std.specs.Prelude.{ℕ, List, [], ◌∷◌, Option, Some, None, if◌then◌else◌}
use Rattle.vk_tokens.specs.declared.tokens.Mark.{Mark}
use Rattle.vk_tokens.specs.declared.tokens.Mark.TheVariants.{OpenParen, CloseParen, OpenBracket, CloseBracket, OpenBrace, CloseBrace, Semicolon, Comma, Question, Colon, Assign, AddAssign, SubAssign, MulAssign, DivAssign, RemAssign, AndAssign, OrAssign, XorAssign, ShlAssign, ShrAssign, Increment, Decrement, Plus, Minus, Star, Slash, Percent, Ampersand, Bar, Caret, Tilde, Bang, ShiftLeft, ShiftRight, EqualEqual, NotEqual, Less, Greater, LessEqual, GreaterEqual, AndAnd, OrOr}
use Rattle.vk_lex.specs.Signs.{begins_mark}

-- all of them, longer ones first
abbrev pub marks : List Mark
marks = ShlAssign ∷ ShrAssign
    ∷ AddAssign ∷ SubAssign ∷ MulAssign ∷ DivAssign ∷ RemAssign ∷ AndAssign ∷ OrAssign ∷ XorAssign ∷ Increment ∷ Decrement
    ∷ ShiftLeft ∷ ShiftRight ∷ EqualEqual ∷ NotEqual ∷ LessEqual ∷ GreaterEqual ∷ AndAnd ∷ OrOr
    ∷ OpenParen ∷ CloseParen ∷ OpenBracket ∷ CloseBracket ∷ OpenBrace ∷ CloseBrace ∷ Semicolon ∷ Comma ∷ Question ∷ Colon
    ∷ Assign ∷ Plus ∷ Minus ∷ Star ∷ Slash ∷ Percent ∷ Ampersand ∷ Bar ∷ Caret ∷ Tilde ∷ Bang ∷ Less ∷ Greater ∷ []

abbrev pub first_front : List Mark → List ℕ → Option Mark
first_front [] text = None
first_front (m ∷ ms) text = if begins_mark m text then Some m else first_front ms text

-- the longest punctuator with which the text begins
unfoldable pub sign_at : List ℕ → Option Mark
sign_at text = first_front marks text
