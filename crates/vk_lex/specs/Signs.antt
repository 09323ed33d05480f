-- Punctuators (C17 6.4.6): each token is the longest one that the text begins with (C17 6.4).
use Rattle.std.specs.Prelude.{◌≡◌, ◌≤◌, ℕ, nat_eq, Bool, true, false, List, length, codes}
use Rattle.std.specs.List.{starts_with}
use Rattle.vk_tokens.specs.declared.tokens.Mark.{Mark}
use Rattle.vk_tokens.specs.declared.tokens.Mark.TheVariants.{OpenParen, CloseParen, OpenBracket, CloseBracket, OpenBrace, CloseBrace, Semicolon, Comma, Question, Colon, Assign, AddAssign, SubAssign, MulAssign, DivAssign, RemAssign, AndAssign, OrAssign, XorAssign, ShlAssign, ShrAssign, Increment, Decrement, Plus, Minus, Star, Slash, Percent, Ampersand, Bar, Caret, Tilde, Bang, ShiftLeft, ShiftRight, EqualEqual, NotEqual, Less, Greater, LessEqual, GreaterEqual, AndAnd, OrOr}

abbrev pub mark_text : Mark → List ℕ
mark_text OpenParen = codes "("
mark_text CloseParen = codes ")"
mark_text OpenBracket = codes "["
mark_text CloseBracket = codes "]"
mark_text OpenBrace = codes "{"
mark_text CloseBrace = codes "}"
mark_text Semicolon = codes ";"
mark_text Comma = codes ","
mark_text Question = codes "?"
mark_text Colon = codes ":"
mark_text Assign = codes "="
mark_text AddAssign = codes "+="
mark_text SubAssign = codes "-="
mark_text MulAssign = codes "*="
mark_text DivAssign = codes "/="
mark_text RemAssign = codes "%="
mark_text AndAssign = codes "&="
mark_text OrAssign = codes "|="
mark_text XorAssign = codes "^="
mark_text ShlAssign = codes "<<="
mark_text ShrAssign = codes ">>="
mark_text Increment = codes "++"
mark_text Decrement = codes "--"
mark_text Plus = codes "+"
mark_text Minus = codes "-"
mark_text Star = codes "*"
mark_text Slash = codes "/"
mark_text Percent = codes "%"
mark_text Ampersand = codes "&"
mark_text Bar = codes "|"
mark_text Caret = codes "^"
mark_text Tilde = codes "~"
mark_text Bang = codes "!"
mark_text ShiftLeft = codes "<<"
mark_text ShiftRight = codes ">>"
mark_text EqualEqual = codes "=="
mark_text NotEqual = codes "!="
mark_text Less = codes "<"
mark_text Greater = codes ">"
mark_text LessEqual = codes "<="
mark_text GreaterEqual = codes ">="
mark_text AndAnd = codes "&&"
mark_text OrOr = codes "||"

-- the text begins with this punctuator
abbrev pub begins_mark : Mark → List ℕ → Bool
begins_mark m text = starts_with nat_eq text (mark_text m)

-- the longest punctuator with which the text begins
pub record IsLongest (text : List ℕ) (m : Mark) : Type 0 where
  pub begins : begins_mark m text ≡ true
  pub longest : (other : Mark) → begins_mark other text ≡ true → length (mark_text other) ≤ length (mark_text m)

-- the text begins with no punctuator
abbrev pub HasNoMark : List ℕ → Type 0
HasNoMark text = (m : Mark) → begins_mark m text ≡ false
