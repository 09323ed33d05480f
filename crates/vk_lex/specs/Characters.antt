-- The characters of a unit once its lines are joined (C17 5.1.1.2, phase 2), each with the line on which it stands.
use Rattle.std.specs.Prelude.{ℕ, suc, ◌+◌, ◌-◌, ◌==◌, Bool, false, ◌||◌, ◌&&◌, not, List, [], ◌∷◌, length, take, drop, map, if◌then◌else◌}
use Rattle.std.specs.Char.{is_ascii_digit, is_ascii_alphanumeric}
use Rattle.std.specs.List.{prefix_len}

pub record Char : Type 0 where
  pub code : ℕ
  pub line : ℕ

-- the bytes as characters, the first on this line: a newline is the last of its line
abbrev pub numbered : ℕ → List ℕ → List Char
numbered line [] = []
numbered line (b ∷ bs) = record { code = b; line = line } ∷ numbered (if b == 10 then line + 1 else line) bs

-- whether the characters begin with this code, and with these two
abbrev pub begins : ℕ → List Char → Bool
begins code [] = false
begins code (c ∷ cs) = c.code == code

abbrev pub begins_two : ℕ → ℕ → List Char → Bool
begins_two first second [] = false
begins_two first second (c ∷ cs) = (c.code == first) && begins second cs

-- A backslash directly before a newline, or before a carriage return and a newline, is left out together with them.
abbrev pub joined : List Char → List Char
joined [] = []
joined (c ∷ cs) =
    if (c.code == 92) && begins 10 cs then drop 1 (joined cs)
    else if (c.code == 92) && begins_two 13 10 cs then drop 2 (joined cs)
    else c ∷ joined cs

abbrev pub characters : List ℕ → List Char
characters bytes = joined (numbered 1 bytes)

-- how many bytes a join has at the front of the bytes; 0 where there is none
abbrev pub join_len : List ℕ → ℕ
join_len [] = 0
join_len (b ∷ []) = 0
join_len (b ∷ c ∷ []) = if (b == 92) && (c == 10) then 2 else 0
join_len (b ∷ c ∷ d ∷ ds) = if (b == 92) && (c == 10) then 2 else if (b == 92) && ((c == 13) && (d == 10)) then 3 else 0

-- the codes and the lines of characters
abbrev pub codes_of : List Char → List ℕ
codes_of cs = map (λ c. c.code) cs

abbrev pub lines_of : List Char → List ℕ
lines_of cs = map (λ c. c.line) cs

-- the text of a unit: the codes of its characters
abbrev pub text_of : List ℕ → List ℕ
text_of bytes = codes_of (characters bytes)

-- the number of newlines
abbrev pub newlines : List ℕ → ℕ
newlines [] = 0
newlines (b ∷ bs) = if b == 10 then suc (newlines bs) else newlines bs

-- the line on which the bytes end
abbrev pub last_line : List ℕ → ℕ
last_line bytes = newlines bytes + 1

-- the line of the first of these characters, or of the end of the bytes
abbrev pub first_line : ℕ → List Char → ℕ
first_line last [] = last
first_line last (c ∷ cs) = c.line

-- the line of a place, told by how many characters are left from it on
abbrev pub line_of : List ℕ → ℕ → ℕ
line_of bytes left = first_line (last_line bytes) (drop (length (characters bytes) - left) (characters bytes))

-- ---- classes of characters

-- blank, tab, carriage return
abbrev pub is_blank : ℕ → Bool
is_blank c = (c == 32) || (c == 9) || (c == 13)

-- a letter, a digit or an underscore (C17 6.4.2.1)
abbrev pub is_word_byte : ℕ → Bool
is_word_byte c = is_ascii_alphanumeric c || (c == 95)

-- one that begins an identifier
abbrev pub is_word_start : ℕ → Bool
is_word_start c = is_word_byte c && not (is_ascii_digit c)

abbrev pub is_not_newline : ℕ → Bool
is_not_newline c = not (c == 10)

-- the longest run of such bytes with which a text begins, and what follows it
abbrev pub run : (ℕ → Bool) → List ℕ → List ℕ
run p text = take (prefix_len p text) text

abbrev pub after : (ℕ → Bool) → List ℕ → List ℕ
after p text = drop (prefix_len p text) text
