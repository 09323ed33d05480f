-- Comments (C17 6.4.9), and what may stand between the words of a line that begins with `#`.
use Rattle.std.specs.Prelude.{◌≡◌, ℕ, ◌==◌, Bool, true, false, ◌&&◌, List, [], ◌∷◌, drop, Option, Some, None, if◌then◌else◌}
use Rattle.std.specs.Option.{is_none}
use Rattle.vk_lex.specs.Characters.{is_blank, is_not_newline, after}

-- the text begins with this byte
abbrev pub begins_with : ℕ → List ℕ → Bool
begins_with b [] = false
begins_with b (c ∷ cs) = c == b

-- what follows the first `*/` of the text
abbrev pub after_close : List ℕ → Option (List ℕ)
after_close [] = None
after_close (c ∷ cs) = if (c == 42) && begins_with 47 cs then Some (drop 1 cs) else after_close cs

-- what follows a comment at whose first `/` the text stands: `// ..` to the line's end, or `/* .. */`
abbrev pub after_comment : List ℕ → Option (List ℕ)
after_comment [] = None
after_comment (c ∷ []) = None
after_comment (c ∷ d ∷ cs) =
    if (c == 47) && (d == 47) then Some (after is_not_newline cs)
    else if (c == 47) && (d == 42) then after_close cs
    else None

-- the text begins with a `/*` that no `*/` follows
abbrev pub is_open_comment : List ℕ → Bool
is_open_comment [] = false
is_open_comment (c ∷ []) = false
is_open_comment (c ∷ d ∷ cs) = (c == 47) && (d == 42) && is_none (after_close cs)

-- the text begins with a blank
abbrev pub begins_blank : List ℕ → Bool
begins_blank [] = false
begins_blank (c ∷ cs) = is_blank c

-- Blanks and whole comments at the front of a text, as far as they go, and the rest.
pub data Gap : (text rest : List ℕ) → Type 0 where
  a_blank : {c : ℕ} {cs rest : List ℕ} → is_blank c ≡ true → Gap cs rest → Gap (c ∷ cs) rest
  a_comment : {text more rest : List ℕ} → after_comment text ≡ Some more → Gap more rest → Gap text rest
  no_gap : {text : List ℕ} → begins_blank text ≡ false → after_comment text ≡ None → Gap text text
