-- Lines of places.
use Rattle.std.proofs.Common.{◌≡◌, ℕ, zero, suc, ◌-◌, ◌<◌, ◌≤◌, get_or, arith, List, [], ◌∷◌, drop, length, slice_get, Some, refl, sym, ap, ◌∙◌}
use Rattle.std.proofs.lemmas.Option.{none-some, slice_get_read}
use Rattle.std.proofs.Math.Seq.{drop-length}
use Rattle.std.proofs.lemmas.List.{length-map}
use Rattle.std.specs.Option.{unwrap_or}
use Rattle.vk_lex.specs.Characters.{Char, characters, lines_of, first_line, last_line, line_of}

line_found : (cs : List Char) (last i line : ℕ) → slice_get (lines_of cs) i ≡ Some line → first_line last (drop i cs) ≡ line
line_found [] last i line e = absurd (none-some line e)
line_found (c ∷ cs) last zero line e = ap (λ o. unwrap_or o 0) e
line_found (c ∷ cs) last (suc i) line e = line_found cs last i line e

count : (bytes lines : List ℕ) → lines ≡ lines_of (characters bytes) → length lines ≡ length (characters bytes)
count bytes lines e = ap (λ (l : List ℕ). length l) e ∙ length-map (characters bytes) (λ (c : Char). c.line)

pub line_is : (bytes lines : List ℕ) (left line : ℕ) → lines ≡ lines_of (characters bytes) → left ≤ length lines → 0 < left → line ≡ get_or lines (length lines - left) line → line ≡ line_of bytes left
line_is bytes lines left line e within some is =
    let here : slice_get lines (length lines - left) ≡ Some line = slice_get_read lines (length lines) (length lines - left) line refl (omega (arith, within, some)) is in
    sym (line_found (characters bytes) (last_line bytes) (length (characters bytes) - left) line
    (sym (ap (λ (l : List ℕ). slice_get l (length lines - left)) e ∙ ap (λ n. slice_get (lines_of (characters bytes)) (n - left)) (count bytes lines e)) ∙ here))

pub last_is : (bytes : List ℕ) → last_line bytes ≡ line_of bytes 0
last_is bytes =
    let all : length (characters bytes) - 0 ≡ length (characters bytes) = omega arith in
    ap (first_line (last_line bytes)) (sym (ap (λ n. drop n (characters bytes)) all ∙ drop-length (characters bytes)))
