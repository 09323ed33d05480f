-- The names of a unit are identifiers.
use Rattle.std.proofs.Common.{◌≡◌, ℕ, suc, ◌+◌, Bool, true, false, ◌&&◌, ◌||◌, not, List, [], ◌∷◌, take, length, cond, Option, Some, None, inl, inr, refl, sym, ap, subst, ◌∙◌, arith}
use Rattle.std.proofs.lemmas.Bool.{false≢true, cases_Bool}
use Rattle.std.specs.Char.{is_ascii_digit}
use Rattle.std.specs.Cmp.Lexicographic.{pointwise, same_text}
use Rattle.std.specs.Prelude.{nat_eq, map, slice_index}
use Rattle.std.specs.List.{list_all, list_any, prefix_len}
use Rattle.vk_tokens.specs.declared.tokens.Token.{Token}
use Rattle.vk_lex.specs.Characters.{is_word_byte, is_word_start, run, line_of}
use Rattle.vk_lex.specs.Headings.{Heading, an_include, a_pragma, a_directive, IsDirective, a_simd, a_simdfn}
use Rattle.vk_lex.specs.Lexing.{IsToken, a_name, a_number, a_sign, ended, IsPiece, a_blank, a_newline, a_comment, a_heading, a_token, an_idle_byte, with_kind, Reads, at_end, a_piece}
use Rattle.vk_lex.specs.Tables.{AreTokens, words_of}
use Rattle.vk_lex.specs.Tokens.{Kind, word, integer, sign, simdfn, simd, line_end, Tok, tok_of, IsIdentifier, AreIdentifiers}
use Rattle.vk_lex.specs.declared.pieces.Mode.{Mode}
use Rattle.vk_lex.specs.declared.pieces.Mode.TheVariants.{Start, Inside, Directive, Idle}
use Rattle.vk_lex.proofs.Firsts.{found_at, from_firsts}

-- ---- a name that was found is an identifier

pub run_more : (p : ℕ → Bool) (x : ℕ) (xs : List ℕ) → p x ≡ true → run p (x ∷ xs) ≡ x ∷ run p xs
run_more p x xs e =
    let count : cond true (1 + prefix_len p xs) 0 ≡ suc (prefix_len p xs) = omega arith in
    ap (λ n. take n (x ∷ xs)) (ap (λ b. cond b (1 + prefix_len p xs) 0) e ∙ count)

run_none : (p : ℕ → Bool) (x : ℕ) (xs : List ℕ) → p x ≡ false → run p (x ∷ xs) ≡ []
run_none p x xs e = ap (λ b. take (cond b (1 + prefix_len p xs) 0) (x ∷ xs)) e

pub run_all : (p : ℕ → Bool) (xs : List ℕ) → list_all p (run p xs) ≡ true
run_all p [] = refl
run_all p (x ∷ xs) =
    elim (cases_Bool (p x)) [
      | inl e ↦ ap (list_all p) (run_more p x xs e) ∙ ap (λ b. b && list_all p (run p xs)) e ∙ run_all p xs
      | inr e ↦ ap (list_all p) (run_none p x xs e)
    ]

both_true : (p q : Bool) → (p && q) ≡ true → p ≡ true
both_true true q e = refl
both_true false q e = absurd (false≢true e)

identifier_run : (c : ℕ) (cs : List ℕ) → is_word_start c ≡ true → IsIdentifier (run is_word_byte (c ∷ cs))
identifier_run c cs w = record {
  first = ap (λ (l : List ℕ). is_word_start (slice_index l 0)) (run_more is_word_byte c cs (both_true (is_word_byte c) (not (is_ascii_digit c)) w)) ∙ w;
  bytes = run_all is_word_byte (c ∷ cs);
}

-- a name that was found is an identifier
abbrev IsGood : Option Kind → Type 0
IsGood None = Unit {0}
IsGood (Some (word w)) = IsIdentifier w
IsGood (Some (integer t n)) = Unit {0}
IsGood (Some (sign m)) = Unit {0}
IsGood (Some simdfn) = Unit {0}
IsGood (Some simd) = Unit {0}
IsGood (Some line_end) = Unit {0}

token_good : {text rest : List ℕ} {k : Kind} → IsToken text k rest → IsGood (Some k)
token_good (a_name {c = c} {cs = cs} w f) = identifier_run c cs w
token_good (a_number d f e) = tt
token_good (a_sign o p e) = tt

ended_good : (m : Mode) → IsGood (ended m)
ended_good Start = tt
ended_good Inside = tt
ended_good Directive = tt
ended_good Idle = tt

directive_good : {text rest : List ℕ} {k : Kind} → IsDirective text k rest → IsGood (Some k)
directive_good (a_simd words) = tt
directive_good (a_simdfn words) = tt

heading_good : {text rest : List ℕ} {k : Option Kind} {n : Mode} → Heading text k n rest → IsGood k
heading_good (an_include words file) = tt
heading_good (a_pragma words none) = tt
heading_good (a_directive words d) = directive_good d

piece_good : {m n : Mode} {text rest : List ℕ} {k : Option Kind} → IsPiece m text k n rest → IsGood k
piece_good (a_blank b) = tt
piece_good {m = m} a_newline = ended_good m
piece_good (a_comment e) = tt
piece_good (a_heading h) = heading_good h
piece_good (a_token ne t) = token_good t
piece_good (an_idle_byte ne p) = tt

-- ---- the names of a text

abbrev same : List ℕ → List ℕ → Bool
same v w = pointwise nat_eq v w

abbrev AreGood : List Tok → Type 0
AreGood ts = (w : List ℕ) → list_any (same w) (words_of ts) ≡ true → IsIdentifier w

module _ (line : ℕ → ℕ) (n : ℕ) (ts : List Tok) (rest : AreGood ts) where
  kind_good : (k : Option Kind) → IsGood k → AreGood (with_kind line k n ts)
  kind_good None good w e = rest w e
  kind_good (Some (word v)) good w e =
      elim (cases_Bool (same w v)) [
        | inl t ↦ subst IsIdentifier (sym (same_text w v (sym t))) good
        | inr f ↦ rest w (sym (ap (λ b. b || list_any (same w) (words_of ts)) f) ∙ e)
      ]
  kind_good (Some (integer t m)) good w e = rest w e
  kind_good (Some (sign m)) good w e = rest w e
  kind_good (Some simdfn) good w e = rest w e
  kind_good (Some simd) good w e = rest w e
  kind_good (Some line_end) good w e = rest w e

text_good : (line : ℕ → ℕ) {m : Mode} {text : List ℕ} {ts : List Tok} → Reads line m text ts → AreGood ts
text_good line (at_end {m = m}) = kind_good line 0 [] (λ w e. absurd (false≢true e)) (ended m) (ended_good m)
text_good line (a_piece {text = text} {k = k} {ts = ts} p r) = kind_good line (length text) ts (text_good line r) k (piece_good p)

pub names_good : (bytes : List ℕ) (names : List (List ℕ)) (ts : List Token) → AreTokens bytes names ts → AreIdentifiers names
names_good bytes names ts are k text e =
    let words = words_of (map (tok_of names) ts) in
    text_good (line_of bytes) are.lexes text
    (from_firsts words text (sym (ap (λ (l : List (List ℕ)). list_any (same text) l) are.order) ∙ found_at names k text e))
