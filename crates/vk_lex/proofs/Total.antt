-- Each text has tokens or a first fault: what stands at its front is decided.
use Rattle.std.proofs.Common.{◌≡◌, ◌≢◌, ℕ, zero, suc, ◌<◌, true, false, List, [], ◌∷◌, ◌++◌, codes, length, take, drop, Option, Some, None, Result, Ok, Err, ◌⊎◌, inl, inr, refl, sym, ap, subst, ◌∙◌, arith}
use Rattle.std.proofs.lemmas.Bool.{cases_Bool, false≢true}
use Rattle.std.proofs.lemmas.List.{take-append-drop}
use Rattle.std.proofs.Math.Seq.{take-append_seam}
use Rattle.std.specs.Char.{is_ascii_digit}
use Rattle.std.specs.Cmp.Lexicographic.{pointwise, same_text, other_text}
use Rattle.std.specs.Prelude.{nat_eq}
use Rattle.vk_types.specs.declared.types.Ty.{Ty}
use Rattle.vk_tokens.specs.declared.tokens.Mark.{Mark}
use Rattle.vk_unit_rules.specs.declared.rules.UnitRule.{UnitRule}
use Rattle.vk_unit_rules.specs.declared.rules.UnitRule.TheVariants.{C1, C2, C4}
use Rattle.vk_lex.specs.Characters.{is_word_byte, is_word_start, run, after, text_of, line_of}
use Rattle.vk_lex.specs.Comments.{Gap, a_blank as a_gap_blank, a_comment as a_gap_comment, no_gap, after_comment, begins_blank, begins_with, is_open_comment}
use Rattle.vk_lex.specs.Headings.{Words, IsClear, ends_line, IsFile, IsDirective, a_simd, a_simdfn, Heading, an_include, a_pragma, a_directive}
use Rattle.vk_lex.specs.Literals.{begins_floating, begins_fraction, literal}
use Rattle.vk_lex.specs.Signs.{mark_text}
use Rattle.vk_lex.specs.Inner.Signs.{sign_at}
use Rattle.vk_lex.proofs.Marks.{longest, no_mark}
use Rattle.vk_lex.specs.Tokens.{Kind, word, integer, sign, simdfn, simd, Tok}
use Rattle.vk_lex.specs.declared.pieces.Mode.{Mode}
use Rattle.vk_lex.specs.declared.pieces.Mode.TheVariants.{Start, Inside, Directive, Idle}
use Rattle.vk_lex.specs.Lexing.{is_floating_word, is_number_byte, IsPlain, IsOther, BeginsToken, IsToken, a_name, a_number, a_sign, IsNoToken, floating_word, floating_number, no_literal, floating_fraction, stray_byte, going, ended, IsPiece, a_comment, a_token, IsFault, open_comment, no_token, with_kind, Reads, at_end, a_piece, Fails, here, later, Lexes, Refuses}
use Rattle.vk_lex.proofs.Fronts.{newline_piece, blank_piece, idle_piece, hash_text, begins_token, late, heads, headless}
use Rattle.vk_lex.proofs.Gaps.{not_clear, no_file, unclear_file}
use Rattle.vk_lex.proofs.Lengths.{comment_length, piece_length}
use Rattle.vk_lex.proofs.Words.{one_word, other_word, words_then, no_directive, no_declare, bare_declare, no_pragma, no_include, no_heading}

-- ---- gaps

abbrev SomeGap : List ℕ → Type 0
SomeGap text = (rest : List ℕ) × Gap text rest

module _ (text : List ℕ) (next : (more : List ℕ) → length more < length text → SomeGap more) where
  behind_comment : begins_blank text ≡ false → (close : Option (List ℕ)) → after_comment text ≡ close → SomeGap text
  behind_comment b None e = (text, no_gap b e)
  behind_comment b (Some more) e = let g = next more (comment_length text more e) in (g.0, a_gap_comment e g.1)

behind_blank : (text : List ℕ) → ((more : List ℕ) → length more < length text → SomeGap more) → begins_blank text ≡ true → SomeGap text
behind_blank [] next b = absurd (false≢true b)
behind_blank (c ∷ cs) next b = let g = next cs (omega arith) in (g.0, a_gap_blank b g.1)

gap_in : (n : ℕ) (text : List ℕ) → length text < n → SomeGap text
gap_in zero text within = absurd (omega arith)
gap_in (suc n) text within =
    elim (cases_Bool (begins_blank text)) [
      | inl b ↦ behind_blank text (λ rest shorter. gap_in n rest (omega arith)) b
      | inr b ↦ behind_comment text (λ rest shorter. gap_in n rest (omega arith)) b (after_comment text) refl
    ]

gap_of : (text : List ℕ) → SomeGap text
gap_of text = gap_in (suc (length text)) text (omega arith)

-- ---- words

-- there is a rest with this, or none
abbrev Decided : (List ℕ → Type 0) → Type 0
Decided P = ((rest : List ℕ) × P rest) ⊎ ((rest : List ℕ) → P rest → ⊥)

word_next : (w text : List ℕ) → Decided (λ rest. Words (w ∷ []) text rest)
word_next w text =
    let g = gap_of text in
    let found = run is_word_byte g.0 in
    elim (cases_Bool (pointwise nat_eq found w)) [
      | inl t ↦ inl (after is_word_byte g.0, one_word g.1 w (after is_word_byte g.0) (same_text found w (sym t)) refl)
      | inr f ↦ inr (other_word g.1 w (other_text found w (sym f)))
    ]

clear : (text : List ℕ) → IsClear text ⊎ (IsClear text → ⊥)
clear text =
    let g = gap_of text in
    elim (cases_Bool (ends_line g.0)) [
      | inl t ↦ inl (record { rest = g.0; gap = g.1; ends = t })
      | inr f ↦ inr (not_clear text g.0 g.1 f)
    ]

abbrev file : List ℕ
file = codes "<stdint.h>"

file_at : (text at more : List ℕ) → Gap text at → at ≡ file ++ more → Decided (IsFile text)
file_at text at more g e =
    elim (clear more) [
      | inl c ↦ inl (more, record { at = at; gap = g; file = e; clear = c })
      | inr none ↦ inr (λ rest f. unclear_file text at more rest g e none f)
    ]

file_next : (text : List ℕ) → Decided (IsFile text)
file_next text =
    let g = gap_of text in
    let front = take (length file) g.0 in
    let back = drop (length file) g.0 in
    elim (cases_Bool (pointwise nat_eq front file)) [
      | inl t ↦ file_at text g.0 back g.1 (sym (take-append-drop (length file) g.0) ∙ ap (λ (x : List ℕ). x ++ back) (same_text front file (sym t)))
      | inr f ↦ inr (λ rest. no_file text g.0 rest g.1 (λ r e. other_text front file (sym f) (ap (take (length file)) e ∙ take-append_seam file r)))
    ]

-- ---- lines that begin with `#`

abbrev SomeDirective : List ℕ → Type 0
SomeDirective text = ((k : Kind) × (rest : List ℕ) × IsDirective text k rest) ⊎ ((k : Kind) (rest : List ℕ) → IsDirective text k rest → ⊥)

directive_next : (text : List ℕ) → SomeDirective text
directive_next text =
    elim (word_next (codes "simd") text) [
      | inl w ↦ inl (simd, w.0, a_simd w.1)
      | inr none ↦ elim (word_next (codes "declare") text) [
        | inl d ↦ elim (word_next (codes "simd") d.0) [
          | inl s ↦ inl (simdfn, s.0, a_simdfn (words_then d.1 s.1))
          | inr bare ↦ inr (no_directive none (bare_declare d.1 bare))
        ]
        | inr never ↦ inr (no_directive none (no_declare never))
      ]
    ]

abbrev SomeHeading : List ℕ → Type 0
SomeHeading text = ((k : Option Kind) × (n : Mode) × (rest : List ℕ) × Heading text k n rest) ⊎ ((k : Option Kind) (n : Mode) (rest : List ℕ) → Heading text k n rest → ⊥)

pragma_next : (before text : List ℕ) → Words (codes "pragma" ∷ []) before text → SomeHeading before
pragma_next before text words =
    elim (word_next (codes "omp") text) [
      | inl omp ↦ elim (directive_next omp.0) [
        | inl d ↦ inl (Some d.0, Directive, d.1, a_directive (words_then words omp.1) d.2)
        | inr none ↦ inr (no_pragma words omp.1 none)
      ]
      | inr never ↦ inl (None, Idle, text, a_pragma words never)
    ]

include_next : (before text : List ℕ) → Words (codes "include" ∷ []) before text → SomeHeading before
include_next before text words =
    elim (file_next text) [
      | inl f ↦ inl (None, Inside, f.0, an_include words f.1)
      | inr none ↦ inr (no_include words none)
    ]

heading_next : (text : List ℕ) → SomeHeading text
heading_next text =
    elim (word_next (codes "include") text) [
      | inl w ↦ include_next text w.0 w.1
      | inr none ↦ elim (word_next (codes "pragma") text) [
        | inl w ↦ pragma_next text w.0 w.1
        | inr never ↦ inr (no_heading none never)
      ]
    ]

-- ---- tokens

abbrev SomeToken : List ℕ → Type 0
SomeToken text = ((k : Kind) × (rest : List ℕ) × IsToken text k rest) ⊎ ((r : UnitRule) × IsNoToken text r)

module _ (c : ℕ) (cs : List ℕ) where
  name_next : is_word_start c ≡ true → SomeToken (c ∷ cs)
  name_next w =
      let name = run is_word_byte (c ∷ cs) in
      elim (cases_Bool (is_floating_word name)) [
        | inl t ↦ inr (C2, floating_word w t)
        | inr f ↦ inl (word name, after is_word_byte (c ∷ cs), a_name w f)
      ]

  literal_next : is_ascii_digit c ≡ true → begins_floating (c ∷ cs) ≡ false → (read : Result (Ty × ℕ) UnitRule) → literal (run is_number_byte (c ∷ cs)) ≡ read
      → SomeToken (c ∷ cs)
  literal_next d f (Ok typed) e = inl (integer typed.0 typed.1, after is_number_byte (c ∷ cs), a_number d f e)
  literal_next d f (Err r) e = inr (r, no_literal d f e)

  number_next : is_ascii_digit c ≡ true → SomeToken (c ∷ cs)
  number_next d =
      elim (cases_Bool (begins_floating (c ∷ cs))) [
        | inl t ↦ inr (C2, floating_number d t)
        | inr f ↦ literal_next d f (literal (run is_number_byte (c ∷ cs))) refl
      ]

  sign_next : IsOther c → IsPlain (c ∷ cs) → (found : Option Mark) → sign_at (c ∷ cs) ≡ found → SomeToken (c ∷ cs)
  sign_next o p (Some m) e = inl (sign m, drop (length (mark_text m)) (c ∷ cs), a_sign o p (longest (c ∷ cs) m e))
  sign_next o p None e =
      elim (cases_Bool (begins_fraction (c ∷ cs))) [
        | inl t ↦ inr (C2, floating_fraction o p (no_mark (c ∷ cs) e) t)
        | inr f ↦ inr (C1, stray_byte o p (no_mark (c ∷ cs) e) f)
      ]

token_next : (text : List ℕ) → BeginsToken text → IsPlain text → SomeToken text
token_next [] b p = absurd b
token_next (c ∷ cs) b p =
    elim (cases_Bool (is_word_start c)) [
      | inl w ↦ name_next c cs w
      | inr w ↦ elim (cases_Bool (is_ascii_digit c)) [
        | inl d ↦ number_next c cs d
        | inr d ↦ sign_next c cs (record { blank = b.0; newline = b.1; hash = b.2; word = w; digit = d }) p (sign_at (c ∷ cs)) refl
      ]
    ]

-- ---- pieces

abbrev SomePiece : Mode → List ℕ → Type 0
SomePiece m text = (k : Option Kind) × (n : Mode) × (rest : List ℕ) × IsPiece m text k n rest

abbrev SomeFault : Mode → List ℕ → Type 0
SomeFault m text = (r : UnitRule) × IsFault m text r

idle : (m : Mode) → (m ≡ Idle) ⊎ (m ≢ Idle)
idle Start = inr (λ e. cc)
idle Inside = inr (λ e. cc)
idle Directive = inr (λ e. cc)
idle Idle = inl refl

start : (m : Mode) → (m ≡ Start) ⊎ (m ≢ Start)
start Start = inl refl
start Inside = inr (λ e. cc)
start Directive = inr (λ e. cc)
start Idle = inr (λ e. cc)

module _ (m : Mode) (text : List ℕ) (some : 0 < length text) where
  hash_next : m ≢ Idle → begins_with 35 text ≡ true → SomePiece m text ⊎ SomeFault m text
  hash_next busy t =
      let cs = drop 1 text in
      let e : 35 ∷ cs ≡ text = hash_text text cs (sym t) refl in
      elim (start m) [
        | inl s ↦ elim (heading_next cs) [
          | inl h ↦ inl (h.0, h.1, h.2, subst (λ (u : List ℕ). IsPiece m u h.0 h.1 h.2) e (heads m cs h.2 h.0 h.1 s h.3))
          | inr none ↦ inr (C4, subst (λ (u : List ℕ). IsFault m u C4) e (headless m cs s none))
        ]
        | inr s ↦ inr (C1, subst (λ (u : List ℕ). IsFault m u C1) e (late m cs s busy))
      ]

  busy_next : m ≢ Idle → IsPlain text → begins_with 10 text ≡ false → begins_blank text ≡ false → SomePiece m text ⊎ SomeFault m text
  busy_next busy p newline blank =
      elim (cases_Bool (begins_with 35 text)) [
        | inl t ↦ hash_next busy t
        | inr hash ↦ elim (token_next text (begins_token text some (sym blank) (sym newline) (sym hash)) p) [
          | inl k ↦ inl (Some k.0, going m, k.1, a_token busy k.2)
          | inr r ↦ inr (r.0, no_token busy r.1)
        ]
      ]

  plain_next : IsPlain text → SomePiece m text ⊎ SomeFault m text
  plain_next p =
      let rest = drop 1 text in
      elim (cases_Bool (begins_with 10 text)) [
        | inl t ↦ inl (ended m, Start, rest, newline_piece m text rest (ended m) (sym t) refl refl)
        | inr newline ↦ elim (cases_Bool (begins_blank text)) [
          | inl t ↦ inl (None, m, rest, blank_piece m text rest (sym t) refl)
          | inr blank ↦ elim (idle m) [
            | inl is ↦ inl (None, Idle, rest, idle_piece m text rest some is (sym newline) p refl)
            | inr busy ↦ busy_next busy p newline blank
          ]
        ]
      ]

  closed_next : is_open_comment text ≡ false → (close : Option (List ℕ)) → after_comment text ≡ close → SomePiece m text ⊎ SomeFault m text
  closed_next f (Some rest) e = inl (None, m, rest, a_comment e)
  closed_next f None e = plain_next (record { whole = e; not_open = f })

  piece_next : SomePiece m text ⊎ SomeFault m text
  piece_next =
      elim (cases_Bool (is_open_comment text)) [
        | inl t ↦ inr (C1, open_comment t)
        | inr f ↦ closed_next f (after_comment text) refl
      ]

-- ---- texts

module _ (line : ℕ → ℕ) where
  abbrev Told : Mode → List ℕ → Type 0
  Told m text = ((ts : List Tok) × Reads line m text ts) ⊎ ((l : ℕ) × (r : UnitRule) × Fails line m text l r)

  further : (m : Mode) (text : List ℕ) (p : SomePiece m text) → Told p.1 p.2 → Told m text
  further m text p (inl r) = inl (with_kind line p.0 (length text) r.0, a_piece p.3 r.1)
  further m text p (inr f) = inr (f.0, f.1, later p.3 f.2)

  text_in : (n : ℕ) (m : Mode) (text : List ℕ) → length text < n → Told m text
  text_in zero m text within = absurd (omega arith)
  text_in (suc n) m [] within = inl (with_kind line (ended m) 0 [], at_end)
  text_in (suc n) m (c ∷ cs) within =
      elim (piece_next m (c ∷ cs) (omega arith)) [
        | inl p ↦ further m (c ∷ cs) p (text_in n p.1 p.2 (let below = piece_length p.3 in omega arith))
        | inr f ↦ inr (line (length (c ∷ cs)), f.0, here f.1)
      ]

pub some_answer : (bytes : List ℕ) → ((ts : List Tok) × Lexes bytes ts) ⊎ ((line : ℕ) × (rule : UnitRule) × Refuses bytes line rule)
some_answer bytes = text_in (line_of bytes) (suc (length (text_of bytes))) Start (text_of bytes) (omega arith)
