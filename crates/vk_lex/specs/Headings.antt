-- Lines that begin with `#`. What may stand between their words are blanks and comments.
use Rattle.std.specs.Prelude.{◌≡◌, ℕ, ◌==◌, Bool, ◌||◌, true, List, [], ◌∷◌, ◌++◌, codes, Option, Some, None}
use Rattle.vk_lex.specs.Characters.{is_word_byte, run, after}
use Rattle.vk_lex.specs.Comments.{Gap, is_open_comment}
use Rattle.vk_lex.specs.Tokens.{Kind, simd, simdfn}
use Rattle.vk_lex.specs.declared.pieces.Mode.{Mode}
use Rattle.vk_lex.specs.declared.pieces.Mode.TheVariants.{Inside, Directive, Idle}

-- The text begins with these words, each behind a gap; the rest follows. A word is the longest run of identifier bytes.
pub data Words : List (List ℕ) → (text rest : List ℕ) → Type 0 where
  no_words : {text : List ℕ} → Words [] text text
  a_word : {w : List ℕ} {ws : List (List ℕ)} {text at rest : List ℕ} → Gap text at → run is_word_byte at ≡ w → Words ws (after is_word_byte at) rest → Words (w ∷ ws) text rest

-- the text is at the end of a line or of the bytes, or at a comment that does not end
abbrev pub ends_line : List ℕ → Bool
ends_line [] = true
ends_line (c ∷ cs) = (c == 10) || is_open_comment (c ∷ cs)

-- nothing but blanks and comments up to there
pub record IsClear (text : List ℕ) : Type 0 where
  pub rest : List ℕ
  pub gap : Gap text rest
  pub ends : ends_line rest ≡ true

-- `<stdint.h>` and nothing else
pub record IsFile (text rest : List ℕ) : Type 0 where
  pub at : List ℕ
  pub gap : Gap text at
  pub file : at ≡ codes "<stdint.h>" ++ rest
  pub clear : IsClear rest

-- behind `#pragma omp`: `simd` or `declare simd`, what it is, and the clauses
pub data IsDirective : (text : List ℕ) → Kind → (rest : List ℕ) → Type 0 where
  a_simd : {text rest : List ℕ} → Words (codes "simd" ∷ []) text rest → IsDirective text simd rest
  a_simdfn : {text rest : List ℕ} → Words (codes "declare" ∷ codes "simd" ∷ []) text rest → IsDirective text simdfn rest

-- What stands behind the `#` of a line, what the line says, how what follows is to be read, and that.
pub data Heading : (text : List ℕ) → Option Kind → Mode → (rest : List ℕ) → Type 0 where
  -- `#include <stdint.h>`
  an_include : {text more rest : List ℕ} → Words (codes "include" ∷ []) text more → IsFile more rest → Heading text None Inside rest
  -- `#pragma`, with another next word than `omp` or with none
  a_pragma : {text rest : List ℕ} → Words (codes "pragma" ∷ []) text rest → ((more : List ℕ) → Words (codes "omp" ∷ []) rest more → ⊥)
      → Heading text None Idle rest
  -- `#pragma omp simd` and `#pragma omp declare simd`
  a_directive : {text more rest : List ℕ} {k : Kind} → Words (codes "pragma" ∷ codes "omp" ∷ []) text more → IsDirective more k rest
      → Heading text (Some k) Directive rest
