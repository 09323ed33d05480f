-- The words of clauses (OpenMP 5.2, declare simd), which are names with these texts.
use Rattle.std.specs.Prelude.{ℕ, List, [], ◌∷◌, codes, slice_get, Option, None}
use Rattle.std.specs.Option.{unwrap_or}
use Rattle.vk_grammar_expr.specs.declared.symbols.SymKind.{SymKind}
use Rattle.vk_grammar_expr.specs.declared.symbols.SymKind.TheVariants as kind
use Rattle.vk_parse_words.specs.Words.{with_text}
use Rattle.vk_parse_directives.specs.declared.words.Word.{Word}
use Rattle.vk_parse_directives.specs.declared.words.Word.TheVariants.{Simdlen, Uniform, Aligned, Linear, Inbranch, Notinbranch, Val, Ref, Uval, Step}

abbrev pub word_text : Word → List ℕ
word_text Simdlen = codes "simdlen"
word_text Uniform = codes "uniform"
word_text Aligned = codes "aligned"
word_text Linear = codes "linear"
word_text Inbranch = codes "inbranch"
word_text Notinbranch = codes "notinbranch"
word_text Val = codes "val"
word_text Ref = codes "ref"
word_text Uval = codes "uval"
word_text Step = codes "step"

abbrev pub words : List Word
words = Simdlen ∷ Uniform ∷ Aligned ∷ Linear ∷ Inbranch ∷ Notinbranch ∷ Val ∷ Ref ∷ Uval ∷ Step ∷ []

unfoldable pub word_of : List ℕ → Option Word
word_of text = with_text word_text words text

-- the word that a token is
abbrev pub word_at : List (List ℕ) → SymKind → Option Word
word_at names (kind.Name id) = word_of (unwrap_or (slice_get names id.0) [])
word_at names _ = None
