-- Words of types among tokens, as the code counts them.
use Rattle.std.proofs.Common.{◌≡◌, ℕ, zero, suc, ◌+◌, ◌<◌, Bool, true, false, cond, ◌||◌, List, [], ◌∷◌, length, take, drop, count_by, Some, Result, Ok, refl, ap, ◌∙◌, arith}
use Rattle.std.specs.List.{list_any, fold}
use Rattle.vk_grammar_expr.specs.declared.symbols.Sym.{Sym}
use Rattle.vk_grammar_expr.specs.declared.symbols.SymKind.{SymKind}
use Rattle.vk_grammar_expr.specs.declared.symbols.SymKind.TheVariants as kind
use Rattle.vk_grammar_expr.specs.declared.symbols.TypeWord.{TypeWord}
use Rattle.vk_grammar_expr.specs.Symbols.{is_type_part}
use Rattle.vk_grammar_expr.specs.Types.{words_of, word_before, has_words, times, same_word}
use Rattle.vk_grammar_expr.specs.Inner.Parser.{many, Fault, then_do, pick, pure, ◌>>=◌}
use Rattle.vk_grammar_expr.specs.Inner.Parser.{take as take_one}
use Rattle.vk_parse_expr.specs.Inner.TypeRows.{part_count, is_word, is_any_word}

-- the turns of the reader of words are enough
pub parts_read : (turns : ℕ) (w : List Sym) → length w < turns → Path (Result (List Sym × List Sym) Fault) (many turns is_type_part take_one w) (Ok (take (part_count w) w, drop (part_count w) w))
unfolding many is_type_part
parts_read zero w l = absurd (omega arith)
parts_read (suc n) [] l = refl
parts_read (suc n) (t ∷ w) l = by_part (is_type_part (Some t.kind)) (parts_read n w (omega arith))
  where
    by_part : (b : Bool) → Path (Result (List Sym × List Sym) Fault) (many n is_type_part take_one w) (Ok (take (part_count w) w, drop (part_count w) w))
        → Path (Result (List Sym × List Sym) Fault) (pick b (take_one >>= (λ a. many n is_type_part take_one >>= (λ list. pure (a ∷ list)))) (pure []) (t ∷ w))
        (Ok (take (cond b (1 + part_count w) 0) (t ∷ w), drop (cond b (1 + part_count w) 0) (t ∷ w)))
    by_part true e = let one : suc (part_count w) ≡ 1 + part_count w = omega arith in ap (λ read. then_do read (λ list. pure (t ∷ list))) e ∙ ap (λ (n : ℕ). Ok (take n (t ∷ w), drop n (t ∷ w))) one
    by_part false e = refl

-- how often a word stands among tokens
abbrev add_word : TypeWord → ℕ → Sym → ℕ
add_word word n t = n + cond (is_word word t.kind) 1 0

abbrev add_same : TypeWord → ℕ → TypeWord → ℕ
add_same word n found = n + cond (same_word word found) 1 0

counted : (word : TypeWord) (w : List Sym) (n : ℕ) → fold (add_word word) n w ≡ fold (add_same word) n (words_of w)
unfolding words_of
counted word [] n = refl
counted word (t ∷ w) n = by_kind t.kind (counted word w)
  where
    by_kind : (k : SymKind) → ((m : ℕ) → fold (add_word word) m w ≡ fold (add_same word) m (words_of w)) → fold (add_word word) (n + cond (is_word word k) 1 0) w ≡ fold (add_same word) n (word_before k (words_of w))
    by_kind (kind.TypeWord v) e = e (n + cond (same_word word v) 1 0)
    by_kind _ e = let same : n + 0 ≡ n = omega arith in ap (λ m. fold (add_word word) m w) same ∙ e n

pub word_counted : (word : TypeWord) (w : List Sym) → count_by (λ (t : Sym). is_word word t.kind) w ≡ times word (words_of w)
word_counted word w = counted word w 0

pub any_word : (w : List Sym) → list_any (λ (t : Sym). is_any_word t.kind) w ≡ has_words (words_of w)
unfolding words_of
any_word [] = refl
any_word (t ∷ w) = by_kind t.kind (any_word w)
  where
    by_kind : (k : SymKind) → list_any (λ (t : Sym). is_any_word t.kind) w ≡ has_words (words_of w) → (is_any_word k || list_any (λ (t : Sym). is_any_word t.kind) w) ≡ has_words (word_before k (words_of w))
    by_kind (kind.TypeWord v) e = refl
    by_kind _ e = e
