use Rattle.std.proofs.Common.{◌≡◌, take, drop, sym, ◌∙◌, ap}
use Rattle.std.specs.Cmp.Lexicographic.{same_text, other_text}
use Rattle.vk_lex.specs.Characters.{run, is_word_byte}
use Rattle.vk_lex.proofs.Words.{one_word, other_word}
use Rattle.vk_lex.proofs.headings.past_word.Goals as goal

pub returns-then-eq-clause-word : goal.returns-then-eq-clause-word
returns-then-eq-clause-word c =
    let at = c.past_gap-at.result.now in
    let found : c.split_at.result.0.now ≡ run is_word_byte at = c.split_at.ensures.front ∙ ap (λ n. take n at) c.word_len.ensures.len in
    one_word c.past_gap-at.ensures.gap c.args.word.now c.split_at.result.1.now (sym found ∙ same_text c.split_at.result.0.now c.args.word.now c.if-eq.ensures)
    (c.split_at.ensures.back ∙ ap (λ n. drop n at) c.word_len.ensures.len)

pub returns-else-eq-clause-none : goal.returns-else-eq-clause-none
returns-else-eq-clause-none c = λ _ rest words.
    let at = c.past_gap-at.result.now in
    let found : c.split_at.result.0.now ≡ run is_word_byte at = c.split_at.ensures.front ∙ ap (λ n. take n at) c.word_len.ensures.len in
    other_word c.past_gap-at.ensures.gap c.args.word.now (λ is. other_text c.split_at.result.0.now c.args.word.now c.if-eq.ensures (found ∙ is)) rest words
