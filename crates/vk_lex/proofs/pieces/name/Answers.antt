use Rattle.std.proofs.Common.{take, drop, sym, ◌∙◌, ap}
use Rattle.vk_lex.proofs.Fronts.{name_token, name_fault}
use Rattle.vk_lex.proofs.pieces.name.Goals as goal

pub returns-then-is_floating_word-clause-fault : goal.returns-then-is_floating_word-clause-fault
returns-then-is_floating_word-clause-fault c =
    let text = c.args.text.now in
    name_fault text c.split_at.result.0.now c.requires (c.split_at.ensures.front ∙ ap (λ n. take n text) c.word_len.ensures.len) (sym c.if-is_floating_word.ensures)

pub returns-else-is_floating_word-clause-token : goal.returns-else-is_floating_word-clause-token
returns-else-is_floating_word-clause-token c =
    let text = c.args.text.now in
    name_token text c.split_at.result.0.now c.split_at.result.1.now c.requires (c.split_at.ensures.front ∙ ap (λ n. take n text) c.word_len.ensures.len)
    (c.split_at.ensures.back ∙ ap (λ n. drop n text) c.word_len.ensures.len) (sym c.if-is_floating_word.ensures)
