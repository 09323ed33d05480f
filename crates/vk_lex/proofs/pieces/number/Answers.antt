use Rattle.std.proofs.Common.{take, drop, sym, ◌∙◌, ap}
use Rattle.vk_lex.proofs.Fronts.{number_token, number_fault, floating_fault}
use Rattle.vk_lex.proofs.pieces.number.Goals as goal

pub returns-then-begins_floating-clause-fault : goal.returns-then-begins_floating-clause-fault
returns-then-begins_floating-clause-fault c = floating_fault c.args.text.now c.requires (sym c.if-begins_floating.ensures)

pub returns-in-Ok-clause-token : goal.returns-in-Ok-clause-token
returns-in-Ok-clause-token c =
    let text = c.args.text.now in
    number_token text c.split_at.result.0.now c.split_at.result.1.now c.in-Ok.t c.in-Ok.n c.requires (sym c.if-begins_floating.ensures)
    (c.split_at.ensures.front ∙ ap (λ n. take n text) c.number_len.ensures.len) (c.split_at.ensures.back ∙ ap (λ n. drop n text) c.number_len.ensures.len) (sym c.in-Ok.ensures)

pub returns-in-Err-clause-fault : goal.returns-in-Err-clause-fault
returns-in-Err-clause-fault c =
    let text = c.args.text.now in
    number_fault text c.split_at.result.0.now c.in-Err.rule c.requires (sym c.if-begins_floating.ensures) (c.split_at.ensures.front ∙ ap (λ n. take n text) c.number_len.ensures.len) (sym c.in-Err.ensures)
